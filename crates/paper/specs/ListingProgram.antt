-- Document 02, Req 12: what the programs `export_listing` and `import_listing` write. The lines of a refusal and of `too long` are the reading program's.
use Rattle.std.specs.Prelude.{ℕ, ◌+◌, ◌*◌, Bool, List, length, get_or, leb, ltb, eqb}
use Rattle.paper.specs.Choice.{pick, both}
use Rattle.paper.specs.Answer.{Answer, accepted, refused}
use Rattle.paper.specs.ReadingProgram.{too_long, bad, ascii, text_of}
use Rattle.paper.specs.Listing.{SubFunction, by_status_mask, by_severity_mask}
use Rattle.paper.specs.CodeText.{hex_at, export_listing, import_listing}

-- ---- export_listing
-- a listing says its sub-function itself: 0x08 in its second byte; else it is taken for 0x02, whose reader refuses what is neither
abbrev pub sub_function_said : List ℕ → SubFunction
sub_function_said s = pick (eqb (get_or s 1 0) 0x08) by_severity_mask by_status_mask

-- the lines, or the line of the refusal
abbrev pub lines_or : Answer (List ℕ) → List ℕ
lines_or (accepted t) = t
lines_or (refused e) = text_of (bad e)

-- all that it prints; above 65,536 bytes `too long`
unfoldable pub export_text : List ℕ → List ℕ
export_text s = pick (leb (length s) 65536) (lines_or (export_listing (sub_function_said s) s)) (text_of too_long)

-- ---- import_listing
-- what it writes: a listing to standard output, or a line to standard error and nothing to standard output
pub data Printed : Type 0 where
  to_output : List ℕ → Printed
  to_error : List ℕ → Printed

abbrev pub listing_or : Answer (List ℕ) → Printed
listing_or (accepted s) = to_output s
listing_or (refused e) = to_error (text_of (bad e))

-- with a mask, of a text; above 65,536 bytes `too long`
unfoldable pub import_prints : (mask : ℕ) → List ℕ → Printed
import_prints mask t = pick (leb (length t) 65536) (listing_or (import_listing mask t)) (to_error (text_of too_long))

-- ---- its one argument
-- the mask: two hex digits, capitals
abbrev pub is_mask : List ℕ → Bool
is_mask w = both (eqb (length w) 2) (both (ltb (hex_at w 0) 16) (ltb (hex_at w 1) 16))

abbrev pub mask_in : List ℕ → ℕ
mask_in w = hex_at w 0 * 16 + hex_at w 1

-- what it says to standard error where the argument is no mask, or there is none or more than one
abbrev pub how_to_use : List ℕ
how_to_use = ascii "usage: import_listing MASK < TEXT, where MASK is two hex digits, 00 to FF\n"

unfoldable pub import_writes : (argument text : List ℕ) → Printed
import_writes w t = pick (is_mask w) (import_prints (mask_in w) t) (to_error how_to_use)
