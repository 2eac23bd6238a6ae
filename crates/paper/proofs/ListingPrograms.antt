-- Document 02, Req 12: what `export_listing` and `import_listing` write of some inputs, by computing the definitions.
-- Assumes nothing.
use mathlib.Core.Path.{◌≡◌, refl}
use Prim.Native.Nat.{ℕ, ◌≤◌}
use Prim.Native.String.{String}
use mathlib.Core.List.{List, [], ◌∷◌, map}
use lib.ListN.{length, replicate}
use borrow.Author.Tests.{le-leb}
use Rattle.paper.specs.ReadingProgram.{decimal_in, decimal, ascii, text_of}
use Rattle.paper.specs.Listing.{one_by_one, records_in, read_listing, records_bytes, listing_bytes, first_place, numbers_from}
use Rattle.paper.specs.CodeText.{code_places, line_places, line_text, lines_text, export_listing, wrong_at, first_wrong, records_in_lines, import_listing}
use Rattle.paper.specs.ListingProgram.{export_text, Printed, to_output, to_error, listing_or, import_prints, how_to_use, import_writes}

-- ---- export_listing
abbrev exports : List (List ℕ × String)
exports =
    (0x59 ∷ 0x02 ∷ 0x7F ∷ 0x03 ∷ 0x01 ∷ 0x11 ∷ 0x2F ∷ 0xC1 ∷ 0x00 ∷ 0x00 ∷ 0x08 ∷ [], "P0301-11 2F\nU0100-00 08\n")
    -- a 0x08 listing says so itself
    ∷ (0x59 ∷ 0x08 ∷ 0xFF ∷ 0x20 ∷ 0x33 ∷ 0x9A ∷ 0xBC ∷ 0xDE ∷ 0x09 ∷ [], "B1ABC-DE 09\n")
    -- no record
    ∷ (0x59 ∷ 0x02 ∷ 0xFF ∷ [], "")
    ∷ (0x59 ∷ 0x08 ∷ 0xFF ∷ [], "")
    -- refused: too short, wrong first bytes, a sub-function that is neither, a cut record
    ∷ ([], "refused 1 3 0\n")
    ∷ (0x59 ∷ 0x08 ∷ [], "refused 1 3 2\n")
    ∷ (0x19 ∷ 0x08 ∷ 0xFF ∷ [], "refused 15 0 0\n")
    ∷ (0x59 ∷ 0x0A ∷ 0xFF ∷ [], "refused 15 0 0\n")
    ∷ (0x59 ∷ 0x02 ∷ 0x7F ∷ 0x03 ∷ 0x01 ∷ 0x11 ∷ [], "refused 10 0 0\n")
    ∷ (0x59 ∷ 0x08 ∷ 0x7F ∷ 0x20 ∷ 0x33 ∷ 0x03 ∷ 0x01 ∷ [], "refused 10 0 0\n")
    -- 65,536 bytes have too many records, one byte more is too long, whatever it is
    ∷ (0x59 ∷ 0x02 ∷ replicate 65534 0, "refused 12 0 0\n")
    ∷ (0x59 ∷ 0x02 ∷ replicate 65535 0, "too long\n")
    ∷ (replicate 65537 0, "too long\n")
    ∷ []

pub exports_right : map (λ (r : List ℕ × String). export_text r.0) exports ≡ map (λ (r : List ℕ × String). ascii r.1) exports
unfolding decimal_in decimal text_of code_places line_places line_text lines_text export_listing one_by_one records_in read_listing export_text
exports_right = refl

-- ---- import_listing
-- a row: the argument, the text, and what is written where
abbrev imports : List (String × String × Printed)
imports =
    ("7F", "P0301-11 2F\nU0100-00 08\n", to_output (0x59 ∷ 0x02 ∷ 0x7F ∷ 0x03 ∷ 0x01 ∷ 0x11 ∷ 0x2F ∷ 0xC1 ∷ 0x00 ∷ 0x00 ∷ 0x08 ∷ []))
    ∷ ("00", "", to_output (0x59 ∷ 0x02 ∷ 0x00 ∷ []))
    ∷ ("F0", "B1ABC-DE 09\n", to_output (0x59 ∷ 0x02 ∷ 0xF0 ∷ 0x9A ∷ 0xBC ∷ 0xDE ∷ 0x09 ∷ []))
    -- refused
    ∷ ("7F", "P0301-11 2F\nU0100-00 08", to_error (ascii "refused 18 23 0\n"))
    ∷ ("7F", "p0301-11 2F\n", to_error (ascii "refused 18 0 0\n"))
    -- no mask: small letters, one digit, three, none, another word; whatever the text
    ∷ ("7f", "", to_error how_to_use)
    ∷ ("7", "", to_error how_to_use)
    ∷ ("07F", "", to_error how_to_use)
    ∷ ("", "", to_error how_to_use)
    ∷ ("G0", "p", to_error how_to_use)
    ∷ ("0x", "p", to_error how_to_use)
    ∷ []

pub imports_right : map (λ (r : String × String × Printed). import_writes (ascii r.0) (ascii r.1)) imports ≡ map (λ (r : String × String × Printed). r.2) imports
unfolding decimal_in decimal text_of code_places line_places first_place numbers_from wrong_at first_wrong one_by_one records_in_lines records_bytes listing_bytes import_listing import_prints import_writes
imports_right = refl

-- a text of up to 65,536 characters is imported
pub judged : (mask : ℕ) (t : List ℕ) → length t ≤ 65536 → import_prints mask t ≡ listing_or (import_listing mask t)
unfolding import_prints
judged mask t h = rw (le-leb _ _ h)

-- one of more is too long, after an argument that is no mask
pub too_long_lem : import_writes (ascii "7F") (replicate 65537 0) ∷ import_writes (ascii "7f") (replicate 65537 0) ∷ [] ≡ to_error (ascii "too long\n") ∷ to_error how_to_use ∷ []
unfolding text_of first_place import_prints import_writes
too_long_lem = refl
