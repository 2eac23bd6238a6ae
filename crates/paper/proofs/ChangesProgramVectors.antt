-- Document 02, Req 11: what the program `listing_changes` prints of some listings, by computing the definitions.
-- Assumes nothing.
use mathlib.Core.Path.{◌≡◌, refl}
use Prim.Native.Nat.{ℕ}
use Prim.Native.String.{String}
use mathlib.Core.List.{List, [], ◌∷◌, ◌++◌, map}
use lib.ListN.{replicate}
use Rattle.paper.specs.ReadingProgram.{decimal_in, decimal, ascii, text_of}
use Rattle.paper.specs.Form.{filled_in}
use Rattle.paper.specs.Tally.{count}
use Rattle.paper.specs.Listing.{one_by_one, records_in, read_listing, has_code, find}
use Rattle.paper.specs.Changes.{same_record, entries_of, changes, repeated_after, read_for_changes}
use Rattle.paper.specs.CodeText.{code_places, code_text}
use Rattle.paper.specs.ChangesProgram.{entry_lines, changes_printed, how_to_use}
use Rattle.paper.proofs.ChangesVectors.{plain, severe, A, B, C, D}

-- a row: two files, and what is printed
abbrev Row : Type 0
Row = List ℕ × List ℕ × String

abbrev rows : List Row
rows =
    -- nothing changed: no record, and the same records in another order under another mask
    (plain 0xFF [], plain 0xFF [], "no changes\n")
    ∷ (plain 0xFF (A 0x2F ++ C 0x08), plain 0x7F (C 0x08 ++ A 0x2F), "no changes\n")
    -- a code is gone, its record differs, it is new: the code, then the old status before the new one
    ∷ (plain 0xFF (A 0x2F ++ C 0x08), plain 0xFF (C 0x08), "gone P0301-11 2F\n")
    ∷ (plain 0xFF (A 0x2F ++ C 0x08), plain 0xFF (A 0x08 ++ C 0x08), "differs P0301-11 2F 08\n")
    ∷ (plain 0xFF (A 0x2F), plain 0xFF (A 0x2F ++ C 0x08), "new U0100-00 08\n")
    -- every letter of a code, letters as digits, statuses below 16
    ∷ (plain 0xFF (0x9A ∷ 0xBC ∷ 0xDE ∷ 0x0F ∷ []), plain 0xFF (0x9A ∷ 0xBC ∷ 0xDE ∷ 0xF0 ∷ []), "differs B1ABC-DE 0F F0\n")
    ∷ (plain 0xFF (0x00 ∷ 0x00 ∷ 0x00 ∷ 0x00 ∷ []), plain 0xFF (0xFF ∷ 0xFF ∷ 0xFF ∷ 0xFF ∷ []), "gone P0000-00 00\nnew U3FFF-FF FF\n")
    -- in the first's order C, which differs, before A, which is gone, B being the same; then D, which is new and stands first in the second
    ∷ (plain 0xFF (C 0x08 ++ B 0x01 ++ A 0x2F), plain 0xFF (D 0x04 ++ B 0x01 ++ C 0x09), "differs U0100-00 08 09\ngone P0301-11 2F\nnew C0002-00 04\n")
    -- each listing says its sub-function itself: 0x08 twice, and 0x02 against 0x08, where the severity alone differs
    ∷ (severe 0xFF (0x20 ∷ 0x10 ∷ A 0x2F), severe 0xFF (0x20 ∷ 0x10 ∷ A 0x2F), "no changes\n")
    ∷ (plain 0xFF (A 0x2F), severe 0xFF (0 ∷ 0 ∷ A 0x2F), "differs P0301-11 2F 2F\n")
    ∷ (severe 0xFF (0 ∷ 0 ∷ A 0x2F), plain 0xFF (A 0x2F), "differs P0301-11 2F 2F\n")
    -- a refusal, with its number and what it carries: an empty file, cut records of either size, a code that stands twice, an unknown sub-function
    ∷ ([], [], "refused first 1 3 0\n")
    ∷ (plain 0xFF (A 0x2F), [], "refused second 1 3 0\n")
    ∷ (plain 0xFF (A 0x2F ++ (0x03 ∷ [])), plain 0xFF [], "refused first 10 0 0\n")
    ∷ (plain 0xFF [], severe 0xFF (A 0x2F), "refused second 10 0 0\n")
    ∷ (plain 0xFF (A 0x2F ++ C 0x08 ++ B 0x01 ++ A 0x08), plain 0xFF [], "refused first 17 3 0\n")
    ∷ (plain 0xFF [], plain 0xFF (A 0x2F ++ A 0x2F), "refused second 17 1 0\n")
    ∷ (0x59 ∷ 0x04 ∷ 0xFF ∷ [], plain 0xFF [], "refused first 15 0 0\n")
    ∷ (plain 0xFF [], 0x58 ∷ 0x08 ∷ 0xFF ∷ [], "refused second 15 0 0\n")
    -- the first's refusals before the second's
    ∷ (plain 0xFF (A 0x2F ++ A 0x2F), [], "refused first 17 1 0\n")
    ∷ []

-- 65,536 bytes are read, and one more of either is too long, whatever the other is
abbrev long : List Row
long =
    (0x59 ∷ 0x02 ∷ replicate 65534 0, plain 0xFF [], "refused first 12 0 0\n")
    ∷ (plain 0xFF [], 0x59 ∷ 0x08 ∷ replicate 65534 0, "refused second 12 0 0\n")
    ∷ (0x59 ∷ 0x02 ∷ replicate 65535 0, plain 0xFF [], "too long\n")
    ∷ ([], 0x59 ∷ 0x02 ∷ replicate 65535 0, "too long\n")
    ∷ []

abbrev printed : Row → List ℕ
printed r = changes_printed r.0 r.1

abbrev told : Row → List ℕ
told r = ascii r.2

-- of each two files the text of their row is printed
pub rows_right : (map printed rows ≡ map told rows) × (map printed long ≡ map told long)
unfolding decimal_in decimal text_of filled_in count one_by_one records_in read_listing has_code find same_record entries_of changes repeated_after read_for_changes code_places code_text entry_lines changes_printed
rows_right = (refl, refl)

-- what is said of other arguments
pub use_said : how_to_use ≡ ascii "usage: listing_changes OLD NEW, each a file with one listing\n"
use_said = refl
