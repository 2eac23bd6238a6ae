-- Document 02, Req 12: what some codes and texts answer, and a listing exported and imported, by computing the definitions.
-- Assumes nothing.
use mathlib.Core.Path.{◌≡◌, refl}
use Prim.Native.Nat.{ℕ, zero, suc, ◌<◌}
use Prim.Native.Char.{code}
use Prim.Native.String.{String}
use mathlib.Core.List.{List, [], ◌∷◌, ◌++◌, map}
use native.Mathlib.Omega.{arith}
use lib.ListN.{replicate, length-replicate}
use Rattle.paper.specs.Answer.{refusal, accepted, refused, over, written}
use Rattle.paper.specs.TroubleCode.{TroubleCode, trouble_code}
use Rattle.paper.specs.ReadingProgram.{ascii}
use Rattle.paper.specs.Joined.{Each}
use Rattle.paper.specs.Listing.{by_status_mask, by_severity_mask, Listed, unknown_severity, one_by_one, records_in, read_listing, records_bytes, listing_bytes, first_place, numbers_from}
use Rattle.paper.specs.CodeText.{code_places, line_places, code_text, line_text, lines_text, export_listing, lines, can_stand, wrong_at, first_wrong, read_code_text, records_in_lines, import_listing, InRow}
use Rattle.paper.proofs.Spelling.{row_has}
use Rattle.paper.proofs.LineText.{LineBytes}
use Rattle.paper.proofs.ListingText.{lines-too-many, bad_behind}

-- ---- codes
-- a row: a code and its text
abbrev codes : List (TroubleCode × String)
codes =
    (trouble_code 0x03 0x01 0x11, "P0301-11")
    ∷ (trouble_code 0xC1 0x00 0x00, "U0100-00")
    ∷ (trouble_code 0x7F 0xFF 0xFF, "C3FFF-FF")
    ∷ (trouble_code 0x40 0x00 0x00, "C0000-00")
    ∷ (trouble_code 0x80 0x00 0x00, "B0000-00")
    ∷ (trouble_code 0x9A 0xBC 0xDE, "B1ABC-DE")
    ∷ (trouble_code 0x00 0x00 0x00, "P0000-00")
    ∷ (trouble_code 0xFF 0xFF 0xFF, "U3FFF-FF")
    ∷ (trouble_code 0x2F 0x12 0x34, "P2F12-34")
    ∷ []

pub codes_written : map (λ (r : TroubleCode × String). code_text r.0) codes ≡ map (λ (r : TroubleCode × String). ascii r.1) codes
unfolding code_places code_text
codes_written = refl

pub codes_read : map (λ (r : TroubleCode × String). read_code_text (ascii r.1)) codes ≡ map (λ (r : TroubleCode × String). accepted r.0) codes
unfolding code_places line_places first_place numbers_from wrong_at first_wrong read_code_text
codes_read = refl

-- texts that are no code, and the place that 18 carries
abbrev no_codes : List (String × ℕ)
no_codes =
    -- small letters
    ("p0301-11", 0)
    ∷ ("P0a01-11", 2)
    ∷ ("P0301-1f", 7)
    -- a character that stands elsewhere, or nowhere
    ∷ ("F0301-11", 0)
    ∷ ("P4301-11", 1)
    ∷ ("PA301-11", 1)
    ∷ ("P0G01-11", 2)
    ∷ ("P03O1-11", 3)
    ∷ ("P0301:11", 5)
    ∷ ("P0301 11", 5)
    ∷ ("P030111", 5)
    ∷ ("P03-0111", 3)
    -- the first of several
    ∷ ("X9zzz+zz", 0)
    ∷ ("P0301+zz", 5)
    -- it ends early
    ∷ ("", 0)
    ∷ ("P", 1)
    ∷ ("P0301-1", 7)
    -- a ninth character
    ∷ ("P0301-110", 8)
    ∷ ("P0301-11\n", 8)
    ∷ ("P0301-11 2F", 8)
    ∷ (" P0301-11", 0)
    ∷ []

pub codes_refused : map (λ (r : String × ℕ). read_code_text (ascii r.0)) no_codes ≡ map (λ (r : String × ℕ). refused (refusal 18 r.1 0)) no_codes
unfolding code_places line_places first_place numbers_from wrong_at first_wrong read_code_text
codes_refused = refl

-- ---- listings
-- three records of 0x02, and the same of 0x08 with severity and functional unit
abbrev plain : List ℕ
plain = 0x59 ∷ 0x02 ∷ 0x7F ∷ 0x03 ∷ 0x01 ∷ 0x11 ∷ 0x2F ∷ 0xC1 ∷ 0x00 ∷ 0x00 ∷ 0x08 ∷ 0x03 ∷ 0x01 ∷ 0x11 ∷ 0xF0 ∷ []

abbrev severe : List ℕ
severe =
    0x59 ∷ 0x08 ∷ 0xFF ∷ 0x20 ∷ 0x33 ∷ 0x03 ∷ 0x01 ∷ 0x11 ∷ 0x2F ∷ 0x40 ∷ 0x00 ∷ 0xC1 ∷ 0x00 ∷ 0x00 ∷ 0x08
    ∷ 0x80 ∷ 0xFE ∷ 0x03 ∷ 0x01 ∷ 0x11 ∷ 0xF0 ∷ []

abbrev exported : String
exported = "P0301-11 2F\nU0100-00 08\nP0301-11 F0\n"

-- no record: no line. A refusal is the reader's: 1, 15 for the other sub-function too, 10
pub exports : export_listing by_status_mask plain ∷ export_listing by_severity_mask severe ∷ export_listing by_status_mask (0x59 ∷ 0x02 ∷ 0xFF ∷ []) ∷ export_listing by_severity_mask (0x59 ∷ 0x08 ∷ [])
    ∷ export_listing by_status_mask severe ∷ export_listing by_status_mask (plain ++ (0x03 ∷ [])) ∷ []
    ≡ accepted (ascii exported) ∷ accepted (ascii exported) ∷ accepted [] ∷ refused (refusal 1 3 2) ∷ refused (refusal 15 0 0) ∷ refused (refusal 10 0 0) ∷ []
unfolding code_places line_places line_text lines_text export_listing one_by_one records_in read_listing
exports = refl

-- imported again, with another mask: the same codes and statuses, as 0x02
pub imports : import_listing 0x7F (ascii exported) ∷ import_listing 0x00 (ascii "B1ABC-DE 09\n") ∷ import_listing 0xFF [] ∷ []
    ≡ accepted plain ∷ accepted (0x59 ∷ 0x02 ∷ 0x00 ∷ 0x9A ∷ 0xBC ∷ 0xDE ∷ 0x09 ∷ []) ∷ accepted (0x59 ∷ 0x02 ∷ 0xFF ∷ []) ∷ []
unfolding code_places line_places first_place numbers_from wrong_at first_wrong one_by_one records_in_lines records_bytes listing_bytes import_listing
imports = refl

-- texts that are no lines, and the place that 18 carries
abbrev no_lines : List (String × ℕ)
no_lines =
    -- it ends early: a line feed is missing, the last one too, or more
    ("P0301-11 2F", 11)
    ∷ ("P0301-11 2F\nU0100-00 08", 23)
    ∷ ("P0301-11", 8)
    ∷ ("P0301-11 2F\nU", 13)
    ∷ ("P0301-11 2FU0100-00 08\n", 11)
    -- a carriage return, an empty line, at the start, between and at the end
    ∷ ("P0301-11 2F\r\n", 11)
    ∷ ("\n", 0)
    ∷ ("\nP0301-11 2F\n", 0)
    ∷ ("P0301-11 2F\n\nU0100-00 08\n", 12)
    ∷ ("P0301-11 2F\n\n", 12)
    -- a wrong character in the second line, counted over the whole text
    ∷ ("P0301-11 2F\nu0100-00 08\n", 12)
    ∷ ("P0301-11 2F\nU0100-00 0x\n", 22)
    ∷ ("P0301-11 2F\nU0100-00_08\n", 20)
    ∷ ("P0301-11 2F\nU0100_00 08\n", 17)
    -- small letters in the status, two spaces, one digit, three
    ∷ ("P0301-11 2f\n", 10)
    ∷ ("P0301-11  2F\n", 9)
    ∷ ("P0301-11 2\n", 10)
    ∷ ("P0301-11 02F\n", 11)
    ∷ (" P0301-11 2F\n", 0)
    ∷ []

pub imports_refused : map (λ (r : String × ℕ). import_listing 0x7F (ascii r.0)) no_lines ≡ map (λ (r : String × ℕ). refused (refusal 18 r.1 0)) no_lines
unfolding code_places line_places first_place numbers_from wrong_at first_wrong import_listing
imports_refused = refl

-- ---- the order of refusals
abbrev one : Listed
one = unknown_severity (trouble_code 0x03 0x01 0x11) 0x2F

ones : (n : ℕ) → Each LineBytes (replicate n one)
ones zero = tt
ones (suc n) = (omega arith, ones n)

-- no line begins with a small p
no_letter : InRow (can_stand lines 0) (code "p") → ⊥
unfolding code_places line_places first_place
no_letter (k, e) = let in_place : 4 < 4 = row_has (can_stand lines 0) (code "p") k e in omega arith

-- 18 comes before 12, and 12 before 7
pub order : (import_listing 0x7F (lines_text (replicate 4097 one) ++ ascii "p") ≡ refused (refusal 18 49164 0))
    × (written (import_listing 0x7F (lines_text (replicate 4097 one))) [] ≡ record { answer = refused (refusal 12 0 0); contents = [] })
order =
    (bad_behind 0x7F (replicate 4097 one) (ones 4097) (code "p") [] no_letter, rw (lines-too-many 0x7F (replicate 4097 one) (ones 4097) (rw (length-replicate 4097 one) (omega arith))) refl)

-- 18 before 7; just enough room, and the others stay; one less
pub rooms : (written (import_listing 0x7F (ascii "P0301-11 2F")) [] ≡ record { answer = refused (refusal 18 11 0); contents = [] })
    × (written (import_listing 0x7F (ascii "P0301-11 2F\n")) (replicate 6 9) ≡ record { answer = refused (refusal 7 7 6); contents = replicate 6 9 })
    × (written (import_listing 0x7F (ascii "P0301-11 2F\n")) (replicate 8 9) ≡ record { answer = accepted 7; contents = 0x59 ∷ 0x02 ∷ 0x7F ∷ 0x03 ∷ 0x01 ∷ 0x11 ∷ 0x2F ∷ 9 ∷ [] })
    × (written (export_listing by_status_mask plain) (replicate 35 9) ≡ record { answer = refused (refusal 7 36 35); contents = replicate 35 9 })
    × (written (export_listing by_status_mask plain) (replicate 37 9) ≡ record { answer = accepted 36; contents = ascii exported ++ (9 ∷ []) })
unfolding code_places line_places line_text lines_text export_listing first_place numbers_from wrong_at first_wrong one_by_one records_in_lines records_in read_listing records_bytes listing_bytes import_listing over
rooms = (refl, refl, refl, refl, refl)
