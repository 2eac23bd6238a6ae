-- Document 02, Req 12: codes as the workshop writes them (SAE J2012), and a listing as text, one line to a code.
use Rattle.std.specs.Prelude.{ℕ, suc, ◌+◌, ◌*◌, ◌/◌, ◌%◌, ◌<◌, ◌≤◌, ◌≡◌, Bool, true, not, List, [], ◌∷◌, ◌++◌, length, get_or, leb, ltb, eqb}
use Rattle.std.proofs.Math.Option.{some}
use Rattle.std.proofs.Math.ListN.{get_elem?}
use Rattle.paper.specs.Choice.{pick}
use Rattle.paper.specs.Answer.{too_many, bad_character, Answer, accepted, refused, check}
use Rattle.paper.specs.TroubleCode.{TroubleCode, trouble_code}
use Rattle.paper.specs.ReadingProgram.{ascii}
use Rattle.paper.specs.Listing.{SubFunction, by_status_mask, Listed, unknown_severity, Listing, listing, one_by_one, read_listing, listing_bytes, first_place, numbers_from}

-- ---- what can stand at each place
abbrev pub hex_digits : List ℕ
hex_digits = ascii "0123456789ABCDEF"

-- of a code, eight characters: P, C, B or U, a digit 0 to 3, one hex digit, two, a dash, two. A character's place in its row is what it stands for
unfoldable pub code_places : List (List ℕ)
code_places = ascii "PCBU" ∷ ascii "0123" ∷ hex_digits ∷ hex_digits ∷ hex_digits ∷ ascii "-" ∷ hex_digits ∷ hex_digits ∷ []

-- of a line, twelve: a code, a space, the status as two hex digits, a line feed
unfoldable pub line_places : List (List ℕ)
line_places = code_places ++ (ascii " " ∷ hex_digits ∷ hex_digits ∷ ascii "\n" ∷ [])

-- ---- writing
-- what stands at the places of a code: the top two bits of the high byte, the next two, its low four; the middle byte; the dash; the low byte
abbrev pub code_digits : TroubleCode → List ℕ
code_digits c = c.high / 64 ∷ c.high / 16 % 4 ∷ c.high % 16 ∷ c.middle / 16 ∷ c.middle % 16 ∷ 0 ∷ c.low / 16 ∷ c.low % 16 ∷ []

-- and of a line: the space, the status, the line feed after them
abbrev pub line_digits : Listed → List ℕ
line_digits r = code_digits r.code ++ (0 ∷ r.status / 16 ∷ r.status % 16 ∷ 0 ∷ [])

-- each written as the character of its place
abbrev pub spelt : (places : List (List ℕ)) → (digits : List ℕ) → List ℕ
spelt (p ∷ ps) (d ∷ ds) = get_or p d 0 ∷ spelt ps ds
spelt (p ∷ ps) [] = []
spelt [] ds = []

unfoldable pub code_text : TroubleCode → List ℕ
code_text c = spelt code_places (code_digits c)

unfoldable pub line_text : Listed → List ℕ
line_text r = spelt line_places (line_digits r)

-- the lines of some records, one after the other
unfoldable pub lines_text : List Listed → List ℕ
lines_text [] = []
lines_text (r ∷ rs) = line_text r ++ lines_text rs

-- a listing exported: refused as its reader refuses it, else its lines (7 comes with the buffer)
abbrev pub export_in : Answer Listing → Answer (List ℕ)
export_in (accepted l) = accepted (lines_text l.records)
export_in (refused e) = refused e

unfoldable pub export_listing : SubFunction → List ℕ → Answer (List ℕ)
export_listing f s = export_in (read_listing f s)

-- ---- reading
-- two sorts of text: one code, and a listing's lines
pub data Sort : Type 0 where
  one_code : Sort
  lines : Sort

-- what can stand at a place of the text, counted from 0: after the eighth character of a code nothing, and after a line the next line
abbrev pub can_stand : Sort → ℕ → List ℕ
can_stand one_code i = get_or code_places i []
can_stand lines i = get_or line_places (i % 12) []

-- whether the text can end there
abbrev pub can_end : Sort → ℕ → Bool
can_end one_code i = eqb i 8
can_end lines i = eqb (i % 12) 0

-- the place of a character in a row; where it is not in it, as many as there are
abbrev pub place_in : List ℕ → ℕ → ℕ
place_in row c = first_place (eqb c) row

-- the number of the hex digit at a place of a text
abbrev pub hex_at : List ℕ → ℕ → ℕ
hex_at t i = place_in hex_digits (get_or t i 0)

-- what is at this place can't stand there; the end of the text counts as one place more, its length
unfoldable pub wrong_at : Sort → List ℕ → ℕ → Bool
wrong_at sort t i = pick (ltb i (length t)) (eqb (place_in (can_stand sort i) (get_or t i 0)) (length (can_stand sort i))) (not (can_end sort i))

-- the first such place; where there is none, as many as there are places, the end included
unfoldable pub first_wrong : Sort → List ℕ → ℕ
first_wrong sort t = first_place (wrong_at sort t) (numbers_from 0 (suc (length t)))

-- 18 with that place
abbrev pub well_formed : {A : Type 0} → Sort → List ℕ → Answer A → Answer A
well_formed sort t a = check (eqb (first_wrong sort t) (suc (length t))) (bad_character (first_wrong sort t)) a

-- what character j of a code or a line stands for
abbrev pub digit : List ℕ → ℕ → ℕ
digit t j = place_in (get_or line_places j []) (get_or t j 0)

-- the code whose text begins here
abbrev pub code_in : List ℕ → TroubleCode
code_in t = trouble_code (digit t 0 * 64 + digit t 1 * 16 + digit t 2) (digit t 3 * 16 + digit t 4) (digit t 6 * 16 + digit t 7)

unfoldable pub read_code_text : List ℕ → Answer TroubleCode
read_code_text t = well_formed one_code t (accepted (code_in t))

-- the record whose line begins here: severity is not carried, and comes back unknown
abbrev pub record_in_line : List ℕ → Listed
record_in_line t = unknown_severity (code_in t) (digit t 9 * 16 + digit t 10)

-- the records of n lines
unfoldable pub records_in_lines : ℕ → List ℕ → List Listed
records_in_lines n t = one_by_one 12 record_in_line n t

-- a text imported as a 0x02 listing, whoever imports giving the availability mask: 18, then 12 (and then 7, with the buffer)
unfoldable pub import_listing : (mask : ℕ) → List ℕ → Answer (List ℕ)
import_listing mask t =
    well_formed lines t
    (check (leb (length t / 12) 4096) too_many
    (accepted (listing_bytes (listing by_status_mask mask (records_in_lines (length t / 12) t)))))

-- a listing's record without its severity, as it comes back
abbrev pub without_severity : Listed → Listed
without_severity r = unknown_severity r.code r.status

-- ---- what is to hold of a refused text, said by places
-- the character is one of the row
abbrev pub InRow : List ℕ → ℕ → Type 0
InRow row c = (k : ℕ) × (get_elem? row k ≡ some c)

-- the first place at which something can't stand: every earlier place has a character of its row; this one has none, or it is the end, where a text of this sort can't end
pub record FirstBad (sort : Sort) (t : List ℕ) (p : ℕ) : Type 0 where
  pub within : p ≤ length t
  pub earlier : (k : ℕ) → k < p → InRow (can_stand sort k) (get_or t k 0)
  pub here : p < length t → InRow (can_stand sort p) (get_or t p 0) → ⊥
  pub ends : p ≡ length t → can_end sort p ≡ true → ⊥

-- there is no such place
abbrev pub NoneBad : Sort → List ℕ → Type 0
NoneBad sort t = (p : ℕ) → FirstBad sort t p → ⊥
