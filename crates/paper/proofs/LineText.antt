-- Document 02, Req 12: the lines of a listing's records stand for these, without their severity, and right lines are written of the records that they stand for.
-- Assumes nothing.
use mathlib.Core.Path.{◌≡◌, refl, ap, ap₂, ◌∙◌}
use Prim.Native.Nat.{ℕ, zero, suc, ◌+◌, ◌*◌, ◌-◌, ◌/◌, ◌%◌, ◌≤◌, ◌<◌}
use mathlib.Core.List.{List, [], ◌∷◌, ◌++◌, map, append_assoc}
use mathlib.Core.Logic.{⊎_elim}
use native.Mathlib.Nat.{zero-add, not-suc-le-zero}
use native.Mathlib.Omega.{arith}
use lib.ListN.{length, get_or, take, drop, length-append, length-drop, take-append-drop, get_or-append}
use lib.Seq.{drop_at, get_or-drop}
use borrow.Author.Tests.{eq-eqb}
use Rattle.paper.specs.Bytes.{Bytes}
use Rattle.paper.specs.TroubleCode.{trouble_code_bytes}
use Rattle.paper.specs.Joined.{Each}
use Rattle.paper.specs.Listing.{by_status_mask, Listed, unknown_severity, record_bytes, one_by_one, first_place, numbers_from}
use Rattle.paper.specs.CodeText.{code_places, line_places, code_digits, line_digits, spelt, line_text, lines_text, lines, digit, code_in, record_in_line, records_in_lines, without_severity}
use Rattle.paper.proofs.Choice.{cut}
use Rattle.paper.proofs.Bytes.{bytes_left}
use Rattle.paper.proofs.Listing.{length_each, each_more}
use Rattle.paper.proofs.Spelling.{Fits, fits_at, AllOnce, spelt_back, values_at, values_spelt, values_fit}
use Rattle.paper.proofs.TextPlaces.{Stands, Right}
use Rattle.paper.proofs.CodeText.{code_of, two_digits, digits_back}

-- ---- one line
line_once : AllOnce line_places
unfolding code_places line_places first_place numbers_from
line_once = refl

-- code and status are bytes
abbrev pub LineBytes : Listed → Type 0
LineBytes r = Bytes (record_bytes by_status_mask r)

line_fits : (r : Listed) → LineBytes r → Fits line_places (line_digits r)
unfolding code_places line_places
line_fits r b = omega arith

pub length_line : (r : Listed) → length (line_text r) ≡ 12
unfolding code_places line_places line_text
length_line r = refl

module _ (r : Listed) (b : LineBytes r) (t : List ℕ) where
  line_digit : (j : ℕ) → j < 12 → digit (line_text r ++ t) j ≡ get_or (line_digits r) j 0
  unfolding code_places line_places line_text
  line_digit j h = spelt_back line_places (line_digits r) t line_once (line_fits r b) j h

  code-digit : (j : ℕ) → j < 8 → get_or (line_digits r) j 0 ≡ get_or (code_digits r.code) j 0
  code-digit j h = get_or-append (code_digits r.code) (0 ∷ r.status / 16 ∷ r.status % 16 ∷ 0 ∷ []) 0 j h

  -- the record whose line it is
  record_in : record_in_line (line_text r ++ t) ≡ without_severity r
  record_in =
      let code : code_in (line_text r ++ t) ≡ r.code
      = code_of (line_text r ++ t) r.code (λ j h. line_digit j (omega arith) ∙ code-digit j h) (bytes_left (trouble_code_bytes r.code) (r.status ∷ []) b) in
      let status : digit (line_text r ++ t) 9 * 16 + digit (line_text r ++ t) 10 ≡ r.status = omega (arith, line_digit 9 (omega arith), line_digit 10 (omega arith)) in
      ap₂ unknown_severity code status

  line_stands : (j : ℕ) → j < 12 → digit (line_text r ++ t) j < length (get_or line_places j [])
  unfolding code_places line_places
  line_stands j h = rw (line_digit j h) (fits_at line_places (line_digits r) (line_fits r b) j h)

-- what a line stands for, spelt again, is the line
module _ (t : List ℕ) (stand : (j : ℕ) → j < 12 → digit t j < length (get_or line_places j [])) where
  line_there : Fits line_places (values_at line_places t 0)
  unfolding code_places line_places
  line_there = values_fit line_places t 0 (λ j h. rw (zero-add j) (stand j h))

  line_digits_back : line_digits (record_in_line t) ≡ values_at line_places t 0
  unfolding code_places line_places
  line_digits_back =
      let there = line_there in
      let status = two_digits (digit t 9) (digit t 10) (omega arith) (omega arith) in
      let space : digit t 8 ≡ 0 = omega arith in
      let feed : digit t 11 ≡ 0 = omega arith in
      ap (λ (ds : List ℕ). ds ++ (0 ∷ (digit t 9 * 16 + digit t 10) / 16 ∷ (digit t 9 * 16 + digit t 10) % 16 ∷ 0 ∷ [])) (digits_back t (omega arith))
      ∙ rw (status.0, status.1, space, feed)

  line_spelt : 12 ≤ length t → line_text (record_in_line t) ≡ take 12 t
  unfolding code_places line_places line_text
  line_spelt h = ap (spelt line_places) line_digits_back ∙ values_spelt line_places t 0 line_there h

-- ---- some lines
pub lines_append : (rs qs : List Listed) → lines_text (rs ++ qs) ≡ lines_text rs ++ lines_text qs
unfolding lines_text
lines_append [] qs = refl
lines_append (r ∷ rs) qs = rw (lines_append rs qs, append_assoc (line_text r) (lines_text rs) (lines_text qs))

pub length_lines : (rs : List Listed) → length (lines_text rs) ≡ 12 * length rs
unfolding lines_text
length_lines [] = refl
length_lines (r ∷ rs) = rw length-append (omega (arith, length_line r, length_lines rs))

pub length-in-lines : (n : ℕ) (t : List ℕ) → length (records_in_lines n t) ≡ n
unfolding records_in_lines
length-in-lines = length_each 12 record_in_line

-- one more
pub in_lines_more : (n : ℕ) (t : List ℕ) → records_in_lines (suc n) t ≡ records_in_lines n t ++ (record_in_line (drop (12 * n) t) ∷ [])
unfolding records_in_lines
in_lines_more = each_more 12 record_in_line

-- a place of the text from line k on, and the same place of the whole text
module _ (t : List ℕ) (k i : ℕ) where
  same_row : (12 * k + i) % 12 ≡ i % 12
  same_row = omega arith

  stands-whole : Stands lines (drop (12 * k) t) i → Stands lines t (12 * k + i)
  stands-whole h = rw (same_row, ← get_or-drop (12 * k) t i 0) h

  pub stands_from : Stands lines t (12 * k + i) → Stands lines (drop (12 * k) t) i
  stands_from h = rw (get_or-drop (12 * k) t i 0) (rw same_row at h)

-- of its first line
pub stands-first : (t : List ℕ) (j : ℕ) → j < 12 → Stands lines t j → digit t j < length (get_or line_places j [])
stands-first t j l h = let same : j % 12 ≡ j = omega arith in rw same at h

-- the lines of records of bytes stand for these, and can stand
pub lines_back : (rs : List Listed) → Each LineBytes rs → records_in_lines (length rs) (lines_text rs) ≡ map without_severity rs
unfolding one_by_one records_in_lines lines_text
lines_back [] b = refl
lines_back (r ∷ rs) b =
    ap₂ (λ (x : Listed) (t : List ℕ). x ∷ records_in_lines (length rs) t) (record_in r b.0 (lines_text rs)) (drop_at (line_text r) (lines_text rs) 12 (length_line r))
    ∙ ap (λ (qs : List Listed). without_severity r ∷ qs) (lines_back rs b.1)

lines-stand : (rs : List Listed) → Each LineBytes rs → (i : ℕ) → i < length (lines_text rs) → Stands lines (lines_text rs) i
unfolding lines_text
lines-stand [] b i h = absurd (not-suc-le-zero h)
lines-stand (r ∷ rs) b i h = ⊎_elim here (there (lines-stand rs b.1 (i - 12))) (cut i 12)
  where
    here : i < 12 → Stands lines (line_text r ++ lines_text rs) i
    here l = let same : i % 12 ≡ i = omega arith in rw same (line_stands r b.0 (lines_text rs) i l)

    there : (i - 12 < length (lines_text rs) → Stands lines (lines_text rs) (i - 12)) → 12 ≤ i → Stands lines (line_text r ++ lines_text rs) i
    there ih l =
        let further : 12 + (i - 12) ≡ i = omega arith in
        let less : i - 12 < length (lines_text rs) = omega (arith, length-append (line_text r) (lines_text rs), length_line r) in
        let behind : drop 12 (line_text r ++ lines_text rs) ≡ lines_text rs = drop_at (line_text r) (lines_text rs) 12 (length_line r) in
        rw further at (stands-whole (line_text r ++ lines_text rs) 1 (i - 12) (rw behind (ih less)))

pub lines-right : (rs : List Listed) → Each LineBytes rs → Right lines (lines_text rs)
lines-right rs b = record { stand = lines-stand rs b; ends = eq-eqb (length (lines_text rs) % 12) 0 (omega (arith, length_lines rs)) }

-- and right lines are written of what they stand for
pub lines-spelt : (n : ℕ) (t : List ℕ) → length t ≡ 12 * n → ((i : ℕ) → i < length t → Stands lines t i) → lines_text (records_in_lines n t) ≡ t
unfolding one_by_one records_in_lines lines_text
lines-spelt zero [] e h = refl
lines-spelt zero (c ∷ t) e h = absurd (omega arith)
lines-spelt (suc n) t e h =
    ap₂ ◌++◌ (line_spelt t (λ j l. stands-first t j l (h j (omega arith))) (omega arith))
    (lines-spelt n (drop 12 t) (omega (arith, length-drop 12 t)) (λ i l. stands_from t 1 i (h (12 + i) (omega (arith, length-drop 12 t))))) ∙ take-append-drop 12 t
