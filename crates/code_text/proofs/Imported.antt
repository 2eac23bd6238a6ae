-- The records of a text's first lines, one more, and what importing answers. Assumes nothing.
use mathlib.Core.Path.{◌≡◌, refl, ap, subst, ◌∙◌}
use Prim.Native.Nat.{ℕ, ◌+◌, ◌*◌, ◌%◌, ◌≤◌, ◌<◌}
use mathlib.Core.List.{List, [], ◌∷◌, ◌++◌}
use native.Mathlib.Numerals.{add-one}
use native.Mathlib.Omega.{arith}
use lib.ListN.{length, drop}
use Rattle.paper.specs.Listing.{by_status_mask, Listed, sub_function_byte, record_bytes, listing, answer_byte, one_by_one, records_bytes, listing_bytes}
use Rattle.paper.specs.CodeText.{lines, record_in_line, records_in_lines}
use Rattle.paper.proofs.Listing.{length_bytes, bytes-more}
use Rattle.paper.proofs.TextPlaces.{none_right}
use Rattle.paper.proofs.LineText.{length-in-lines, in_lines_more}
use Rattle.wire.specs.Writing.{Filled}
use Rattle.wire.proofs.Over.{rest, back, over_length, filled_none, filled_more, filled_as}
use Rattle.code_text.specs.CodeText.{LineStands}
use Rattle.code_text.specs.Lines.{WholeLines}

-- a line stands at its place
pub line_stands : {n : ℕ} {t : List ℕ} → WholeLines n t → (k : ℕ) → k < n → LineStands 12 (12 * k) t
line_stands {n} {t} w k h = record {
  long = omega (arith, w.many);
  stand = λ j l. let own : (12 * k + j) % 12 ≡ j = omega arith in rw own at ((none_right lines t w.right).stand (12 * k + j) (omega (arith, w.many)));
}

-- ---- the records of the first k lines
abbrev pub records_to : List ℕ → ℕ → List ℕ
records_to t k = records_bytes by_status_mask (records_in_lines k t)

module _ (t : List ℕ) where
  pub length_to : (k : ℕ) → length (records_to t k) ≡ 4 * k
  length_to k = length_bytes by_status_mask (records_in_lines k t) ∙ ap (λ (j : ℕ). 4 * j) (length-in-lines k t)

  pub no_record : {old : List ℕ} → Filled (records_to t 0) old old
  unfolding one_by_one records_in_lines records_bytes
  no_record = filled_none

  one_more_lem : (k : ℕ) → records_to t k ++ record_bytes by_status_mask (record_in_line (drop (12 * k) t)) ≡ records_to t (k + 1)
  one_more_lem k = rw (add-one k, in_lines_more k t, bytes-more by_status_mask (records_in_lines k t) (record_in_line (drop (12 * k) t)))

  pub record_more : (k : ℕ) {r : Listed} {old xs ys : List ℕ} → r ≡ record_in_line (drop (12 * k) t) → Filled (records_to t k) old xs → Filled (record_bytes by_status_mask r) (rest (4 * k) xs) ys
      → Filled (records_to t (k + 1)) old (back (4 * k) xs ys)
  record_more k {xs = xs} {ys} is before here = filled_as (one_more_lem k) (filled_more {ys = ys} (4 * k) before (subst (λ (x : Listed). Filled (record_bytes by_status_mask x) (rest (4 * k) xs) ys) is here) (length_to k))

  -- the room is as long as it was
  pub same-room : (k n : ℕ) {old xs : List ℕ} → k ≤ n → 4 * n ≤ length old → Filled (records_to t k) old xs → length xs ≡ length old
  same-room k n {old} h room filled =
      let short : length (records_to t k) ≤ length old = omega (arith, length_to k) in
      ap length (filled.given_room short) ∙ over_length (records_to t k) old short

  -- the head, and the records behind it
  pub with-head : (m n : ℕ) → (answer_byte ∷ sub_function_byte by_status_mask ∷ m ∷ []) ++ records_to t n ≡ listing_bytes (listing by_status_mask m (records_in_lines n t))
  unfolding listing_bytes
  with-head m n = refl

  pub length_listing : (m n : ℕ) → length (listing_bytes (listing by_status_mask m (records_in_lines n t))) ≡ 3 + 4 * n
  unfolding listing_bytes
  length_listing m n = omega (arith, length_to n)
