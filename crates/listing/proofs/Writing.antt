-- A turn of each loop over records that are handed over: one more that fits, and one more that is written behind the others.
-- Assumes nothing.
use mathlib.Core.Path.{◌≡◌, refl, sym, ap, ◌∙◌}
use Prim.Native.Nat.{ℕ, ◌+◌, ◌*◌, ◌/◌, ◌≤◌, ◌<◌}
use mathlib.Core.Bool.{true, false}
use mathlib.Core.List.{List, [], ◌∷◌, ◌++◌}
use native.Mathlib.Nat.{mul-le-mul_left}
use native.Mathlib.Numerals.{add-one}
use native.Mathlib.Omega.{arith}
use lib.ListN.{length, get_or, drop}
use lib.Seq.{get_or-drop}
use borrow.Author.Tests.{eq-eqb, ne_eqb}
use Rattle.paper.specs.Answer.{accepted, refused, out_of_range}
use Rattle.paper.specs.TroubleCode.{trouble_code}
use Rattle.paper.specs.Listing.{SubFunction, Listed, unknown_severity, known_severity, record_size, record_bytes, listing, listing_bytes, answer_byte, sub_function_byte, records_bytes, one_by_one, first_place, unfit, handed_of, handed_in, write_listing, write_handed}
use Rattle.paper.proofs.FirstPlace.{PassedOver, passes, passes_not}
use Rattle.paper.proofs.Listing.{length_bytes, bytes-more, length_handed, handed_there, handed_more, handed_whole, unfit-refused, fit_written}
use Rattle.wire.specs.Writing.{Filled}
use Rattle.wire.proofs.Over.{rest, back, over_length, filled_none, filled_more, filled_as}

-- ---- seven bytes are a record
module _ (b : List ℕ) (at : ℕ) where
  first : at + 0 ≡ at
  first = omega arith

  pub unknown_handed : get_or b at 0 ≡ 0 → unknown_severity (trouble_code (get_or b (at + 3) 0) (get_or b (at + 4) 0) (get_or b (at + 5) 0)) (get_or b (at + 6) 0) ≡ handed_of (drop at b)
  unknown_handed e = simp (get_or-drop, first, eq-eqb (get_or b at 0) 0 e)

  pub known_handed : (get_or b at 0 ≡ 0 → ⊥)
      → known_severity (get_or b (at + 1) 0) (get_or b (at + 2) 0) (trouble_code (get_or b (at + 3) 0) (get_or b (at + 4) 0) (get_or b (at + 5) 0)) (get_or b (at + 6) 0) ≡ handed_of (drop at b)
  known_handed e = simp (get_or-drop, first, ne_eqb (get_or b at 0) 0 e)

-- ---- one record more that fits
module _ (f : SubFunction) (b : List ℕ) (n k : ℕ) (below : k < n) (passed : PassedOver (unfit f) (handed_in n b) k) {r : Listed} (is : r ≡ handed_of (drop (7 * k) b)) where
  pub is-unfit-here : unfit f r ≡ true → first_place (unfit f) (handed_in n b) ≡ k
  is-unfit-here e = sym (passes (unfit f) (handed_in n b) k passed (handed_there n k b below) (rw (← is) e))

  pub fits-here : unfit f r ≡ false → PassedOver (unfit f) (handed_in n b) (k + 1)
  fits-here e = rw (add-one k) (passes_not (unfit f) (handed_in n b) k passed (handed_there n k b below) (rw (← is) e))

-- ---- one record more that is written
-- the bytes of the first k records
abbrev pub up_to : SubFunction → List ℕ → ℕ → List ℕ
up_to f b k = records_bytes f (handed_in k b)

pub length_up_to : (f : SubFunction) (b : List ℕ) (k : ℕ) → length (up_to f b k) ≡ record_size f * k
length_up_to f b k = length_bytes f (handed_in k b) ∙ ap (λ (j : ℕ). record_size f * j) (length_handed k b)

pub none_yet : (f : SubFunction) (b : List ℕ) {old : List ℕ} → Filled (up_to f b 0) old old
unfolding handed_in one_by_one records_bytes
none_yet f b = filled_none

one_more_lem : (f : SubFunction) (b : List ℕ) (k : ℕ) → up_to f b k ++ record_bytes f (handed_of (drop (7 * k) b)) ≡ up_to f b (k + 1)
one_more_lem f b k = rw (add-one k, handed_more k b, bytes-more f (handed_in k b) (handed_of (drop (7 * k) b)))

pub record_put : (f : SubFunction) (b : List ℕ) (k : ℕ) {r : Listed} {old xs ys : List ℕ} {at : ℕ} → r ≡ handed_of (drop (7 * k) b) → at ≡ record_size f * k
    → Filled (up_to f b k) old xs → Filled (record_bytes f r) (rest at xs) ys → Filled (up_to f b (k + 1)) old (back at xs ys)
record_put f b k {ys = ys} {at} is e before here = filled_as (one_more_lem f b k) (filled_more {ys = ys} at before (rw (← is) here) (length_up_to f b k ∙ sym e))

-- the record at place k ends where those of n do, or before
pub record_room : (f : SubFunction) (k n : ℕ) → k < n → record_size f * k + record_size f ≤ record_size f * n
record_room f k n h =
    let next : k + 1 ≤ n = omega arith in
    omega (arith, mul-le-mul_left (record_size f) next)

-- the room is as long as it was
pub same-room : (f : SubFunction) (b : List ℕ) (k n : ℕ) {old xs : List ℕ} → k ≤ n → record_size f * n ≤ length old → Filled (up_to f b k) old xs → length xs ≡ length old
same-room f b k n {old} le h filled =
    let short : length (up_to f b k) ≤ length old = omega (arith, length_up_to f b k, mul-le-mul_left (record_size f) le) in
    ap length (filled.given_room short) ∙ over_length (up_to f b k) old short

-- the head, and the records behind it
pub with-head : (f : SubFunction) (m : ℕ) (b : List ℕ) (n : ℕ) → (answer_byte ∷ sub_function_byte f ∷ m ∷ []) ++ up_to f b n ≡ listing_bytes (listing f m (handed_in n b))
unfolding listing_bytes
with-head f m b n = refl

pub length_listing : (f : SubFunction) (m : ℕ) (b : List ℕ) (n : ℕ) → length (listing_bytes (listing f m (handed_in n b))) ≡ 3 + record_size f * n
unfolding listing_bytes
length_listing f m b n = omega (arith, length_up_to f b n)

-- ---- the cases of writing n whole records that are handed over
module _ (f : SubFunction) (m : ℕ) (b : List ℕ) (n : ℕ) (few : n ≤ 4096) (whole : length b ≡ 7 * n) where
  handed : write_handed f m b ≡ write_listing (listing f m (handed_in n b))
  handed =
      let count : length b / 7 ≡ n = omega arith in
      rw count at (handed_whole f m b (omega arith) (omega arith))

  module _ {p : ℕ} (first : first_place (unfit f) (handed_in n b) ≡ p) where
    pub not_fit : p < n → write_handed f m b ≡ refused (out_of_range p)
    not_fit h = handed ∙ rw (← first) (unfit-refused (listing f m (handed_in n b)) (rw (length_handed n b) few) (rw (length_handed n b, first) h))

    pub all_fit : p ≡ n → write_handed f m b ≡ accepted (listing_bytes (listing f m (handed_in n b)))
    all_fit h = handed ∙ fit_written (listing f m (handed_in n b)) (rw (length_handed n b) few) (first ∙ h ∙ sym (length_handed n b))
