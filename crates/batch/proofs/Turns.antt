-- One message more: where it begins, that it lies within the buffer, and its entry in the list.
-- Assumes nothing.
use mathlib.Core.Path.{◌≡◌, refl, sym, ap, ◌∙◌}
use Prim.Native.Nat.{ℕ, zero, suc, ◌+◌, ◌-◌, ◌≤◌, ◌<◌}
use mathlib.Core.List.{List, [], ◌∷◌, ◌++◌}
use native.Mathlib.Nat.{not-suc-le-zero, le_of_suc-le-suc}
use native.Mathlib.Numerals.{add-one}
use native.Mathlib.Omega.{arith}
use Rattle.std.specs.Prelude.{Ok, Err}
use lib.ListN.{length, get_or, take, drop, set}
use lib.Seq.{length-take-le, take_all, take-suc}
use borrow.Author.Tests.{lt-leb, le-leb, eq-eqb, ne_eqb}
use Rattle.paper.specs.Answer.{accepted}
use Rattle.paper.specs.Tally.{sum}
use Rattle.paper.specs.Batch.{number_of, batch_numbers}
use Rattle.paper.proofs.Batch.{numbers, length_numbers, number_at}
use Rattle.wire.specs.Writing.{Filled, Wrote}
use Rattle.wire.specs.declared.refusal.Refusal.{Refusal}
use Rattle.wire.proofs.Over.{filled_none, filled_set, filled_as}
use Rattle.wire.proofs.Writes.{refuses, writes, malformed, passed}

-- ---- the lengths added up
sum-next : (ls : List ℕ) (k : ℕ) → k < length ls → sum (take (suc k) ls) ≡ sum (take k ls) + get_or ls k 0
unfolding sum
sum-next [] k h = absurd (not-suc-le-zero h)
sum-next (x ∷ ls) zero h = omega arith
sum-next (x ∷ ls) (suc k) h = omega (arith, sum-next ls k (le_of_suc-le-suc h))

pub one_more_lem : (ls : List ℕ) (k : ℕ) {at : ℕ} → k < length ls → at ≡ sum (take k ls) → at + get_or ls k 0 ≡ sum (take (k + 1) ls)
one_more_lem ls k h e = rw (add-one, sum-next ls k h, e) refl

pub all_of : (ls : List ℕ) (k : ℕ) {at : ℕ} → length ls ≤ k → at ≡ sum (take k ls) → at ≡ sum ls
all_of ls k h e = e ∙ ap sum (take_all k ls h)

-- message k ends within all of them
pub within : (ls : List ℕ) (k : ℕ) → k < length ls → sum (take k ls) + get_or ls k 0 ≤ sum ls
unfolding sum
within [] k h = absurd (not-suc-le-zero h)
within (x ∷ ls) zero h = omega arith
within (x ∷ ls) (suc k) h = omega (arith, within ls k (le_of_suc-le-suc h))

-- and so within the buffer that they fill
pub ends_within : (ls : List ℕ) (k : ℕ) {at t n : ℕ} → k < length ls → at ≡ sum (take k ls) → t ≡ sum ls → t ≡ n → at + get_or ls k 0 ≤ n
ends_within ls k h e f g = omega (arith, within ls k h)

module _ (b ls old : List ℕ) where
  -- ---- the list, with the numbers of the first k messages over its front
  abbrev pub SoFar : ℕ → List ℕ → Type 0
  SoFar k list = Filled (take k (numbers b ls)) old list

  pub none_yet : SoFar 0 old
  none_yet = filled_none

  front : (k : ℕ) → k ≤ length ls → length (take k (numbers b ls)) ≡ k
  front k h = length-take-le k (numbers b ls) (omega (arith, length_numbers b ls))

  pub entry_more : (k : ℕ) {at r : ℕ} {list : List ℕ} → k < length ls → at ≡ sum (take k ls) → r ≡ number_of (take (at + get_or ls k 0 - at) (drop at b))
      → SoFar k list → SoFar (k + 1) (set list k r)
  entry_more k {at} {r} h e is f =
      let n = numbers b ls in
      let long : at + get_or ls k 0 - at ≡ get_or ls k 0 = omega arith in
      let number : get_or n k 0 ≡ r = number_at b ls k h ∙ sym (is ∙ rw (long, e) refl) in
      let more : take k n ++ (r ∷ []) ≡ take (k + 1) n = rw (add-one, take-suc n k 0 (omega (arith, length_numbers b ls)), number) refl in
      filled_as more (filled_set r f (front k (omega arith)))

  -- ---- the answers
  pub too_many_lem : 4096 < length ls → Wrote (batch_numbers b ls) old (Err Refusal.TooMany) old
  unfolding batch_numbers
  too_many_lem h = malformed (rw (lt-leb _ _ h) refl)

  pub not_adding_up : {t : ℕ} → length ls ≤ 4096 → t ≡ sum ls → (t ≡ length b → ⊥) → Wrote (batch_numbers b ls) old (Err Refusal.Cut) old
  unfolding batch_numbers
  not_adding_up h e n = malformed (rw (le-leb _ _ h, ← e, ne_eqb _ _ n) refl)

  -- neither: what is left is the numbers
  good : {t : ℕ} → length ls ≤ 4096 → t ≡ sum ls → t ≡ length b → batch_numbers b ls ≡ accepted (numbers b ls)
  unfolding batch_numbers
  good h e n = rw (le-leb _ _ h, ← e, eq-eqb _ _ n) refl

  pub no_room_lem : {t : ℕ} → length ls ≤ 4096 → t ≡ sum ls → t ≡ length b → length old < length ls
      → Wrote (batch_numbers b ls) old (Err (Refusal.NoRoom (length ls) (length old))) old
  no_room_lem h e n l = passed (good h e n) (refuses (length ls) (length_numbers b ls) l)

  pub all_read : {t k : ℕ} {list : List ℕ} → length ls ≤ 4096 → t ≡ sum ls → t ≡ length b → length ls ≤ length old → length ls ≤ k → SoFar k list
      → Wrote (batch_numbers b ls) old (Ok (length ls)) list
  all_read {k = k} h e n l m f =
      passed (good h e n) (writes (length ls) (length_numbers b ls) l (filled_as (take_all k (numbers b ls) (omega (arith, length_numbers b ls))) f))
