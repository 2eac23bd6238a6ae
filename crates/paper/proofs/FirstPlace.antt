-- The place of the first element that passes a test: the search for it, one element after the other, which the loops that look for a record cite; and what the place says, in a list and among numbers
-- in a row.
-- Assumes nothing.
use Prim.Native.Nat.{ℕ, zero, suc, ◌+◌, ◌≤◌, ◌<◌}
use mathlib.Core.Path.{◌≡◌, refl, sym, ap, ◌∙◌}
use mathlib.Core.Bool.{Bool, true, false}
use mathlib.Core.List.{List, [], ◌∷◌}
use native.Mathlib.Nat.{zero-add, add-zero, suc-add, add-suc, not-suc-le-zero, le_of_suc-le-suc}
use native.Mathlib.Omega.{arith}
use lib.ListN.{length, get_or, drop, drop_of_length-le}
use Rattle.paper.specs.Choice.{pick}
use Rattle.paper.specs.Listing.{first_place, numbers_from}

-- ---- the search
-- the first k elements don't pass: the search goes on behind them
pub record PassedOver {A : Type 0} (test : A → Bool) (xs : List A) (k : ℕ) : Type 0 where
  pub goes_on_lem : first_place test xs ≡ k + first_place test (drop k xs)

module _ {A : Type 0} (test : A → Bool) (xs : List A) where
  pub starts : PassedOver test xs 0
  starts = record { goes_on_lem = sym (zero-add (first_place test xs)) }

  -- the element at place k
  module _ (k : ℕ) (passed : PassedOver test xs k) {x : A} (here : drop k xs ≡ x ∷ drop (suc k) xs) where
    pub passes : test x ≡ true → k ≡ first_place test xs
    unfolding first_place
    passes e = let none : k + 0 ≡ k = add-zero k in sym (passed.goes_on_lem ∙ rw (here, e) none)

    pub passes_not : test x ≡ false → PassedOver test xs (suc k)
    unfolding first_place
    passes_not e = let further : k + suc (first_place test (drop (suc k) xs)) ≡ suc k + first_place test (drop (suc k) xs) = omega arith in record { goes_on_lem = passed.goes_on_lem ∙ rw (here, e) further }

  -- behind the last one
  pub ends : (k : ℕ) → PassedOver test xs k → length xs ≡ k → k ≡ first_place test xs
  unfolding first_place
  ends k passed e = let none : k + 0 ≡ k = add-zero k in sym (passed.goes_on_lem ∙ rw (drop_of_length-le xs {i = k} (omega arith)) none)

-- ---- what its place in a list says
module _ {A : Type 0} (test : A → Bool) (d : A) where
  -- no element before it passes
  pub first-earlier : (xs : List A) (j : ℕ) → j < first_place test xs → test (get_or xs j d) ≡ false
  unfolding first_place
  first-earlier [] j h = absurd (not-suc-le-zero h)
  first-earlier (x ∷ xs) j h = by (test x) refl (first-earlier xs) j h
    where
      by : (b : Bool) → test x ≡ b → ((j : ℕ) → j < first_place test xs → test (get_or xs j d) ≡ false)
          → (j : ℕ) → j < pick b 0 (suc (first_place test xs)) → test (get_or (x ∷ xs) j d) ≡ false
      by true e ih j h = absurd (not-suc-le-zero h)
      by false e ih zero h = e
      by false e ih (suc j) h = ih j (le_of_suc-le-suc h)

  -- it passes, where it is one of them
  pub first_passes : (xs : List A) → first_place test xs < length xs → test (get_or xs (first_place test xs) d) ≡ true
  unfolding first_place
  first_passes [] h = absurd (not-suc-le-zero h)
  first_passes (x ∷ xs) h = by (test x) refl h (first_passes xs)
    where
      by : (b : Bool) → test x ≡ b → pick b 0 (suc (first_place test xs)) < suc (length xs) → (first_place test xs < length xs → test (get_or xs (first_place test xs) d) ≡ true)
          → test (get_or (x ∷ xs) (pick b 0 (suc (first_place test xs))) d) ≡ true
      by true e h ih = e
      by false e h ih = ih (le_of_suc-le-suc h)

  pub first-most : (xs : List A) → first_place test xs ≤ length xs
  unfolding first_place
  first-most [] = omega arith
  first-most (x ∷ xs) = by (test x) (first-most xs)
    where
      by : (b : Bool) → first_place test xs ≤ length xs → pick b 0 (suc (first_place test xs)) ≤ suc (length xs)
      by true l = omega arith
      by false l = omega arith

  -- where none passes, as many as there are
  pub first-none : (xs : List A) → ((j : ℕ) → j < length xs → test (get_or xs j d) ≡ false) → first_place test xs ≡ length xs
  unfolding first_place
  first-none [] h = refl
  first-none (x ∷ xs) h = rw (h 0 (omega arith)) (ap suc (first-none xs (λ j l. h (suc j) (omega arith))))

  -- an element that passes where none before it does is the first
  pub first-is : (xs : List A) (p : ℕ) → p < length xs → ((j : ℕ) → j < p → test (get_or xs j d) ≡ false) → test (get_or xs p d) ≡ true → first_place test xs ≡ p
  unfolding first_place
  first-is [] p l h e = absurd (not-suc-le-zero l)
  first-is (x ∷ xs) zero l h e = rw e
  first-is (x ∷ xs) (suc p) l h e = rw (h 0 (omega arith)) (ap suc (first-is xs p (le_of_suc-le-suc l) (λ j k. h (suc j) (omega arith)) e))

-- ---- and among numbers in a row
pub length_numbers : (k n : ℕ) → length (numbers_from k n) ≡ n
unfolding numbers_from
length_numbers k zero = refl
length_numbers k (suc n) = ap suc (length_numbers (suc k) n)

pub numbers_at : (k n i d : ℕ) → i < n → get_or (numbers_from k n) i d ≡ k + i
unfolding numbers_from
numbers_at k zero i d h = absurd (not-suc-le-zero h)
numbers_at k (suc n) zero d h = sym (add-zero k)
numbers_at k (suc n) (suc i) d h = numbers_at (suc k) n i d (le_of_suc-le-suc h) ∙ suc-add k i ∙ sym (add-suc k i)

pub number_at : (n i d : ℕ) → i < n → get_or (numbers_from 0 n) i d ≡ i
number_at n i d h = numbers_at 0 n i d h ∙ zero-add i

module _ (test : ℕ → Bool) (n : ℕ) where
  abbrev pub first_number : ℕ
  first_number = first_place test (numbers_from 0 n)

  pub number-most : first_number ≤ n
  number-most = omega (arith, first-most test 0 (numbers_from 0 n), length_numbers 0 n)

  pub number-earlier : (j : ℕ) → j < first_number → test j ≡ false
  number-earlier j h = ap test (sym (number_at n j 0 (omega (arith, number-most)))) ∙ first-earlier test 0 (numbers_from 0 n) j h

  pub number-passes : first_number < n → test first_number ≡ true
  number-passes h = ap test (sym (number_at n first_number 0 h)) ∙ first_passes test 0 (numbers_from 0 n) (rw (length_numbers 0 n) h)

  pub number-none : ((j : ℕ) → j < n → test j ≡ false) → first_number ≡ n
  number-none h =
      first-none test 0 (numbers_from 0 n) (λ j l. let k : j < n = rw (length_numbers 0 n) at l in ap test (number_at n j 0 k) ∙ h j k) ∙ length_numbers 0 n

  pub number_is : (p : ℕ) → p < n → ((j : ℕ) → j < p → test j ≡ false) → test p ≡ true → first_number ≡ p
  number_is p l h e =
      first-is test 0 (numbers_from 0 n) p (rw (length_numbers 0 n) l) (λ j k. ap test (number_at n j 0 (omega arith)) ∙ h j k) (ap test (number_at n p 0 l) ∙ e)
