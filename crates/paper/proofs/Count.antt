-- Counting the elements of a list that pass a test, and adding counts up.
-- Assumes nothing.
use mathlib.Core.Path.{◌≡◌, refl, sym, ap, ap₂, ◌∙◌}
use mathlib.Core.Logic.{∥∥₁_elim, ⊎_elim}
use Prim.Native.Nat.{ℕ, zero, suc, ◌+◌, ◌≤◌, ◌<◌}
use mathlib.Core.Bool.{Bool, true, false}
use mathlib.Core.List.{List, [], ◌∷◌, ◌++◌, map, zip_with, Perm, Permᴰ}
use native.Mathlib.Nat.{zero-add, add-zero, add-suc, suc-add, not-suc-le-zero, le_of_suc-le-suc, eq-or-lt_of_le, ℕ_set}
use native.Mathlib.Omega.{arith}
use lib.ListN.{length, get_or, set}
use lib.Dec.{eqb}
use borrow.Author.Tests.{eq-eqb, ne_eqb}
use Rattle.paper.specs.Choice.{pick}
use Rattle.paper.specs.Tally.{count, sum}

-- ---- counts
-- what one element adds: 1 where it passes, else 0
abbrev pub one : Bool → ℕ
one b = pick b 1 0

one_le : (b : Bool) → one b ≤ 1
one_le true = omega arith
one_le false = omega arith

module _ {A : Type 0} (test : A → Bool) where
  pub count_append : (xs ys : List A) → count test (xs ++ ys) ≡ count test xs + count test ys
  unfolding count
  count_append [] ys = sym (zero-add _)
  count_append (x ∷ xs) ys = omega (arith, count_append xs ys)

  pub count_le : (xs : List A) → count test xs ≤ length xs
  unfolding count
  count_le [] = omega arith
  count_le (x ∷ xs) = omega (arith, count_le xs, one_le (test x))

  -- where all pass, the first does, and all the others
  pub all_pass_lem : (x : A) (xs : List A) → count test (x ∷ xs) ≡ length (x ∷ xs) → (test x ≡ true) × (count test xs ≡ length xs)
  unfolding count
  all_pass_lem x xs e = by (test x) refl
    where
      by : (b : Bool) → test x ≡ b → (test x ≡ true) × (count test xs ≡ length xs)
      by true p = (p, omega (arith, rw p at e))
      by false p = absurd (omega (arith, rw p at e, count_le xs))

  -- the order does not matter
  reordered : {xs ys : List A} → Permᴰ xs ys → count test xs ≡ count test ys
  unfolding count
  reordered Permᴰ.nil = refl
  reordered (Permᴰ.cons e d) = ap₂ (λ (x : A) (n : ℕ). one (test x) + n) e (reordered d)
  reordered (Permᴰ.swap e f) = rw (e, f) (omega arith)
  reordered (Permᴰ.trans d e) = reordered d ∙ reordered e

  pub count_perm : {xs ys : List A} → Perm xs ys → count test xs ≡ count test ys
  count_perm {xs} {ys} p = ∥∥₁_elim p (ℕ_set (count test xs) (count test ys)) reordered

-- ---- sums
pub sum-plus : (f g : ℕ → ℕ) (ks : List ℕ) → sum (map (λ (k : ℕ). f k + g k) ks) ≡ sum (map f ks) + sum (map g ks)
unfolding sum
sum-plus f g [] = refl
sum-plus f g (k ∷ ks) = omega (arith, sum-plus f g ks)

pub sum_zeros : (ks : List ℕ) → sum (map (λ (k : ℕ). 0) ks) ≡ 0
unfolding sum
sum_zeros [] = refl
sum_zeros (k ∷ ks) = omega (arith, sum_zeros ks)

-- several tests of which an element passes as many as one test says: their counts add up to that test's
pub split-count : {A : Type 0} (tests : ℕ → A → Bool) (test all : A → Bool) (ks : List ℕ) → ((x : A) → all x ≡ true → sum (map (λ (k : ℕ). one (tests k x)) ks) ≡ one (test x))
    → (xs : List A) → count all xs ≡ length xs → sum (map (λ (k : ℕ). count (tests k) xs) ks) ≡ count test xs
unfolding count
split-count tests test all ks h [] e = sum_zeros ks
split-count tests test all ks h (x ∷ xs) e =
    let (p, q) = all_pass_lem all x xs e in
    sum-plus (λ (k : ℕ). one (tests k x)) (λ (k : ℕ). count (tests k) xs) ks ∙ ap₂ ◌+◌ (h x p) (split-count tests test all ks h xs q)

-- ---- numbers in a row
-- n numbers from k on
abbrev pub from : ℕ → ℕ → List ℕ
from k zero = []
from k (suc n) = k ∷ from (suc k) n

-- a number is equal to none that is larger
none_equal : (x k n : ℕ) → x < k → sum (map (λ (j : ℕ). one (eqb x j)) (from k n)) ≡ 0
unfolding sum
none_equal x k zero h = refl
none_equal x k (suc n) h = let ne : x ≡ k → ⊥ = λ e. omega arith in rw (ne_eqb x k ne, none_equal x (suc k) n (omega arith))

-- and to one of those that it is among
pub one-equal : (x k n : ℕ) → k ≤ x → x < k + n → sum (map (λ (j : ℕ). one (eqb x j)) (from k n)) ≡ 1
unfolding sum
one-equal x k zero a b = absurd (omega arith)
one-equal x k (suc n) a b = ⊎_elim here (λ l. there l (one-equal x (suc k) n l (omega arith))) (eq-or-lt_of_le a)
  where
    here : k ≡ x → one (eqb x k) + sum (map (λ (j : ℕ). one (eqb x j)) (from (suc k) n)) ≡ 1
    here e = rw (eq-eqb x k (sym e), none_equal x (suc k) n (omega arith))

    there : k < x → sum (map (λ (j : ℕ). one (eqb x j)) (from (suc k) n)) ≡ 1 → one (eqb x k) + sum (map (λ (j : ℕ). one (eqb x j)) (from (suc k) n)) ≡ 1
    there l e = let ne : x ≡ k → ⊥ = λ e. omega arith in rw (ne_eqb x k ne, e)

-- what a list of values of such numbers has at a place
pub value_at {ℓ} : {B : Type ℓ} (f : ℕ → B) (k n i : ℕ) (d : B) → i < n → get_or (map f (from k n)) i d ≡ f (k + i)
value_at f k zero i d h = absurd (not-suc-le-zero h)
value_at f k (suc n) zero d h = ap f (sym (add-zero k))
value_at f k (suc n) (suc i) d h = value_at f (suc k) n i d (le_of_suc-le-suc h) ∙ ap f (suc-add k i ∙ sym (add-suc k i))

-- two rules that agree from k on give the same values
pub values_same {ℓ} : {B : Type ℓ} (f g : ℕ → B) (k n : ℕ) → ((j : ℕ) → k ≤ j → f j ≡ g j) → map f (from k n) ≡ map g (from k n)
values_same f g k zero h = refl
values_same f g k (suc n) h =
    let first : f k ≡ g k = h k (omega arith) in
    let others : map f (from (suc k) n) ≡ map g (from (suc k) n) = values_same f g (suc k) n (λ j l. h j (omega arith)) in
    cc

-- a store at place i, where the two rules differ there alone
pub set_value {ℓ} : {B : Type ℓ} (f g : ℕ → B) (k n i : ℕ) → i < n → ((j : ℕ) → (j ≡ k + i → ⊥) → f j ≡ g j) → set (map f (from k n)) i (g (k + i)) ≡ map g (from k n)
set_value f g k zero i h e = absurd (not-suc-le-zero h)
set_value f g k (suc n) zero h e =
    let here : k + 0 ≡ k = add-zero k in
    let others : map f (from (suc k) n) ≡ map g (from (suc k) n) = values_same f g (suc k) n (λ j l. e j (λ q. omega arith)) in
    cc
set_value f g k (suc n) (suc i) h e =
    let there : k + suc i ≡ suc k + i = omega arith in
    let first : f k ≡ g k = e k (λ q. omega arith) in
    let others : set (map f (from (suc k) n)) i (g (suc k + i)) ≡ map g (from (suc k) n) = set_value f g (suc k) n i (le_of_suc-le-suc h) (λ j l. e j (λ q. l (omega arith))) in
    cc

-- ---- lists of values
pub map_same {ℓ} : {B : Type ℓ} (f g : ℕ → B) (ks : List ℕ) → ((k : ℕ) → f k ≡ g k) → map f ks ≡ map g ks
map_same f g [] h = refl
map_same {B = B} f g (k ∷ ks) h = ap₂ {C = List B} (λ (x : B) (xs : List B). x ∷ xs) (h k) (map_same f g ks h)

-- two lists of values put together are the values put together
pub zip_values {ℓ} : {B : Type ℓ} (op : B → B → B) (f g : ℕ → B) (ks : List ℕ) → zip_with op (map f ks) (map g ks) ≡ map (λ (k : ℕ). op (f k) (g k)) ks
unfolding zip_with
zip_values op f g [] = refl
zip_values {B = B} op f g (k ∷ ks) = ap (λ (xs : List B). op (f k) (g k) ∷ xs) (zip_values op f g ks)
