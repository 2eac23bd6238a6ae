-- What is still to come of a table, a row or the scale: one month, one part, one line, one entry less, and the end.
-- Assumes nothing.
use Prim.Native.Nat.{ℕ, zero, suc, min, ◌+◌, ◌-◌, ◌*◌, ◌≤◌, ◌<◌}
use mathlib.Core.Path.{◌≡◌, refl}
use mathlib.Core.Bool.{true, false}
use mathlib.Core.List.{List, [], ◌∷◌, ◌++◌}
use mathlib.Core.Logic.{⊎_elim}
use native.Mathlib.Omega.{arith}
use native.Mathlib.Numerals.{add-one}
use lib.Dec.{leb}
use borrow.Author.Tests.{ne_eqb, lt-leb, le-leb, leb-true}
use lib.ListN.{length, drop, get_or, get_or-eq_default, drop_of_length-le}
use lib.Seq.{drop-cons}
use Rattle.paper.specs.Choice.{pick}
use Rattle.paper.proofs.Choice.{cut}
use Rattle.paper.specs.Tally.{sum}
use Rattle.paper.specs.WrongLoads.{all, refused_of}
use Rattle.paper.specs.Chart.{of_year, fits, top_of, divisions, words, scale_line, scale_from, scale, part, parts_from, month_drawn, months_from, occurs, entry, legend_from}

-- ---- the months of a table, from the one at m on
module _ (t : List (List ℕ)) (m : ℕ) (h : m < length t) where
  pub year_more : (first : ℕ) → of_year first (drop m t) ≡ sum (drop first (get_or t m [])) + of_year first (drop (m + 1) t)
  unfolding of_year sum
  year_more first = rw (add-one, drop-cons t m [] h)

  pub fits-here : (top : ℕ) → 100 * refused_of (get_or t m []) ≤ top * all (get_or t m []) → fits top (drop m t) ≡ fits top (drop (m + 1) t)
  unfolding fits
  fits-here top l = rw (add-one, drop-cons t m [] h, le-leb _ _ l)

  pub fits_not : (top : ℕ) → top * all (get_or t m []) < 100 * refused_of (get_or t m []) → fits top (drop m t) ≡ false
  unfolding fits
  fits_not top l = rw (drop-cons t m [] h, lt-leb _ _ l)

  pub months-more : (top : ℕ) → months_from top m (drop m t) ≡ month_drawn m top (get_or t m []) ++ months_from top (m + 1) (drop (m + 1) t)
  unfolding months_from
  months-more top = rw (add-one, drop-cons t m [] h)

  pub occurs-here : (n : ℕ) → (get_or (get_or t m []) n 0 ≡ 0 → ⊥) → occurs n (drop m t) ≡ true
  unfolding occurs
  occurs-here n some = rw (drop-cons t m [] h, ne_eqb _ _ some)

  pub occurs_not : (n : ℕ) → get_or (get_or t m []) n 0 ≡ 0 → occurs n (drop m t) ≡ occurs n (drop (m + 1) t)
  unfolding occurs
  occurs_not n e = rw (add-one, drop-cons t m [] h, e)

-- none are left
module _ (t : List (List ℕ)) (m : ℕ) (h : length t ≤ m) where
  pub year_none : (first : ℕ) → of_year first (drop m t) ≡ 0
  unfolding of_year sum
  year_none first = rw (drop_of_length-le t h)

  pub fits_all : (top : ℕ) → fits top (drop m t) ≡ true
  unfolding fits
  fits_all top = rw (drop_of_length-le t h)

  pub months-none : (top k : ℕ) → months_from top k (drop m t) ≡ []
  unfolding months_from
  months-none top k = rw (drop_of_length-le t h)

  pub occurs_nowhere : (n : ℕ) → occurs n (drop m t) ≡ false
  unfolding occurs
  occurs_nowhere n = rw (drop_of_length-le t h)

-- ---- the parts of a bar, from the refusal number i on
pub parts_more : (m top a below : ℕ) (row : List ℕ) (i : ℕ) → i < length row
    → parts_from m top a i below (drop i row) ≡ part m top a i below (get_or row i 0) ++ parts_from m top a (i + 1) (below + get_or row i 0) (drop (i + 1) row)
unfolding parts_from
parts_more m top a below row i h = rw (add-one, drop-cons row i 0 h)

pub parts_none : (m top a n below : ℕ) (row : List ℕ) (i : ℕ) → length row ≤ i → parts_from m top a n below (drop i row) ≡ []
unfolding parts_from
parts_none m top a n below row i h = rw (drop_of_length-le row h)

-- ---- the lines of the scale, up to the last one
pub scale-more : (top parts k : ℕ) → k < parts + 1 → scale_from top parts k (parts + 1 - k) ≡ scale_line top parts k ++ scale_from top parts (k + 1) (parts + 1 - (k + 1))
unfolding scale_from
scale-more top parts k h = let left : parts + 1 - k ≡ suc (parts + 1 - (k + 1)) = omega arith in rw (left, add-one k)

pub scale-none : (top parts k : ℕ) → parts + 1 ≤ k → scale_from top parts k (parts + 1 - k) ≡ []
unfolding scale_from
scale-none top parts k h = let left : parts + 1 - k ≡ 0 = omega arith in rw left

pub scale_all : (top : ℕ) → scale_from top (divisions top) 0 (divisions top + 1 - 0) ≡ scale top
unfolding scale
scale_all top = let all : divisions top + 1 - 0 ≡ suc (divisions top) = omega arith in rw all

-- ---- the entries of the legend, up to that of 9
pub legend_here : (t : List (List ℕ)) (place number : ℕ) → number < 10 → occurs number t ≡ true
    → legend_from t place number (10 - number) ≡ entry place number ++ legend_from t (place + 1) (number + 1) (10 - (number + 1))
unfolding legend_from
legend_here t place number h e = let left : 10 - number ≡ suc (10 - (number + 1)) = omega arith in rw (left, e, add-one place, add-one number)

pub legend_not : (t : List (List ℕ)) (place number : ℕ) → number < 10 → occurs number t ≡ false
    → legend_from t place number (10 - number) ≡ legend_from t place (number + 1) (10 - (number + 1))
unfolding legend_from
legend_not t place number h e = let left : 10 - number ≡ suc (10 - (number + 1)) = omega arith in rw (left, e, add-one number)

pub legend_none : (t : List (List ℕ)) (place number : ℕ) → 10 ≤ number → legend_from t place number (10 - number) ≡ []
unfolding legend_from
legend_none t place number h = let left : 10 - number ≡ 0 = omega arith in rw left

-- ---- the top of the scale
-- the first of these that fits the year, or 100
abbrev pub first_fit : List ℕ → List (List ℕ) → ℕ
first_fit [] t = 100
first_fit (top ∷ tops) t = pick (fits top t) top (first_fit tops t)

module _ (tops : List ℕ) (t : List (List ℕ)) (i : ℕ) where
  pub fit-here : i < length tops → fits (get_or tops i 0) t ≡ true → first_fit (drop i tops) t ≡ get_or tops i 0
  fit-here h e = rw (drop-cons tops i 0 h, e)

  pub fit_not : i < length tops → fits (get_or tops i 0) t ≡ false → first_fit (drop i tops) t ≡ first_fit (drop (i + 1) tops) t
  fit_not h e = rw (add-one, drop-cons tops i 0 h, e)

  pub fit_none : length tops ≤ i → first_fit (drop i tops) t ≡ 100
  fit_none h = rw (drop_of_length-le tops h)

pub seven_tops : (t : List (List ℕ)) → first_fit (1 ∷ 2 ∷ 5 ∷ 10 ∷ 20 ∷ 50 ∷ []) t ≡ top_of t
unfolding top_of
seven_tops t = refl

-- ---- the parts of the scale
pub five_at_most : (n : ℕ) → min n 5 ≡ divisions n
unfolding divisions
five_at_most n = ⊎_elim (λ l. rw (le-leb n 5 (omega arith)) (omega arith)) (λ l. rw (lt-leb n 5 (omega arith)) (omega arith)) (cut n 6)

-- ---- words
above : (k n : ℕ) → k ≤ n → (n ≡ k → ⊥) → suc k ≤ n
above k n h other = omega arith

past : (xs : List (List ℕ)) (n : ℕ) → leb (length xs) 10 ≡ true → 10 ≤ n → get_or xs n [] ≡ []
past xs n h l = get_or-eq_default xs [] (omega (arith, leb-true (length xs) 10 h))

no_words : (n : ℕ) → 10 ≤ n → [] ≡ words n
unfolding words
no_words n h = let ten : true ≡ true = refl in rw past refl

-- a number that is none of the nine has none
pub other_words : (n : ℕ) → (n ≡ 1 → ⊥) → (n ≡ 2 → ⊥) → (n ≡ 3 → ⊥) → (n ≡ 4 → ⊥) → (n ≡ 5 → ⊥) → (n ≡ 6 → ⊥) → (n ≡ 7 → ⊥) → (n ≡ 8 → ⊥) → (n ≡ 9 → ⊥) → [] ≡ words n
unfolding words
other_words zero a b c d e f g h i = refl
other_words (suc n) a b c d e f g h i =
    let k = suc n in
    no_words k (above 9 k (above 8 k (above 7 k (above 6 k (above 5 k (above 4 k (above 3 k (above 2 k (above 1 k (omega arith) a) b) c) d) e) f) g) h) i)
