-- The width found by trying is the smallest that holds the sizes, and there is only one such.
-- Assumes nothing.
use mathlib.Core.Path.{◌≡◌, refl, sym, subst, ◌∙◌}
use Prim.Native.Nat.{ℕ, zero, suc, ◌+◌, ◌^◌, ◌≤◌}
use mathlib.Core.Bool.{Bool, true, false}
use mathlib.Core.List.{List, [], ◌∷◌}
use native.Mathlib.Nat.{pow-le-pow_right, lt_of_lt_of_le, le_antisymm}
use native.Mathlib.Omega.{arith}
use borrow.Author.Tests.{ltb-true, lt-ltb}
use lib.Dec.{lit<}
use Rattle.paper.specs.Choice.{pick}
use Rattle.paper.specs.Sizes.{Fit, Holds, Smallest, fit, first_fit, width}
use Rattle.paper.proofs.Choice.{both_true}

-- ---- the test is the property
pub fit_true : (w : ℕ) (xs : List ℕ) → Fit w xs → fit w xs ≡ true
unfolding fit
fit_true w [] h = refl
fit_true w (x ∷ xs) h = rw (lt-ltb x (256 ^ w) h.0, fit_true w xs h.1)

pub true_fit : (w : ℕ) (xs : List ℕ) → fit w xs ≡ true → Fit w xs
unfolding fit
true_fit w [] h = tt
true_fit w (x ∷ xs) h = let (first, more) = both_true _ _ h in (ltb-true x (256 ^ w) first, true_fit w xs more)

-- what fits in w bytes fits in more
pub fit-more : {w v : ℕ} → w ≤ v → (xs : List ℕ) → Fit w xs → Fit v xs
fit-more h [] f = tt
fit-more h (x ∷ xs) f = (lt_of_lt_of_le f.0 (pow-le-pow_right (lit< tt) h), fit-more h xs f.1)

-- ---- the first width that fits is the smallest
first-fit : (n w : ℕ) (xs : List ℕ) (v : ℕ) → w ≤ v → v ≤ w + n → Fit v xs
    → (Fit (first_fit n w xs) xs) × (w ≤ first_fit n w xs) × (first_fit n w xs ≤ v)
unfolding first_fit
first-fit zero w xs v lo hi h = (subst (λ (i : ℕ). Fit i xs) (omega arith) h, omega arith, lo)
first-fit (suc n) w xs v lo hi h = go (fit w xs) refl (first-fit n (suc w) xs v)
  where
    Is : ℕ → ℕ → Type 0
    Is m r = (Fit r xs) × (m ≤ r) × (r ≤ v)

    go : (b : Bool) → fit w xs ≡ b → (suc w ≤ v → v ≤ suc w + n → Fit v xs → Is (suc w) (first_fit n (suc w) xs)) → Is w (pick b w (first_fit n (suc w) xs))
    go true e ih = (true_fit w xs e, omega arith, lo)
    go false e ih =
        let apart : v ≡ w → ⊥ = λ q. differ (sym (fit_true w xs (subst (λ (i : ℕ). Fit i xs) q h)) ∙ e) in
        let (held, low, high) = ih (omega arith) (omega arith) h in
        (held, omega arith, high)
      where
        differ : true ≡ false → ⊥
        differ z = let y : ◌≡◌ {A = ℕ} 0 1 = cc in omega arith

-- sizes that some width holds have a smallest one, and trying finds it
pub smallest_width : (xs : List ℕ) (v : ℕ) → Holds xs v → Smallest xs (width xs)
unfolding width
smallest_width xs v h =
    let (held, low, high) = first-fit 15 1 xs v h.positive (omega (arith, h.within)) h.fit in
    record {
      holds = record { positive = low; within = omega (arith, h.within); fit = held };
      least = λ u g. let (a, b, c) = first-fit 15 1 xs u g.positive (omega (arith, g.within)) g.fit in c;
    }

-- trying ends at 16, whatever the sizes
first-fit-within : (n w : ℕ) (xs : List ℕ) → first_fit n w xs ≤ w + n
unfolding first_fit
first-fit-within zero w xs = omega arith
first-fit-within (suc n) w xs = go (fit w xs) (first-fit-within n (suc w) xs)
  where
    go : (b : Bool) → first_fit n (suc w) xs ≤ suc w + n → pick b w (first_fit n (suc w) xs) ≤ w + suc n
    go true h = omega arith
    go false h = omega arith

pub width-within : (xs : List ℕ) → width xs ≤ 16
unfolding width
width-within xs = first-fit-within 15 1 xs

-- no second width is the smallest
pub smallest_once : {xs : List ℕ} {w v : ℕ} → Smallest xs w → Smallest xs v → w ≡ v
smallest_once {xs} {w} {v} p q = le_antisymm (p.least v q.holds) (q.least w p.holds)

-- every size from 0 to 2 ^ 128 - 1 has a width
pub any_width : (xs : List ℕ) → Fit 16 xs → Smallest xs (width xs)
any_width xs h = smallest_width xs 16 (record { positive = omega arith; within = omega arith; fit = h })

-- whatever says of itself that it is the smallest width is the one that trying finds
pub smallest_is : {xs : List ℕ} {w : ℕ} → Smallest xs w → w ≡ width xs
smallest_is {xs} {w} s = smallest_once s (smallest_width xs w s.holds)
