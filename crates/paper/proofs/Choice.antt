-- What a test that passed, or an answer that was accepted, says; and that a number is below another or not. Assumes nothing.
use mathlib.Core.Path.{◌≡◌, refl}
use Prim.Native.Nat.{ℕ, ◌-◌, ◌≤◌, ◌<◌}
use mathlib.Core.Bool.{Bool, true, false}
use mathlib.Core.Logic.{◌⊎◌, inl, inr, ⊎_elim}
use native.Mathlib.Omega.{arith}
use native.Mathlib.Nat.{eq-zero-or-pos}
use Rattle.paper.specs.Choice.{both}
use Rattle.paper.specs.Answer.{Refusal, Answer, accepted, refused, check, ◌then◌}

pub both_true : (p q : Bool) → both p q ≡ true → (p ≡ true) × (q ≡ true)
both_true true q e = (refl, e)
both_true false q e = (e, cc)

-- a refusal is not an acceptance
pub never : {A : Type 0} {r : Refusal} {a : A} → refused r ≡ accepted a → ⊥
never e = let z : ◌≡◌ {A = ℕ} 0 1 = cc in omega arith

-- a check that ends in an acceptance passed, and what it let through is accepted
pub check_passed : {A : Type 0} (ok : Bool) (r : Refusal) (a : Answer A) {x : A} → check ok r a ≡ accepted x → (ok ≡ true) × (a ≡ accepted x)
check_passed true r a e = (refl, e)
check_passed false r a e = absurd (never e)

-- two answers of which the second is accepted after the first were both accepted
pub then_passed : {A B : Type 0} (a : Answer A) (b : Answer B) {y : B} → (a then b) ≡ accepted y → (x : A) × (a ≡ accepted x) × (b ≡ accepted y)
then_passed (accepted x) b e = (x, refl, e)
then_passed (refused r) b e = absurd (never e)

-- a is below n or not
pub cut : (a n : ℕ) → (a < n) ⊎ (n ≤ a)
cut a n = ⊎_elim (λ z. inr (omega arith)) (λ p. inl (omega arith)) (eq-zero-or-pos (n - a))
