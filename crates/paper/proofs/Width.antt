-- The width is the only freedom that a message has: the wider its sizes, the longer it is, so the smallest width gives the one shortest way.
-- Assumes nothing.
use mathlib.Core.Path.{◌≡◌, refl, ap, sym, ◌∙◌}
use Prim.Native.Nat.{ℕ, ◌+◌, ◌*◌, ◌≤◌}
use mathlib.Core.List.{List, ◌∷◌, ◌++◌}
use native.Mathlib.Nat.{mul-le-mul_left, eq_of_mul-eq-mul_left}
use native.Mathlib.Omega.{arith}
use lib.ListN.{length, length-append}
use Rattle.paper.specs.Sizes.{Holds, width}
use Rattle.paper.specs.Field.{sizes_at}
use Rattle.paper.proofs.Bytes.{length_to_bytes}
use Rattle.paper.proofs.Sizes.{smallest_width}
use Rattle.paper.proofs.Codec.{Wire, Best}
use Rattle.paper.proofs.Fields.{length_laid}

-- bytes that a width shapes: no shorter where the width is larger, and the same where they are as long
pub record Shaped (f : ℕ → List ℕ) : Type 0 where
  pub grows : (w v : ℕ) → w ≤ v → length (f w) ≤ length (f v)
  pub only : (w v : ℕ) → length (f w) ≡ length (f v) → f w ≡ f v

pub shaped_same : (u : List ℕ) → Shaped (λ (w : ℕ). u)
shaped_same u = record { grows = λ w v h. omega arith; only = λ w v e. refl }

pub shaped_after : (p : List ℕ) {f : ℕ → List ℕ} → Shaped f → Shaped (λ (w : ℕ). p ++ f w)
shaped_after p {f} h = record {
  grows = λ w v l. simp length-append (omega (arith, h.grows w v l));
  only = λ w v e. ap (λ (l : List ℕ). p ++ l) (h.only w v (omega (arith, simp length-append at e)));
}

pub length_sizes_at : (k w : ℕ) (xs : List ℕ) → length (sizes_at k w xs) ≡ k + length xs * w
unfolding sizes_at
length_sizes_at k w xs = simp (length-append, length_to_bytes, length_laid)

pub shaped_sizes : (k x : ℕ) (xs : List ℕ) → Shaped (λ (w : ℕ). sizes_at k w (x ∷ xs))
shaped_sizes k x xs = record {
  grows = λ w v h. simp length_sizes_at (omega (arith, mul-le-mul_left n h));
  only = λ w v e. ap (λ (i : ℕ). sizes_at k i (x ∷ xs)) (eq_of_mul-eq-mul_left n (omega arith) w v (omega (arith, simp length_sizes_at at e)));
}
  where
    n : ℕ
    n = length (x ∷ xs)

-- of the ways that differ in their width alone, the one with the smallest width is the best
pub best_width : {A : Type 0} {W : Wire A} (sizes : A → List ℕ) (at : ℕ → A → List ℕ) → ((a : A) → Shaped (λ (w : ℕ). at w a))
    → ((a : A) (u : List ℕ) → W a u → (w : ℕ) × Holds (sizes a) w × (u ≡ at w a))
    → ((a : A) (u : List ℕ) → W a u → (w : ℕ) → Holds (sizes a) w → W a (at w a))
    → Best A W (λ (a : A). at (width (sizes a)) a)
best_width sizes at shaped width_of_lem at_width = record {
  good = λ a u v. let (w, h, e) = width_of_lem a u v in at_width a u v (width (sizes a)) (smallest_width (sizes a) w h).holds;
  short = λ a u v. let (w, h, e) = width_of_lem a u v in rw e ((shaped a).grows (width (sizes a)) w ((smallest_width (sizes a) w h).least w h));
  only = λ a u v l. let (w, h, e) = width_of_lem a u v in e ∙ (shaped a).only w (width (sizes a)) (ap length (sym e) ∙ l);
}
