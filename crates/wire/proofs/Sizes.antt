-- Sizes in two halves: how their order comes about, and how the smallest width grows with a number.
-- Assumes nothing.
use mathlib.Core.Path.{◌≡◌, refl, subst}
use mathlib.Core.List.{[], ◌∷◌}
use Prim.Native.Nat.{ℕ, max, ◌+◌, ◌*◌, ◌-◌, ◌^◌, ◌≤◌, ◌<◌}
use native.Mathlib.Nat.{mul_comm, mul-le-mul_right, lt_of_mul-lt-mul_right, lt_of_not-le, pow-le-pow_right}
use native.Mathlib.Omega.{arith}
use borrow.Author.Tests.{lt-ltb, le-ltb, eq-eqb, ne_eqb}
use lib.Arith.{digits_lt}
use lib.Dec.{lit<}
use lib.Pow.{pow-add}
use Rattle.std.specs.Ordering.{MatchOrdering, nat_cmp, ordering_then, is_lt}
use Rattle.std.specs.Cmp.{ranked}
use Rattle.std.specs.Prelude.{cond}
use Rattle.paper.specs.Sizes as paper
use Rattle.paper.specs.Sizes.{less, equal, greater, compare, Smallest}
use Rattle.wire.specs.Size.{value, order_of}
use Rattle.wire.specs.declared.size.Size.{Size}
use Rattle.std.specs.declared.cmp.Ordering.{Ordering}
use Rattle.std.specs.declared.cmp.Ordering.TheVariants.{Less, Equal, Greater}

-- ---- order
-- what each order says of two numbers
abbrev pub Says : Ordering → ℕ → ℕ → Type 0
Says o a b = MatchOrdering o (a < b) (a ≡ b) (b < a)

-- what an order says decides it
pub ordered : (o : Ordering) (a b : ℕ) → Says o a b → order_of o ≡ compare a b
unfolding compare
ordered Less a b h = simp (lt-ltb a b h)
ordered Equal a b h = simp (le-ltb a b (omega arith), eq-eqb a b h)
ordered Greater a b h = simp (le-ltb a b (omega arith), ne_eqb a b (omega arith))

-- two orders with the same name on paper are the same
abbrev pub order_back : paper.Order → Ordering
order_back less = Less
order_back equal = Equal
order_back greater = Greater

pub order-back : (o : Ordering) → order_back (order_of o) ≡ o
order-back Less = refl
order-back Equal = refl
order-back Greater = refl

-- the order of the halves, the high ones first, is the order of the numbers
pub by_halves : (ah al bh bl : ℕ) → al < 2 ^ 64 → bl < 2 ^ 64 → Says (ordering_then (nat_cmp ah bh) (nat_cmp al bl)) (ah * 2 ^ 64 + al) (bh * 2 ^ 64 + bl)
by_halves ah al bh bl h k = go (nat_cmp ah bh) (nat_cmp al bl) (ranked ah bh (nat_cmp ah bh) refl) (ranked al bl (nat_cmp al bl) refl)
  where
    go : (o p : Ordering) → Says o ah bh → Says p al bl → Says (ordering_then o p) (ah * 2 ^ 64 + al) (bh * 2 ^ 64 + bl)
    go Less p d e = omega arith
    go Equal Less d e = omega arith
    go Equal Equal d e = omega arith
    go Equal Greater d e = omega arith
    go Greater p d e = omega arith

-- of two sizes, the one that their order picks has the larger number
pub larger : (o : Ordering) (a b : Size) → Says o (value b) (value a) → value (cond (is_lt o) a b) ≡ max (value a) (value b)
larger Less a b h = omega arith
larger Equal a b h = omega arith
larger Greater a b h = omega arith

-- two halves hold a number of sixteen bytes
pub in_sixteen : (h l : ℕ) → h < 2 ^ 64 → l < 2 ^ 64 → h * 2 ^ 64 + l < 256 ^ 16
in_sixteen h l p q = digits_lt p q

-- ---- the smallest width of one number
-- w is the least width from 1 up that holds n, above 16 too
pub record Least (n w : ℕ) : Type 0 where
  pub positive : 1 ≤ w
  pub fits : n < 256 ^ w
  pub least : (v : ℕ) → 1 ≤ v → n < 256 ^ v → w ≤ v

pub smallest_of : {n w : ℕ} → n < 256 ^ 16 → Least n w → Smallest (n ∷ []) w
smallest_of h l = record {
  holds = record { positive = l.positive; within = l.least 16 (omega arith) h; fit = (l.fits, tt) };
  least = λ v g. l.least v g.positive g.fit.0;
}

-- k bytes more behind a number above 0 take a width of k more
pub grow : (k q r : ℕ) {w : ℕ} → 0 < q → r < 256 ^ k → Least q w → Least (q * 256 ^ k + r) (k + w)
grow k q r {w} pos below s = record {
  positive = omega (arith, s.positive);
  fits = rw (pow-add 256 k w) (subst (λ (x : ℕ). q * 256 ^ k + r < x) (mul_comm (256 ^ w) (256 ^ k)) (digits_lt s.fits below));
  least = least;
}
  where
    least : (v : ℕ) → 1 ≤ v → q * 256 ^ k + r < 256 ^ v → k + w ≤ v
    least v p h =
        let over : 256 ^ k ≤ q * 256 ^ k = omega (arith, mul-le-mul_right (256 ^ k) pos) in
        let more : k < v = lt_of_not-le (λ g. omega (arith, pow-le-pow_right {n = 256} (lit< tt) g)) in
        let split : k + (v - k) ≡ v = omega arith in
        let parts : 256 ^ v ≡ 256 ^ k * 256 ^ (v - k) = rw (← pow-add 256 k (v - k), split) refl in
        omega (arith, s.least (v - k) (omega arith) (lt_of_mul-lt-mul_right (256 ^ k) (omega arith)))

-- the width of the larger is the width of both
pub of_larger : (a b : ℕ) {w : ℕ} → Smallest (max a b ∷ []) w → Smallest (a ∷ b ∷ []) w
of_larger a b s = record {
  holds = record { positive = s.holds.positive; within = s.holds.within; fit = (omega (arith, s.holds.fit.0), (omega (arith, s.holds.fit.0), tt)) };
  least = λ v g. s.least v (record { positive = g.positive; within = g.within; fit = (omega (arith, g.fit.0, g.fit.1.0), tt) });
}
