-- Bits of a number: what a test of its lowest bits asks, what union and intersection of two masks have, and that its bits determine it.
-- Assumes nothing.
use mathlib.Core.Path.{◌≡◌, refl, sym, ap, ap₂, ◌∙◌}
use mathlib.Core.Bool.{Bool, true, false, not}
use Prim.Native.Nat.{ℕ, zero, suc, ◌+◌, ◌*◌, ◌/◌, ◌%◌, ◌^◌, ◌<◌}
use native.Mathlib.Nat.{mod-lt, mod-one, mod-eq_of_lt, pow-suc, mul_comm, zero-mul, one-mul, zero-add}
use native.Mathlib.Omega.{arith}
use borrow.Author.Tests.{ne_eqb}
use lib.Arith.{mod-mul}
use lib.Bits.{bit_and, bit_or, and_shr, and_mod, and_lt, or_shr, or_mod}
use lib.Dec.{eqb}
use lib.Pow.{pow_pos}
use Rattle.paper.specs.Choice.{both, either}
use Rattle.paper.specs.TroubleCode.{bit, in_common, severity_valid}

-- ---- one digit
digit : (n : ℕ) → n % 2 < 2
digit n = mod-lt n (omega arith)

-- a digit at the weight p, and the rest: together they are 0 where the digit is not 1 and the rest is 0
some : (d p r : ℕ) → d < 2 → 0 < p → not (eqb (d * p + r) 0) ≡ either (eqb d 1) (not (eqb r 0))
some zero p r h k = rw (zero-mul, zero-add)
some (suc zero) p r h k = rw (one-mul, ne_eqb (p + r) 0 (λ e. omega arith))
some (suc (suc d)) p r h k = absurd (omega arith)

or_digit : (x y : ℕ) → x < 2 → y < 2 → eqb (bit_or x y) 1 ≡ either (eqb x 1) (eqb y 1)
or_digit zero y h k = refl
or_digit (suc zero) zero h k = refl
or_digit (suc zero) (suc zero) h k = refl
or_digit (suc zero) (suc (suc y)) h k = absurd (omega arith)
or_digit (suc (suc x)) y h k = absurd (omega arith)

and_digit : (x y : ℕ) → x < 2 → y < 2 → eqb (bit_and x y) 1 ≡ both (eqb x 1) (eqb y 1)
and_digit zero y h k = refl
and_digit (suc zero) zero h k = refl
and_digit (suc zero) (suc zero) h k = refl
and_digit (suc zero) (suc (suc y)) h k = absurd (omega arith)
and_digit (suc (suc x)) y h k = absurd (omega arith)

same-digit : (x y : ℕ) → x < 2 → y < 2 → eqb x 1 ≡ eqb y 1 → x ≡ y
same-digit zero zero h k e = refl
same-digit zero (suc zero) h k e = cc
same-digit zero (suc (suc y)) h k e = absurd (omega arith)
same-digit (suc zero) zero h k e = cc
same-digit (suc zero) (suc zero) h k e = refl
same-digit (suc zero) (suc (suc y)) h k e = absurd (omega arith)
same-digit (suc (suc x)) y h k e = absurd (omega arith)

-- ---- union and intersection, bit by bit
-- a union has the bits of either mask
pub union_bits : (k a b : ℕ) → bit k (bit_or a b) ≡ either (bit k a) (bit k b)
union_bits k a b =
    rw (or_shr a b k, or_mod (a / 2 ^ k) (b / 2 ^ k) 1) (or_digit (a / 2 ^ k % 2) (b / 2 ^ k % 2) (digit (a / 2 ^ k)) (digit (b / 2 ^ k)))

-- an intersection has the bits that both masks have
pub intersection_bits : (k a b : ℕ) → bit k (bit_and a b) ≡ both (bit k a) (bit k b)
intersection_bits k a b =
    rw (and_shr a b k, and_mod (a / 2 ^ k) (b / 2 ^ k) 1) (and_digit (a / 2 ^ k % 2) (b / 2 ^ k % 2) (digit (a / 2 ^ k)) (digit (b / 2 ^ k)))

-- ---- the k lowest bits
-- one bit more
low_bits : (n k : ℕ) → n % 2 ^ suc k ≡ (n / 2 ^ k % 2) * 2 ^ k + n % 2 ^ k
low_bits n k = ap (λ (x : ℕ). n % x) (pow-suc 2 k ∙ mul_comm (2 ^ k) 2) ∙ mod-mul n {m = 2} (omega arith) (pow_pos k)

either_turned : (p q : Bool) → either p q ≡ either q p
either_turned true true = refl
either_turned true false = refl
either_turned false true = refl
either_turned false false = refl

either_grouped : (p q r : Bool) → either (either p q) r ≡ either p (either q r)
either_grouped true q r = refl
either_grouped false q r = refl

-- one of them is set
abbrev some_below : ℕ → ℕ → Bool
some_below zero n = false
some_below (suc k) n = either (some_below k n) (bit k n)

some_below_lem : (k n : ℕ) → not (eqb (n % 2 ^ k) 0) ≡ some_below k n
some_below_lem zero n = rw mod-one
some_below_lem (suc k) n =
    ap (λ (x : ℕ). not (eqb x 0)) (low_bits n k) ∙ some (n / 2 ^ k % 2) (2 ^ k) (n % 2 ^ k) (digit (n / 2 ^ k)) (pow_pos k)
    ∙ either_turned (bit k n) (not (eqb (n % 2 ^ k) 0)) ∙ ap (λ (t : Bool). either t (bit k n)) (some_below_lem k n)

common_below : (k a b : ℕ) → some_below k (bit_and a b) ≡ in_common k a b
common_below zero a b = refl
common_below (suc k) a b = either_turned (some_below k (bit_and a b)) (bit k (bit_and a b)) ∙ ap₂ either (intersection_bits k a b) (common_below k a b)

-- two numbers of k bits have a bit in common where their intersection is not 0
pub in-common : (k a b : ℕ) → a < 2 ^ k → b < 2 ^ k → not (eqb (bit_and a b) 0) ≡ in_common k a b
in-common k a b h g = ap (λ (x : ℕ). not (eqb x 0)) (sym (mod-eq_of_lt (and_lt k a b h g))) ∙ some_below_lem k (bit_and a b) ∙ common_below k a b

-- a class is named where the five lowest bits are not all 0
pub some_class : (b : ℕ) → not (eqb (b % 32) 0) ≡ severity_valid b
some_class b = some_below_lem 5 b ∙ simp either_grouped

-- ---- its bits determine a number
-- the k lowest bits agree
abbrev pub Alike : ℕ → ℕ → ℕ → Type 0
Alike zero a b = Unit {0}
Alike (suc k) a b = (bit k a ≡ bit k b) × Alike k a b

low_alike : (k a b : ℕ) → Alike k a b → a % 2 ^ k ≡ b % 2 ^ k
low_alike zero a b h = mod-one a ∙ sym (mod-one b)
low_alike (suc k) a b h =
    low_bits a k
    ∙ ap₂ (λ (x y : ℕ). x * 2 ^ k + y) (same-digit (a / 2 ^ k % 2) (b / 2 ^ k % 2) (digit (a / 2 ^ k)) (digit (b / 2 ^ k)) h.0) (low_alike k a b h.1)
    ∙ sym (low_bits b k)

-- two numbers of k bits that agree in each of them are equal
pub bits_determine : (k a b : ℕ) → a < 2 ^ k → b < 2 ^ k → Alike k a b → a ≡ b
bits_determine k a b h g e = sym (mod-eq_of_lt h) ∙ low_alike k a b e ∙ mod-eq_of_lt g
