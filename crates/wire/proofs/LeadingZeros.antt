-- How many bytes a number takes, from the count of the zero bits that lead it.
-- Assumes nothing.
use mathlib.Core.Path.{◌≡◌, refl, sym}
use Prim.Native.Nat.{ℕ, zero, suc, max, ◌+◌, ◌*◌, ◌-◌, ◌/◌, ◌%◌, ◌^◌, ◌≤◌, ◌<◌}
use native.Mathlib.Nat.{pow-suc, suc-mul, lt_of_lt_of_le, le_trans, lt_of_not-le, lt_irrefl}
use native.Mathlib.Omega.{arith}
use mir.Syntax.{w64}
use mir.Val.{Fits}
use lib.Bits.{bit_or, or_step, or_zero_r, or_lt}
use lib.Count.{count_leading_zeros, leading_le, leading_top}
use lib.Dec.{lit<}
use lib.Pow.{pow-add, pow_mono}
use Rattle.wire.proofs.Sizes.{Least, grow}

-- a half has at most 64 leading zeros, and so at most 8 whole bytes of them
pub zeros_fit : (n : ℕ) → Fits w64 (count_leading_zeros 64 n)
zeros_fit n = omega (arith, leading_le 64 n)

pub zero_bytes : (n : ℕ) {k : ℕ} → 8 ≤ k → count_leading_zeros 64 n / 8 ≤ k
zero_bytes n h = omega (arith, leading_le 64 n)

-- 256 ^ w in bits
pow_bits : (w : ℕ) → 256 ^ w ≡ 2 ^ (w * 8)
pow_bits zero = refl
pow_bits (suc w) = rw (pow-suc 256 w, pow_bits w, suc-mul w 8) (sym (pow-add 2 (w * 8) 8))

-- a number takes the byte in which its highest set bit stands, and those below it
of_top : {n : ℕ} (j w : ℕ) → 2 ^ j ≤ n → n < 2 ^ suc j → j < w * 8 → w * 8 ≤ j + 8 → Least n w
of_top {n} j w low high more less = record { positive = omega arith; fits = rw (pow_bits w) (lt_of_lt_of_le high (pow_mono more)); least = least }
  where
    least : (v : ℕ) → 1 ≤ v → n < 256 ^ v → w ≤ v
    least v p h =
        let above : j < v * 8 = lt_of_not-le (λ g. lt_irrefl n (lt_of_lt_of_le (rw pow_bits at h) (le_trans (pow_mono g) low))) in
        omega arith

-- the law of leading zeros: a number of k bytes, not 0, takes a byte less for every 8 zero bits that lead it
pub bytes_of_zeros : (k n : ℕ) → 0 < n → n < 2 ^ (k * 8) → Least n (k - count_leading_zeros (k * 8) n / 8)
bytes_of_zeros k n pos h =
    let (j, sum, low, high) = leading_top (k * 8) n pos h in
    of_top j (k - count_leading_zeros (k * 8) n / 8) low high (omega arith) (omega arith)

-- n with its lowest bit set
or_one : (n : ℕ) → bit_or n 1 ≡ n / 2 * 2 + 1
or_one n = let bit : max (n % 2) 1 ≡ 1 = omega arith in rw (or_step n 1, or_zero_r (n / 2), bit)

-- takes as many bytes as n does
with_lowest_bit : (n : ℕ) {w : ℕ} → Least (bit_or n 1) w → Least n w
with_lowest_bit n s = record { positive = s.positive; fits = omega (arith, s.fits, or_one n); least = λ v p h. s.least v p (even v p h) }
  where
    even : (v : ℕ) → 1 ≤ v → n < 256 ^ v → bit_or n 1 < 256 ^ v
    even zero p h = elim p [ ]
    even (suc v) p h = omega (arith, or_one n, pow-suc 256 v)

-- ---- the two halves of a size
module _ (h l : ℕ) (low : l < 2 ^ 64) where
  -- where the top half is zero, the low half counts
  pub low-counts : h ≡ 0 → Least (h * 2 ^ 64 + l) (8 - count_leading_zeros 64 (bit_or l 1) / 8)
  low-counts none =
      let alone : l ≡ h * 2 ^ 64 + l = omega arith in
      rw (← alone) (with_lowest_bit l (bytes_of_zeros 8 (bit_or l 1) (omega (arith, or_one l)) (or_lt 64 l 1 low (lit< tt))))

  -- where it is not, the top half counts, and the eight bytes of the low half stand below it
  pub top_counts : 0 < h → h < 2 ^ 64 → Least (h * 2 ^ 64 + l) (16 - count_leading_zeros 64 h / 8)
  top_counts some top =
      let sum : 8 + (8 - count_leading_zeros 64 h / 8) ≡ 16 - count_leading_zeros 64 h / 8 = omega (arith, leading_le 64 h) in
      rw (← sum) (grow 8 h l some low (bytes_of_zeros 8 h some top))

-- the worked examples: 2^64 - 1 takes 8 bytes, 2^64 takes 9, and 0 takes 1
worked : (8 - count_leading_zeros 64 (bit_or (2 ^ 64 - 1) 1) / 8 ≡ 8) × (16 - count_leading_zeros 64 1 / 8 ≡ 9) × (8 - count_leading_zeros 64 (bit_or 0 1) / 8 ≡ 1)
unfolding count_leading_zeros
worked = (refl, refl, refl)
