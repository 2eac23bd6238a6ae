-- The number of a run of bytes, from that of its beginning and that of its end.
-- Assumes nothing.
use mathlib.Core.Path.{◌≡◌}
use Prim.Native.Nat.{ℕ, zero, suc, ◌+◌, ◌*◌, ◌^◌, ◌≤◌, ◌<◌}
use mathlib.Core.List.{List}
use native.Mathlib.Nat.{add-zero, add-suc, pow-suc, pow-le-pow_right, lt_of_lt_of_le}
use native.Mathlib.Numerals.{add-one}
use native.Mathlib.Omega.{arith}
use lib.Dec.{lit<}
use lib.ListN.{length, get_or, take, drop}
use Rattle.paper.specs.Bytes.{of_bytes}
use Rattle.paper.proofs.Places.{of_next, below_next}

-- one byte more at the low end
of_more : (s : List ℕ) (at i : ℕ) → at + i < length s → of_bytes (take (suc i) (drop at s)) ≡ of_bytes (take i (drop at s)) * 256 + get_or s (at + i) 0
of_more s at i h = rw (← add-one i) (of_next s at i h)

-- k bytes from a place on, and n bytes behind them
pub of_run : (s : List ℕ) (at k n : ℕ) → at + k + n ≤ length s
    → of_bytes (take k (drop at s)) * 256 ^ n + of_bytes (take n (drop (at + k) s)) ≡ of_bytes (take (k + n) (drop at s))
unfolding of_bytes
of_run s at k zero h = rw (add-zero k) (omega arith)
of_run s at k (suc n) h =
    let same : at + (k + n) ≡ at + k + n = omega arith in
    rw (add-suc k n, of_more s at (k + n) (omega arith), of_more s (at + k) n (omega arith), same, ← of_run s at k n (omega arith), pow-suc 256 n) (omega arith)

-- a number of fewer than eight bytes and one byte more are a half
pub in_half : (i v b : ℕ) → i < 8 → v < 256 ^ i → b < 256 → v * 256 + b < 2 ^ 64
in_half i v b few h k = lt_of_lt_of_le (below_next i v b h k) (pow-le-pow_right {n = 256} (lit< tt) {j = 8} (omega arith))
