-- Bytes, and numbers in bytes: reading a number back gives what was written, and writing it anew gives the bytes.
-- Assumes nothing.
use mathlib.Core.Path.{◌≡◌, refl, ap}
use Prim.Native.Nat.{ℕ, zero, suc, ◌%◌, ◌^◌, ◌<◌}
use mathlib.Core.List.{List, [], ◌∷◌, ◌++◌}
use native.Mathlib.Nat.{pow-succ', one-le-pow, mod-lt, div-add-mod', div-lt_iff_lt-mul}
use native.Mathlib.Omega.{arith}
use lib.Arith.{digits_lt, digits_div, digits_mod}
use lib.ListN.{length, replicate}
use Rattle.paper.specs.Bytes.{Bytes, of_bytes, to_bytes}

-- ---- bytes one after the other
pub bytes_left : (u t : List ℕ) → Bytes (u ++ t) → Bytes u
bytes_left [] t h = tt
bytes_left (b ∷ u) t h = (h.0, bytes_left u t h.1)

pub bytes-right : (u t : List ℕ) → Bytes (u ++ t) → Bytes t
bytes-right [] t h = h
bytes-right (b ∷ u) t h = bytes-right u t h.1

pub bytes_append : (u t : List ℕ) → Bytes u → Bytes t → Bytes (u ++ t)
bytes_append [] t g h = h
bytes_append (b ∷ u) t g h = (g.0, bytes_append u t g.1 h)

pub bytes_replicate : (n b : ℕ) → b < 256 → Bytes (replicate n b)
bytes_replicate zero b h = tt
bytes_replicate (suc n) b h = (h, bytes_replicate n b h)

-- ---- numbers
pub pow_pos : (w : ℕ) → 0 < 256 ^ w
pow_pos w = one-le-pow w 256 (omega arith)

pub length_to_bytes : (w n : ℕ) → length (to_bytes w n) ≡ w
unfolding to_bytes
length_to_bytes zero n = refl
length_to_bytes (suc w) n = ap suc (length_to_bytes w (n % 256 ^ w))

-- so many bytes stand for a number that fits in so many
of_bytes_below : (s : List ℕ) → Bytes s → of_bytes s < 256 ^ length s
unfolding of_bytes
of_bytes_below [] h = omega arith
of_bytes_below (b ∷ s) h = rw (pow-succ' 256 (length s)) (digits_lt h.0 (of_bytes_below s h.1))

pub below_length : (n : ℕ) (s : List ℕ) → Bytes s → length s ≡ n → of_bytes s < 256 ^ n
below_length n s b l = rw (← l) (of_bytes_below s b)

-- the number of some bytes, written in as many, gives them back
to_of : (s : List ℕ) → Bytes s → to_bytes (length s) (of_bytes s) ≡ s
unfolding to_bytes of_bytes
to_of [] h = refl
to_of (b ∷ s) h =
    let small : of_bytes s < 256 ^ length s = of_bytes_below s h.1 in
    rw (digits_div b small, digits_mod b small, to_of s h.1)

pub of_length : (n : ℕ) (s : List ℕ) → Bytes s → length s ≡ n → to_bytes n (of_bytes s) ≡ s
of_length n s b l = rw (← l) (to_of s b)

-- a number that fits, written and read
pub of_to : (w n : ℕ) → n < 256 ^ w → of_bytes (to_bytes w n) ≡ n
unfolding to_bytes of_bytes
of_to zero n h = omega arith
of_to (suc w) n h = rw (length_to_bytes w (n % 256 ^ w), of_to w (n % 256 ^ w) (mod-lt n (pow_pos w))) (div-add-mod' n (256 ^ w))

pub bytes-to_bytes : (w n : ℕ) → n < 256 ^ w → Bytes (to_bytes w n)
unfolding to_bytes
bytes-to_bytes zero n h = tt
bytes-to_bytes (suc w) n h =
    ((div-lt_iff_lt-mul (pow_pos w)).1 (rw (pow-succ' 256 w) at h), bytes-to_bytes w (n % 256 ^ w) (mod-lt n (pow_pos w)))
