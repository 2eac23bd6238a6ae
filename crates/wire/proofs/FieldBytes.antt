-- Of what bytes the fields consist: a number in bytes that hold it, a run after its count, sizes after their width.
-- Assumes nothing.
use Prim.Native.Nat.{ℕ, zero, suc, ◌+◌, ◌-◌, ◌*◌, ◌/◌, ◌%◌, ◌^◌, ◌≤◌, ◌<◌}
use mathlib.Core.Path.{◌≡◌, refl, sym}
use mathlib.Core.List.{List, [], ◌∷◌, ◌++◌, append_assoc, append-nil}
use native.Mathlib.Nat.{zero-add, suc-add, mul_comm, pow-suc, mod-lt, mod-eq_of_lt, div-div-eq-div-mul, pow-le-pow_right}
use native.Mathlib.Numerals.{add-one}
use native.Mathlib.Omega.{arith}
use borrow.Author.Tests.{lt-leb, le-leb}
use lib.Arith.{mod-mul, digits_div, digits_mod}
use lib.Dec.{lit<}
use lib.ListN.{length, drop, set, length-append}
use lib.Pow.{pow-add}
use lib.Seq.{drop-cons, lt-length-set, get_or-set_same, drop-set-lt}
use Rattle.std.specs.Int.{bytes_high_first, byte_at}
use Rattle.paper.specs.Answer.{accepted, refused, wrong_format}
use Rattle.paper.specs.Bytes.{to_bytes}
use Rattle.paper.specs.Sizes.{width, Smallest}
use Rattle.paper.specs.Field.{with_count, laid, sizes_at}
use Rattle.paper.proofs.Bytes.{pow_pos, length_to_bytes}
use Rattle.paper.proofs.Sizes.{smallest_is}
use Rattle.paper.proofs.Width.{length_sizes_at}
use Rattle.wire.specs.Prefix.{prefix_most}
use Rattle.wire.specs.Writing.{counted_run, sizes_out}
use Rattle.wire.specs.declared.prefix.Prefix.{Prefix}
use Rattle.wire.specs.declared.prefix.Prefix.TheVariants.{One, Two}

-- ---- a number that fits
-- without its low byte it fits in one byte less
pub fits-less : (w : ℕ) {n : ℕ} → n < 256 ^ suc w → n / 256 < 256 ^ w
fits-less w h = omega (arith, pow-suc 256 w)

-- its bytes are those of its high part, in front of those of its low one
pub to_bytes_parts : (k j n : ℕ) → n < 256 ^ (k + j) → to_bytes (k + j) n ≡ to_bytes k (n / 256 ^ j) ++ to_bytes j (n % 256 ^ j)
unfolding to_bytes
to_bytes_parts zero j n h = let small : n < 256 ^ j = rw zero-add at h in rw (zero-add j, mod-eq_of_lt small)
to_bytes_parts (suc k) j n h =
    let q = n / 256 ^ j % 256 ^ k in
    let low = mod-lt n (pow_pos j) in
    let top : n / 256 ^ (k + j) ≡ n / 256 ^ j / 256 ^ k = rw (pow-add 256 k j, mul_comm (256 ^ k) (256 ^ j)) (sym (div-div-eq-div-mul n (256 ^ j) (256 ^ k))) in
    let cut : n % 256 ^ (k + j) ≡ q * 256 ^ j + n % 256 ^ j = rw (pow-add 256 k j) (mod-mul n (pow_pos k) (pow_pos j)) in
    rw (suc-add k j, top, to_bytes_parts k j (n % 256 ^ (k + j)) (mod-lt n (pow_pos (k + j))), cut, digits_div q low, digits_mod q low)

-- the bytes that `to_be_bytes` gives: from the top, each is what is left of the number at its place
high_first : (w n : ℕ) → bytes_high_first w n ≡ to_bytes w (n % 256 ^ w)
unfolding to_bytes
high_first zero n = refl
high_first (suc w) n =
    let low = mod-lt n (pow_pos w) in
    let cut : n % 256 ^ suc w ≡ n / 256 ^ w % 256 * 256 ^ w + n % 256 ^ w = rw (pow-suc 256 w, mul_comm (256 ^ w) 256) (mod-mul n (lit< tt) (pow_pos w)) in
    rw (cut, digits_div (n / 256 ^ w % 256) low, digits_mod (n / 256 ^ w % 256) low, high_first w n, top_byte w n)
  where
    top_byte : (w n : ℕ) → byte_at w n ≡ n / 256 ^ w % 256
    top_byte zero n = let whole : n / 1 ≡ n = omega arith in rw whole
    top_byte (suc w) n = refl

-- a number that fits has just those bytes
pub be_bytes : (w n : ℕ) → n < 256 ^ w → to_bytes w n ≡ bytes_high_first w n
be_bytes w n h = rw (high_first w n, mod-eq_of_lt h)

-- a number in one byte is that byte
pub one_byte : (b : ℕ) → to_bytes 1 b ≡ b ∷ []
unfolding to_bytes
one_byte b = let whole : b / 1 ≡ b = omega arith in rw whole

-- the low byte comes last, after the bytes of the number without it
low_last : (w n : ℕ) → n < 256 ^ suc w → to_bytes (suc w) n ≡ to_bytes w (n / 256) ++ (n % 256 ∷ [])
low_last w n h = rw (add-one w, one_byte (n % 256)) at (to_bytes_parts w 1 n (rw (add-one w) h))

-- the bytes still to come, in front of those that stand there, stay the same where the low byte is stored
pub low_store : (w n : ℕ) (out : List ℕ) → n < 256 ^ suc w → w < length out
    → to_bytes w (n / 256) ++ drop w (set out w (n % 256)) ≡ to_bytes (suc w) n ++ drop (suc w) out
low_store w n out h l =
    rw (low_last w n h, drop-cons (set out w (n % 256)) w 0 (lt-length-set out w (n % 256) l), get_or-set_same out w (n % 256) 0 l, drop-set-lt (suc w) out w (n % 256) (omega arith))
    (sym (append_assoc (to_bytes w (n / 256)) (n % 256 ∷ []) (drop (suc w) out)))

-- ---- a size that fits: its halves
module _ (w h l : ℕ) (fits : h * 2 ^ 64 + l < 256 ^ w) where
  -- in at most eight bytes it is its low half
  pub low_half : w ≤ 8 → h * 2 ^ 64 + l ≡ l
  low_half few = let most : 256 ^ w ≤ 256 ^ 8 = pow-le-pow_right (lit< tt) few in omega arith

  -- in more, the low half takes eight, and the high half fits in those in front of them
  module _ (many : 8 ≤ w) where
    back : w - 8 + 8 ≡ w
    back = omega arith

    pub high_fits : h < 256 ^ (w - 8)
    high_fits = omega (arith, rw back at (pow-add 256 (w - 8) 8))

    pub halves : l < 2 ^ 64 → to_bytes (w - 8) h ++ to_bytes 8 l ≡ to_bytes w (h * 2 ^ 64 + l)
    halves low = sym (rw (back, digits_div h low, digits_mod h low) at (to_bytes_parts (w - 8) 8 (h * 2 ^ 64 + l) (rw back fits)))

-- ---- a run after its count
-- a run that is longer than its count can say, and one that is not
pub counted-long : (k : ℕ) {most : ℕ} (x : List ℕ) → most < length x → counted_run k most x ≡ refused (wrong_format 0)
unfolding counted_run
counted-long k x h = rw (lt-leb _ _ h)

pub counted-good : (k : ℕ) {most : ℕ} (x : List ℕ) → length x ≤ most → counted_run k most x ≡ accepted (with_count k x)
unfolding counted_run
counted-good k x h = rw (le-leb _ _ h)

pub length_counted : (k : ℕ) (x : List ℕ) → length (with_count k x) ≡ k + length x
unfolding with_count
length_counted k x = simp (length-append, length_to_bytes)

-- ---- sizes after their width
pub length_sizes : (k : ℕ) (xs : List ℕ) → length (sizes_out k xs) ≡ k + length xs * width xs
unfolding sizes_out
length_sizes k xs = length_sizes_at k (width xs) xs

-- a width stands in either prefix
pub prefix_width : (p : Prefix) {xs : List ℕ} {w : ℕ} → Smallest xs w → w ≤ prefix_most p
prefix_width One s = omega (arith, s.holds.within)
prefix_width Two s = omega (arith, s.holds.within)

-- of a width that says of itself that it is the smallest: the length of one size, and of two, and the bytes as they are written
pub length_one : (k : ℕ) {w x : ℕ} → Smallest (x ∷ []) w → length (sizes_out k (x ∷ [])) ≡ k + w
length_one k {x = x} s = omega (arith, length_sizes k (x ∷ []), smallest_is s)

pub length_two : (k : ℕ) {w a b : ℕ} → Smallest (a ∷ b ∷ []) w → length (sizes_out k (a ∷ b ∷ [])) ≡ k + w + w
length_two k {a = a} {b} s = omega (arith, length_sizes k (a ∷ b ∷ []), smallest_is s)

pub one_size_lem : (k : ℕ) {w x : ℕ} → Smallest (x ∷ []) w → to_bytes k w ++ to_bytes w x ≡ sizes_out k (x ∷ [])
unfolding sizes_out sizes_at laid
one_size_lem k s = rw (← smallest_is s, append-nil)

pub two_sizes : (k : ℕ) {w a b : ℕ} → Smallest (a ∷ b ∷ []) w → (to_bytes k w ++ to_bytes w a) ++ to_bytes w b ≡ sizes_out k (a ∷ b ∷ [])
unfolding sizes_out sizes_at laid
two_sizes k s = rw (← smallest_is s, append-nil, append_assoc)
