-- ASCII by the block and by the run, and that it is UTF-8. Assumes nothing.
use Prim.Native.Nat.{ℕ, zero, suc, ◌+◌, ◌-◌, ◌≤◌, ◌<◌}
use mathlib.Core.Path.{◌≡◌, sym, ◌∙◌}
use mathlib.Core.Logic.{◌↔◌, ⊎_elim}
use mathlib.Core.List.{List, [], ◌∷◌, ◌++◌, append-nil}
use native.Mathlib.Omega.{arith}
use borrow.Author.Count.{below_more}
use lib.Bits.{bit_or, or_add_and, and_le_l, and_le_r, or_lt}
use lib.ListN.{length, get_or, take, drop, length-drop}
use Rattle.paper.specs.Utf8.{Utf8, none, more, utf8_1}
use Rattle.paper.proofs.Choice.{cut}
use Rattle.utf8.specs.Valid.{Valid}
use Rattle.utf8.specs.Ascii.{AsciiTo, Ascii, AsciiStart, AsciiEnd}
use Rattle.utf8.proofs.Valid.{rest_of, part_within, in_part}

-- one byte more: the bits of two bytes together are below 0x80 where both are
pub bits_turn : (s : List ℕ) (i bits : ℕ) → (bits < 0x80) ↔ AsciiTo s i → (bit_or bits (get_or s i 0) < 0x80) ↔ AsciiTo s (i + 1)
bits_turn s i bits h =
    let b = get_or s i 0 in
    let e = or_add_and bits b in (
      (λ l. below_more _ i (h.0 (omega (arith, and_le_r bits b))) (omega (arith, and_le_l bits b))),
      (λ k. or_lt 7 bits b (h.1 (λ j l. k j (omega arith))) (k i (omega arith))),
    )

-- one block more, which the code lends as b
pub more-ascii : {s : List ℕ} {at : ℕ} (n : ℕ) (b u : List ℕ) → AsciiStart s at → drop at s ≡ b ++ u → length b ≡ n → Ascii b → AsciiStart s (at + n)
more-ascii {s} {at} n b u h p e f = record {
  within = part_within s at n b u h.within p e;
  ascii = λ i j. ⊎_elim (h.ascii i) (λ k. rw (in_part s at n b u p e i k j) (f (i - at) (omega arith))) (cut i at);
}

-- the last block, which the code lends as this part of s
pub ascii_end : (s : List ℕ) (n : ℕ) → n ≤ length s → Ascii (take (length s - (length s - n)) (drop (length s - n) s)) → AsciiEnd s n
ascii_end s n l b = record {
  within = l;
  ascii = λ i j k.
      let p : drop (length s - n) s ≡ take (length s - (length s - n)) (drop (length s - n) s) ++ [] =
      sym (rest_of s (length s - n)) ∙ sym (append-nil _) in
      let long : length (take (length s - (length s - n)) (drop (length s - n) s)) ≡ n = rw rest_of (omega (arith, length-drop (length s - n) s)) in
      rw (in_part s (length s - n) n _ [] p long i k (omega arith)) (b (i - (length s - n)) (omega arith));
}

-- ASCII is UTF-8
text : (n : ℕ) (s : List ℕ) → n ≤ length s → AsciiTo s n → Utf8 (take n s)
text zero s l h = none
text (suc n) [] l h = absurd (omega arith)
text (suc n) (a ∷ s) l h =
    more (utf8_1 {a = a} (omega arith, omega (arith, h 0 (omega arith)))) (text n s (omega arith) (λ i j. h (suc i) (omega arith)))

pub ascii-valid : {s : List ℕ} {n : ℕ} → AsciiStart s n → Valid s n
ascii-valid {s} {n} h = record { within = h.within; good = text n s h.within h.ascii }
