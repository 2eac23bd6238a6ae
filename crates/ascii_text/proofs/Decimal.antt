-- The digits of a number, as std prints them by `{n}`, are the paper's decimal; and how many they are at most.
-- Assumes nothing.
use mathlib.Core.Path.{◌≡◌, sym, ◌∙◌}
use Prim.Native.Nat.{ℕ, suc, ◌^◌, ◌≤◌, ◌<◌}
use mathlib.Core.List.{List}
use native.Mathlib.Omega.{arith}
use borrow.Author.Tests.{lt-ltb, le-ltb}
use lib.Dec.{lit<}
use lib.ListN.{length}
use Rattle.std.specs.Fmt.{decimal as shown}
use Rattle.std.proofs.lemmas.Fmt.{AppendsLastDigit, decimal_from_appends, length-decimal-le, length-decimal-le_succ}
use Rattle.paper.specs.ReadingProgram.{decimal_in, decimal}

last_digit_last : AppendsLastDigit decimal_in
unfolding decimal_in
last_digit_last = record {
  one = λ k n h. rw (lt-ltb n 10 h);
  more = λ k n h. rw (le-ltb n 10 h);
}

decimal_same : (n : ℕ) → n < 2 ^ 64 → shown n ≡ decimal n
unfolding decimal
decimal_same n h = sym (decimal_from_appends decimal_in last_digit_last (suc n) n h (omega (arith, length-decimal-le_succ n h)))

-- the bytes of that text
pub printed : {text digits : List ℕ} {n : ℕ} → digits ≡ text → text ≡ shown n → n < 2 ^ 64 → digits ≡ decimal n
printed {n = n} e f h = e ∙ f ∙ decimal_same n h

-- a number of 64 bits has at most 20
pub short : (n : ℕ) → n < 2 ^ 64 → length (decimal n) ≤ 20
short n h = rw (← decimal_same n h) (length-decimal-le 20 n (lit< tt) (omega arith) h)
