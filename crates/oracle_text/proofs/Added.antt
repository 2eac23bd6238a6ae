-- The laws of a text that grows: when bytes are added and when the text is given up, one element more of a list, and two hexadecimal digits to a byte.
-- Assumes nothing.
use Prim.Native.Nat.{ℕ, zero, suc, ◌+◌, ◌≤◌, ◌<◌}
use mathlib.Core.Path.{◌≡◌, refl, ap}
use mathlib.Core.Bool.{Bool, true, false}
use mathlib.Core.List.{List, [], ◌∷◌, ◌++◌}
use native.Mathlib.Nat.{pow-suc, one-le-pow}
use native.Mathlib.Numerals.{add-one, unary_clauses}
use native.Mathlib.Omega.{arith}
use borrow.Author.Tests.{le-leb, lt-leb}
use lib.Dec.{leb, lit<}
use lib.ListN.{length, take, set, get_or, length-append, take-append-drop}
use lib.Seq.{length-take-le, take_all}
use Rattle.io.specs.Digits.{IsDigitCount}
use Rattle.paper.specs.Choice.{pick, both}
use Rattle.paper.specs.Answer.{accepted, over}
use Rattle.paper.specs.ReadingProgram.{ascii}
use Rattle.wire.specs.Writing.{Wrote, Filled}
use Rattle.std.specs.Prelude.{Result}
use Rattle.wire.specs.declared.refusal.Refusal.{Refusal}
use Rattle.wire.proofs.Over.{over_length, rest, back, filled_more}
use Rattle.wire.proofs.Writes.{filled}
use Rattle.oracle_text.proofs.Counts.{counts}
use Rattle.oracle_text.specs.Text.{Text, text, Stands, begun, add, each, add_byte, add_hex}

-- ---- the first letter
pub begins : (letter : ℕ) (held : List ℕ) → 0 < length held → Stands (begun letter held) 1 (set held 0 letter)
unfolding begun over
begins letter [] h = absurd (omega arith)
begins letter (x ∷ others) h = record { right = rw (le-leb 1 (length (x ∷ others)) h); counts = counts 1 (letter ∷ others) h }

pub begins_nowhere : (letter : ℕ) (held : List ℕ) → length held ≡ 0 → Stands (begun letter held) 0 held
unfolding begun
begins_nowhere letter held e = record { right = rw e; counts = counts 0 held (omega arith) }

-- ---- bytes more
-- nothing is added to a text that was given up
pub given_up : (bytes held : List ℕ) (n : ℕ) → n ≡ 0 → Stands (add bytes (text n held)) 0 held
unfolding add
given_up bytes held n e = record { right = rw e; counts = counts 0 held (omega arith) }

-- there is no room for them
pub no_room_lem : (bytes held : List ℕ) (n : ℕ) → length held < n + length bytes → Stands (add bytes (text n held)) 0 held
unfolding add
no_room_lem bytes held n h = record { right = rw (lt-leb _ _ h) (neither (leb 1 n)); counts = counts 0 held (omega arith) }
  where
    neither : (b : Bool) → text 0 held ≡ pick (both b false) (text (n + length bytes) (over (take n held ++ bytes) held)) (text 0 held)
    neither true = refl
    neither false = refl

-- the text so far stands over the front of the buffer
front : {held : List ℕ} (n : ℕ) → n ≤ length held → Filled (take n held) held held
unfolding over
front {held} n h = record { given_room = λ _. rw (length-take-le n held h, take-append-drop) }

-- there is: they are written into the rest of the buffer
pub adds : {bytes new : List ℕ} {r : Result ℕ Refusal} (held : List ℕ) (n : ℕ) → 0 < n → n + length bytes ≤ length held → Wrote (accepted bytes) (rest n held) r new
    → Stands (add bytes (text n held)) (n + length bytes) (back n held new)
unfolding add
adds {bytes} {new} held n some h w =
    let long : length (take n held) ≡ n = length-take-le n held (omega arith) in
    let all : length (take n held ++ bytes) ≤ length held = simp length-append (omega arith) in
    let is = (filled_more n (front n (omega arith)) (filled refl w) long).given_room all in
    let ends : n + length bytes ≤ length (back n held new) = omega (arith, ap length is, over_length (take n held ++ bytes) held all) in
    record { right = rw (le-leb 1 n some, le-leb _ _ h, is); counts = counts _ _ ends }

-- ---- the elements of a list, from the first on
module _ (f : ℕ → Text → Text) where
  snoc : (xs : List ℕ) (i : ℕ) (t : Text) → i < length xs → f (get_or xs i 0) (each f (take i xs) t) ≡ each f (take (suc i) xs) t
  unfolding each
  snoc [] i t h = absurd (omega arith)
  snoc (x ∷ others) zero t h = refl
  snoc (x ∷ others) (suc i) t h = snoc others i (f x t) (omega arith)

  -- begun at a text that stands: none of them yet
  pub each_none : (xs : List ℕ) {t : Text} {n : ℕ} {held : List ℕ} → Stands t n held → Stands (each f (take 0 xs) (text n held)) n held
  unfolding each
  each_none xs h = record { right = refl; counts = h.counts }

  -- one more
  pub each_more : (xs : List ℕ) (t : Text) (i : ℕ) {n r : ℕ} {held new : List ℕ} → i < length xs → Stands (each f (take i xs) t) n held → Stands (f (get_or xs i 0) (text n held)) r new
      → Stands (each f (take (i + 1) xs) t) r new
  each_more xs t i h before after = rw (add-one, ← snoc xs i t h, ← before.right) after

  -- all of them
  pub each_all : (xs : List ℕ) {t : Text} {n : ℕ} {held : List ℕ} (i : ℕ) {r : ℕ} {new : List ℕ} → length xs ≤ i → Stands t n held → Stands (each f (take i xs) (text n held)) r new
      → Stands (each f xs t) r new
  each_all xs i h start all = rw (take_all i xs h, start.right) at all

-- ---- hexadecimal
-- the fewest digits, and no fewer than two, that hold a byte are two
pub two_digits : (b k : ℕ) → b < 256 → IsDigitCount 16 2 b k → k ≡ 2
two_digits b zero h f = absurd (omega arith)
two_digits b (suc zero) h f = absurd (omega arith)
two_digits b (suc (suc zero)) h f = refl
two_digits b (suc (suc (suc k))) h (_, _, least) =
    let l = simp (unary_clauses, pow-suc) at (least (omega arith)) in
    absurd (omega (arith, one-le-pow k 16 (lit< tt)))

-- no byte, or some
pub no_bytes : (bytes : List ℕ) (t : Text) {r : ℕ} {new : List ℕ} → length bytes ≡ 0 → Stands (add (ascii " -") t) r new → Stands (add_hex bytes t) r new
unfolding add_hex
no_bytes [] t e h = h
no_bytes (b ∷ others) t e h = absurd (omega arith)

pub some_bytes : (bytes : List ℕ) (t : Text) {r : ℕ} {new : List ℕ} → 0 < length bytes → Stands (each add_byte bytes (add (ascii " ") t)) r new → Stands (add_hex bytes t) r new
unfolding add_hex
some_bytes [] t l h = absurd (omega arith)
some_bytes (b ∷ others) t l h = h
