-- No second answer, and no second final contents of the buffer, meets a contract of this crate.
-- Assumes nothing.
use Prim.Native.Nat.{ℕ}
use mathlib.Core.Path.{◌≡◌, sym, ap, ◌∙◌}
use mathlib.Core.List.{List}
use Rattle.wire.proofs.Halves.{size_of, size_back}
use Rattle.wire.proofs.Unique.{Determined}
use Rattle.wire.proofs.UniqueWriting.{WritesOnce}
use Rattle.oracle_text.specs.Text.{Text, Stands}
use Rattle.oracle_text.proofs.answer.flag.Kinds as flag-kinds
use Rattle.oracle_text.proofs.answer.flag.Reads as flag
use Rattle.oracle_text.proofs.answer.put_refused.Kinds as put-refused-kinds
use Rattle.oracle_text.proofs.answer.put_refused.Reads as Put-refused
use Rattle.oracle_text.proofs.answer.put_written.Kinds as put-written-kinds
use Rattle.oracle_text.proofs.answer.put_written.Reads as Put-written
use Rattle.oracle_text.proofs.input.size_at.Kinds as size-at-kinds
use Rattle.oracle_text.proofs.input.size_at.Reads as size-at
use Rattle.oracle_text.proofs.input.number_at.Kinds as number-at-kinds
use Rattle.oracle_text.proofs.input.number_at.Reads as number_at
use Rattle.oracle_text.proofs.input.two_at.Kinds as two-at-kinds
use Rattle.oracle_text.proofs.input.two_at.Reads as two_at
use Rattle.oracle_text.proofs.room.full_room.Kinds as full-room-kinds
use Rattle.oracle_text.proofs.room.full_room.Reads as full-room
use Rattle.oracle_text.proofs.text.begin.Kinds as begin-kinds
use Rattle.oracle_text.proofs.text.begin.Reads as begin
use Rattle.oracle_text.proofs.text.put.Kinds as put-kinds
use Rattle.oracle_text.proofs.text.put.Reads as put
use Rattle.oracle_text.proofs.text.put_numbers.Kinds as put-numbers-kinds
use Rattle.oracle_text.proofs.text.put_numbers.Reads as put-numbers
use Rattle.oracle_text.proofs.text.put_hex.Kinds as put-hex-kinds
use Rattle.oracle_text.proofs.text.put_hex.Reads as put-hex

-- ---- inputs and rooms
-- two halves that hold the same number are the same
pub size_at_determined : Determined 1 size-at-kinds.ps size-at-kinds.r size-at.Post
size_at_determined κs a x y r₁ r₂ p q = sym (size_back r₁ p.half) ∙ ap size_of (p.number ∙ sym q.number) ∙ size_back r₂ q.half

pub number_at_determined : Determined 1 number-at-kinds.ps number-at-kinds.r number_at.Post
number_at_determined κs a x y r₁ r₂ p q = p ∙ sym q

pub two_at_determined : Determined 1 two-at-kinds.ps two-at-kinds.r two_at.Post
two_at_determined κs a x y r₁ r₂ p q = p ∙ sym q

pub full_room_determined : Determined 0 full-room-kinds.ps full-room-kinds.r full-room.Post
full_room_determined κs a x y r₁ r₂ p q = p.1 ∙ sym q.1

-- ---- texts
-- one law for every function that adds to a text
stands_once : {t : Text} {r s : ℕ} {x y : List ℕ} → Stands t r x → Stands t s y → (r ≡ s) × (x ≡ y)
stands_once p q = let same = p.right ∙ sym q.right in (ap Text.long same, ap Text.held same)

pub begin_determined : WritesOnce 1 begin-kinds.ps begin-kinds.r (λ κs x. x.1.0) begin.Post
begin_determined κs a x y r₁ r₂ p q = stands_once p q

pub put_determined : WritesOnce 2 put-kinds.ps put-kinds.r (λ κs x. x.1.0) put.Post
put_determined κs a x y r₁ r₂ p q = stands_once p q

pub put_numbers_determined : WritesOnce 2 put-numbers-kinds.ps put-numbers-kinds.r (λ κs x. x.1.0) put-numbers.Post
put_numbers_determined κs a x y r₁ r₂ p q = stands_once p q

pub put_hex_determined : WritesOnce 2 put-hex-kinds.ps put-hex-kinds.r (λ κs x. x.1.0) put-hex.Post
put_hex_determined κs a x y r₁ r₂ p q = stands_once p q

pub flag_determined : Determined 0 flag-kinds.ps flag-kinds.r flag.Post
flag_determined κs a x y r₁ r₂ p q = p ∙ sym q

pub put_refused_determined : WritesOnce 1 put-refused-kinds.ps put-refused-kinds.r (λ κs x. x.1.1.0) Put-refused.Post
put_refused_determined κs a x y r₁ r₂ p q = stands_once p q

pub put_written_determined : WritesOnce 1 put-written-kinds.ps put-written-kinds.r (λ κs x. x.1.0) Put-written.Post
put_written_determined κs a x y r₁ r₂ p q = stands_once p q
