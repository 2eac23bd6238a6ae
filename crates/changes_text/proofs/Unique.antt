-- No second room, no second text, and no other final contents of the buffer meets a contract of this crate.
-- Assumes nothing.
use mathlib.Core.Path.{sym, ◌∙◌}
use Rattle.wire.proofs.Unique.{Determined}
use Rattle.wire.proofs.UniqueWriting.{WritesOnce}
use Rattle.changes_text.proofs.room.Kinds as room-kinds
use Rattle.changes_text.proofs.room.Reads as room
use Rattle.changes_text.proofs.text_room.Kinds as text-room-kinds
use Rattle.changes_text.proofs.text_room.Reads as text-room
use Rattle.changes_text.proofs.changes_text.Kinds as changes-text-kinds
use Rattle.changes_text.proofs.changes_text.Reads as changes-text
use Rattle.changes_text.proofs.usage_text.Kinds as usage-text-kinds
use Rattle.changes_text.proofs.usage_text.Reads as usage-text

pub room_determined : Determined 0 room-kinds.ps room-kinds.r room.Post
room_determined κs a x y r₁ r₂ p q = p.1 ∙ sym q.1

pub text_room_determined : Determined 0 text-room-kinds.ps text-room-kinds.r text-room.Post
text_room_determined κs a x y r₁ r₂ p q = p.1 ∙ sym q.1

-- the two files settle the number of bytes, and what the buffer, the third parameter, holds at the exit
pub changes_text_determined : WritesOnce 3 changes-text-kinds.ps changes-text-kinds.r (λ κs x. x.1.1.0) changes-text.Post
changes_text_determined κs a x y r₁ r₂ p q = (p.0 ∙ sym q.0, p.1.0 ∙ sym q.1.0)

pub usage_text_determined : WritesOnce 1 usage-text-kinds.ps usage-text-kinds.r (λ κs x. x.0) usage-text.Post
usage_text_determined κs a x y r₁ r₂ p q = (p.0 ∙ sym q.0, p.1.0 ∙ sym q.1.0)
