-- No second room, no second text, and no other final contents of the buffer meets a contract of this crate.
-- Assumes nothing.
use mathlib.Core.Path.{sym, ◌∙◌}
use Rattle.wire.proofs.Unique.{Determined}
use Rattle.wire.proofs.UniqueWriting.{WritesOnce}
use Rattle.desk_line.proofs.room.Kinds as room-kinds
use Rattle.desk_line.proofs.room.Reads as room
use Rattle.desk_line.proofs.desk_text.Kinds as desk-text-kinds
use Rattle.desk_line.proofs.desk_text.Reads as desk-text

pub room_determined : Determined 0 room-kinds.ps room-kinds.r room.Post
room_determined κs a x y r₁ r₂ p q = p.1 ∙ sym q.1

-- the input settles the number of bytes, and what the buffer, the second parameter, holds at the exit
pub desk_text_determined : WritesOnce 2 desk-text-kinds.ps desk-text-kinds.r (λ κs x. x.1.0) desk-text.Post
desk_text_determined κs a x y r₁ r₂ p q = (p.0 ∙ sym q.0, p.1.0 ∙ sym q.1.0)
