-- No second room, no second text, and no other final contents of the buffer meets a contract of this crate.
-- Assumes nothing.
use mathlib.Core.Path.{sym, ◌∙◌}
use Rattle.wire.proofs.Unique.{Determined}
use Rattle.wire.proofs.UniqueWriting.{WritesOnce}
use Rattle.replay_line.proofs.room.Kinds as room-kinds
use Rattle.replay_line.proofs.room.Reads as room
use Rattle.replay_line.proofs.replay_text.Kinds as replay-text-kinds
use Rattle.replay_line.proofs.replay_text.Reads as replay-text

pub room_determined : Determined 0 room-kinds.ps room-kinds.r room.Post
room_determined κs a x y r₁ r₂ p q = p.1 ∙ sym q.1

-- the log settles the number of bytes, and what the buffer, the second parameter, holds at the exit
pub replay_text_determined : WritesOnce 2 replay-text-kinds.ps replay-text-kinds.r (λ κs x. x.1.0) replay-text.Post
replay_text_determined κs a x y r₁ r₂ p q = (p.0 ∙ sym q.0, p.1.0 ∙ sym q.1.0)
