-- No second number, no second room, no second text, and no other final contents of the buffer meets a contract of this crate.
-- Assumes nothing.
use mathlib.Core.Path.{sym, ◌∙◌}
use Rattle.wire.proofs.Unique.{Determined}
use Rattle.wire.proofs.UniqueWriting.{WritesOnce}
use Rattle.loads_text.proofs.room.Kinds as room-kinds
use Rattle.loads_text.proofs.room.Reads as room
use Rattle.loads_text.proofs.row.sum_from.Kinds as sum-from-kinds
use Rattle.loads_text.proofs.row.sum_from.Reads as sum-from
use Rattle.loads_text.proofs.row.all_of.Kinds as all-of-kinds
use Rattle.loads_text.proofs.row.all_of.Reads as all_of
use Rattle.loads_text.proofs.row.refused_of.Kinds as refused-of-kinds
use Rattle.loads_text.proofs.row.refused_of.Reads as refused-of
use Rattle.loads_text.proofs.row.percent_of.Kinds as percent-of-kinds
use Rattle.loads_text.proofs.row.percent_of.Reads as percent-of
use Rattle.loads_text.proofs.loads_text.Kinds as loads-text-kinds
use Rattle.loads_text.proofs.loads_text.Reads as loads-text

pub sum_from_determined : Determined 0 sum-from-kinds.ps sum-from-kinds.r sum-from.Post
sum_from_determined κs a x y r₁ r₂ p q = p.0 ∙ sym q.0

pub all_of_determined : Determined 0 all-of-kinds.ps all-of-kinds.r all_of.Post
all_of_determined κs a x y r₁ r₂ p q = p.0 ∙ sym q.0

pub refused_of_determined : Determined 0 refused-of-kinds.ps refused-of-kinds.r refused-of.Post
refused_of_determined κs a x y r₁ r₂ p q = p.0 ∙ sym q.0

pub percent_of_determined : Determined 0 percent-of-kinds.ps percent-of-kinds.r percent-of.Post
percent_of_determined κs a x y r₁ r₂ p q = p ∙ sym q

pub room_determined : Determined 0 room-kinds.ps room-kinds.r room.Post
room_determined κs a x y r₁ r₂ p q = p.1 ∙ sym q.1

-- the input settles the number of bytes, and what the buffer, the second parameter, holds at the exit
pub loads_text_determined : WritesOnce 2 loads-text-kinds.ps loads-text-kinds.r (λ κs x. x.1.0) loads-text.Post
loads_text_determined κs a x y r₁ r₂ p q = (p.0 ∙ sym q.0, p.1.0 ∙ sym q.1.0)
