-- `wire::refusal::Refusal::second` meets its contract: each arm's variant says its row; where it carries two values, the row is rewritten by what the arm knows of the variant.
use Rattle.wire.proofs.refusal.Refusal.second.Goals as goal

pub returns-in-TooShort : goal.returns-in-TooShort
returns-in-TooShort c = rw c.in-TooShort.is

pub returns-in-NoRoom : goal.returns-in-NoRoom
returns-in-NoRoom c = rw c.in-NoRoom.is
