-- `wire::number::eight_at` meets its contract: fewer than eight bytes are there, or their number is.
use native.Mathlib.Omega.{arith}
use Rattle.paper.proofs.Places.{number_short, number_there}
use borrow.Author.Rules.{rules}
use Rattle.wire.proofs.number.eight_at.Goals as goal

pub returns-then-available-lt8 : goal.returns-then-available-lt8
returns-then-available-lt8 c = let a = c.args in record { paper = number_short a.s.now a.at 8 _ c.available_at-available.ensures (search rules); place = tt }

pub returns : goal.returns
returns c =
    let a = c.args in
    record { paper = number_there a.s.now a.at 8 _ c.few.ensures (omega arith); place = search rules }
