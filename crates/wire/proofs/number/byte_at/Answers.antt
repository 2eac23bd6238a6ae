-- `wire::number::byte_at` meets its contract: the message ends before the byte, or the byte is there.
use native.Mathlib.Omega.{arith}
use Rattle.paper.proofs.Places.{no_byte, one_byte}
use borrow.Author.Rules.{rules}
use Rattle.wire.proofs.number.byte_at.Goals as goal

pub returns-then-s-at : goal.returns-then-s-at
returns-then-s-at c = let a = c.args in record { paper = no_byte a.s.now a.at c.if-s-at.true; place = tt }

pub returns : goal.returns
returns c = let a = c.args in record { paper = one_byte a.s.now a.at (omega arith); place = search rules }
