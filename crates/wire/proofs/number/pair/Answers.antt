-- `wire::number::pair` meets its contract: the high byte 256 times, and the low byte.
use mathlib.Core.Path.{◌∙◌}
use native.Mathlib.Omega.{arith}
use Rattle.paper.proofs.Places.{of_two}
use Rattle.wire.proofs.number.pair.Goals as goal

pub returns : goal.returns
returns c = let a = c.args in c.from_be_bytes.ensures ∙ of_two a.s.now a.at (omega arith)
