-- `wire::group::head` meets its contract: the number of one byte, or of two.
use mathlib.Core.Path.{ap, ◌∙◌}
use native.Mathlib.Omega.{arith}
use Rattle.paper.proofs.Places.{of_one}
use Rattle.wire.specs.Prefix.{prefix_len}
use Rattle.wire.proofs.group.head.Goals as goal

pub bounds-s-at : goal.bounds-s-at
bounds-s-at c = omega (arith, ap prefix_len c.in-One.is)

pub pair-requires : goal.pair-requires
pair-requires c = omega (arith, ap prefix_len c.in-Two.is)

pub returns-in-One : goal.returns-in-One
returns-in-One c =
    let a = c.args in
    (rw c.in-One.is (c.from.ensures ∙ of_one a.s.now a.at (omega (arith, ap prefix_len c.in-One.is))), omega arith)

pub returns-in-Two : goal.returns-in-Two
returns-in-Two c = rw c.in-Two.is (c.from-in-Two.ensures ∙ c.pair.ensures, omega arith)
