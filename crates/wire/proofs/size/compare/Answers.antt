-- `wire::size::compare` meets its contract: the order of the halves is that of the numbers.
use borrow.Author.Rules.{rules}
use mathlib.Core.Path.{◌∙◌, ap}
use Rattle.wire.specs.Size.{order_of}
use Rattle.wire.proofs.Sizes.{ordered, by_halves}
use Rattle.wire.proofs.size.compare.Goals as goal

pub returns : goal.returns
returns c =
    let a = c.args.a in
    let b = c.args.b in
    ap order_of c.cmp.ensures ∙ ordered _ _ _ (by_halves a.high a.low b.high b.low (search rules) (search rules))
