-- `wire::size::width_of_both` meets its contract: the larger size's width is the width of both.
use borrow.Author.Rules.{rules}
use mathlib.Core.Path.{subst, ap, ◌∙◌}
use mathlib.Core.List.{[], ◌∷◌}
use Prim.Native.Nat.{ℕ}
use Rattle.paper.specs.Sizes.{Smallest}
use Rattle.wire.specs.Size.{value}
use Rattle.wire.proofs.Sizes.{by_halves, larger, of_larger}
use Rattle.wire.proofs.size.width_of_both.Goals as goal

pub returns : goal.returns
returns c =
    let a = c.args.a in
    let b = c.args.b in
    let is = ap value c.max.ensures ∙ larger _ a b (by_halves b.high b.low a.high a.low (search rules) (search rules)) in
    of_larger _ _ (subst (λ (n : ℕ). Smallest (n ∷ []) c.width_of.result) is c.width_of.ensures)
