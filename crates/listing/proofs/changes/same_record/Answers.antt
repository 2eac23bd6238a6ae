-- `same_record` meets its contract: four tests in one.
use mathlib.Core.Path.{◌∙◌}
use mathlib.Core.Bool.{beq}
use lib.Dec.{eqb}
use Rattle.paper.specs.Changes.{same_record}
use Rattle.listing.proofs.Comparing.{all_four}
use Rattle.listing.proofs.changes.same_record.Goals as goal

pub returns : goal.returns
unfolding same_record
returns c =
    let a = c.args.a in
    let b = c.args.b in
    c.eq.ensures ∙ all_four (eqb a.status.bits b.status.bits) (beq a.known b.known) (eqb a.severity.bits b.severity.bits) (eqb a.functional_unit b.functional_unit)
