-- `tally::in_ranges` meets its contract: its four tests are the paper's, of which those against 0 always pass.
use mathlib.Core.Path.{◌≡◌, refl}
use mathlib.Core.Bool.{Bool, true, false, ◌&&◌}
use lib.Dec.{leb, leb-zero}
use Rattle.paper.specs.Choice.{both}
use Rattle.paper.specs.Utf8.{in_range}
use Rattle.paper.specs.Tally.{in_ranges}
use Rattle.tally.proofs.in_ranges.Goals as goal

four : (a b d n : Bool) → (a && b) && d && n ≡ both (both a b) (both d n)
four true true true n = refl
four true true false n = refl
four true false d n = refl
four false b d n = refl

pub returns-clause-value : goal.returns-clause-value
unfolding in_ranges in_range
returns-clause-value c = let a = c.args in rw (leb-zero, leb-zero) (four (leb 1 a.month) (leb a.month 12) (leb a.direction 1) (leb a.number 9))
