-- `in_range` meets its contract: the two tests, taken together.
use Rattle.std.proofs.Common.{◌≡◌, Bool, true, false, ◌&&◌, leb, refl}
use Rattle.paper.specs.Choice.{both}
use Rattle.paper.specs.Utf8.{in_range}
use Rattle.utf8.proofs.characters.in_range.Goals as goal

and_both : (p q : Bool) → (p && q) ≡ both p q
and_both true q = refl
and_both false q = refl

pub returns : goal.returns
unfolding in_range
returns c = let a = c.args in and_both (leb a.range.0 a.b) (leb a.b a.range.1)
