-- `Searchable::owns` meets its contract: both lists are compared with those of its index.
use Rattle.std.proofs.Common.{arith}
use Rattle.std.proofs.lemmas.Grind.{common_steps}
use Rattle.listing.proofs.Turns.{same_lists, own_decided}
use Rattle.listing.proofs.searchable.Searchable.owns.Goals as goal

pub returns-then-eq : goal.returns-then-eq
returns-then-eq c = grind (arith, common_steps, same_lists, own_decided)

pub returns-else-eq : goal.returns-else-eq
returns-else-eq c = grind (arith, common_steps, same_lists, own_decided)
