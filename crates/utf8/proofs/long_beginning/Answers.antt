-- `long_beginning` meets its contract: the longest beginning may be looked for from any valid one on.
use Rattle.utf8.proofs.Longest.{longest_on}
use Rattle.utf8.proofs.long_beginning.Goals as goal

pub returns : goal.returns
returns g c = longest_on c.by_blocks-at.ensures c.by_characters.ensures
