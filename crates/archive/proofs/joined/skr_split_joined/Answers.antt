-- `archive::joined::skr_split_joined` meets its contract: the record of what was answered, and the list as it was left.
use Rattle.archive.proofs.Splits.{split_flat}
use Rattle.archive.proofs.joined.skr_split_joined.Goals as goal

pub returns : goal.returns
returns c = split_flat c.split_joined.result c.split_joined.ensures c.flat.ensures
