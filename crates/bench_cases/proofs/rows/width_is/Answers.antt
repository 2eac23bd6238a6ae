-- The smallest width is compared.
use Rattle.std.proofs.Common.{rules}
use Rattle.paper.proofs.Sizes.{smallest_is}
use Rattle.bench_cases.proofs.rows.width_is.Goals as goal

pub returns : goal.returns
returns c = let is = smallest_is c.width_of_both.ensures in search rules
