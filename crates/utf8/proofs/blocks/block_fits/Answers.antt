-- `block_fits` meets its contract: ASCII fits after ASCII.
use mathlib.Core.Path.{refl}
use Rattle.utf8.proofs.Fit.{ascii-fit}
use Rattle.utf8.proofs.blocks.block_fits.Goals as goal

pub returns-then-all_ascii : goal.returns-then-all_ascii
returns-then-all_ascii c = ((λ e. ascii-fit c.args.s.now _ (c.all_ascii.ensures.0 c.if-all_ascii.true)), λ _. refl)
