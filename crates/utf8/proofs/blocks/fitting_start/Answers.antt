-- `fitting_start` meets its contract: ASCII fits, and three bytes fit as the tests say.
use Rattle.std.proofs.Common.{arith, rules}
use Rattle.utf8.proofs.Fit.{ascii_fitting}
use Rattle.utf8.proofs.blocks.fitting_start.Goals as goal

pub returns-then-ascii-ge-BLOCK : goal.returns-then-ascii-ge-BLOCK
returns-then-ascii-ge-BLOCK c = ascii_fitting (omega arith) c.requires.ascii

pub returns-then-start_fits : goal.returns-then-start_fits
returns-then-start_fits c = record {
  three = search rules;
  within = search rules;
  start = c.start_fits.ensures.0 c.if-start_fits.true;
  fit = λ i l t. absurd (omega arith);
}
