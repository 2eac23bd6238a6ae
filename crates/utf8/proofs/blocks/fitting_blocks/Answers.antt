-- `fitting_blocks` meets its contract: what is passed fits, and each block adds to it.
use Rattle.std.proofs.Common.{◌-◌}
use Rattle.utf8.proofs.Valid.{rest_of}
use Rattle.utf8.proofs.Fit.{more-fits}
use Rattle.utf8.proofs.blocks.fitting_blocks.Goals as goal

pub loop-block-preserved : goal.loop-block-preserved
loop-block-preserved c =
    let h = rw (rest_of c.args.s.now (c.loop-block.at - 3)) at c.in-Some.ensures.lookup in
    more-fits 64 _ c.loop-block.invariant h.0.1 h.0.2 (c.block_fits.ensures.0 c.if-not-block_fits.false)
