-- `all_fit` meets its contract: each byte passed fits exactly where none was found that does not.
use Rattle.std.proofs.Common.{arith}
use Rattle.utf8.proofs.Fit.{fit_turn}
use Rattle.utf8.proofs.blocks.all_fit.Goals as goal

pub loop-i-preserved : goal.loop-i-preserved
loop-i-preserved c =
    let o = c.loop-i in
    (fit_turn c.args.s.now o.i o.fit c.fits_after-fit.result (omega arith) o.invariant.0 c.fits_after-fit.ensures, omega arith)

pub returns : goal.returns
returns c =
    let o = c.loop-i in
    ((λ e i l t. o.invariant.0.0 e i (omega arith) t), λ h. o.invariant.0.1 (λ i l t. h i (omega arith) t))
