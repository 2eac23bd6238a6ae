-- `fits_after` meets its contract: what each of its tests says, in proofs/Fit.antt.
use Rattle.utf8.proofs.Fit.{fits_iff}
use Rattle.utf8.proofs.blocks.fits_after.Goals as goal

pub returns : goal.returns
returns c = let x = c.args in fits_iff x.a x.b x.c x.d
