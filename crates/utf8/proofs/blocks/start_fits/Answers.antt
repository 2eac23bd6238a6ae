-- `start_fits` meets its contract: the three tests, taken together.
use mathlib.Core.Bool.{◌&&◌, and-eq-true_iff}
use Rattle.utf8.proofs.blocks.start_fits.Goals as goal

pub returns : goal.returns
returns c =
    let x = c.fits_after in
    let y = c.fits_after-2 in
    let z = c.fits_after-3 in
    let all = and-eq-true_iff (x.result && y.result) z.result in
    let two = and-eq-true_iff x.result y.result in (
      (λ e. record { first = x.ensures.0 (two.0 (all.0 e).0).0; second = y.ensures.0 (two.0 (all.0 e).0).1; third = z.ensures.0 (all.0 e).1 }),
      (λ f. all.1 (two.1 (x.ensures.1 f.first, y.ensures.1 f.second), z.ensures.1 f.third)),
    )
