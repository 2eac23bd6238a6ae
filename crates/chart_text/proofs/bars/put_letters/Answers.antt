-- `chart_text::bars::put_letters` meets its contract: the part of the names that is lent has three letters.
use Prim.Native.Nat.{◌+◌, ◌-◌}
use mathlib.Core.Path.{◌≡◌}
use mathlib.Core.Path.{refl}
use native.Mathlib.Omega.{arith}
use lib.ListN.{length-take, length-drop}
use Rattle.form.proofs.Grown.{put_as}
use Rattle.chart_text.proofs.bars.put_letters.Goals as goal

pub returns : goal.returns
returns c =
    let a = c.args in
    let three : a.first + 3 - a.first ≡ 3 = omega arith in
    put_as (rw three at c.put.ensures) refl (simp (length-take, length-drop) (omega arith))
