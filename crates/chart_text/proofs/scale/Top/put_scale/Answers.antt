-- `chart_text::scale::Top::put_scale` meets its contract: a line more, and all lines.
use Prim.Native.Nat.{◌+◌, ◌-◌}
use mathlib.Core.Path.{refl}
use native.Mathlib.Omega.{arith}
use Rattle.paper.specs.Chart.{divisions, scale_from}
use Rattle.form.specs.Text.{grown}
use Rattle.form.proofs.Grown.{on}
use Rattle.chart_text.proofs.Drawn.{scale-more, scale-none, scale_all}
use Rattle.chart_text.proofs.scale.Top.put_scale.Goals as goal

pub loop-k-init : goal.loop-k-init
loop-k-init c = (omega arith, rw (scale_all c.args.self.percent) refl)

pub loop-k-preserved : goal.loop-k-preserved
loop-k-preserved c =
    let put = c.put_line-end.ensures in
    let l = c.loop-k in
    let top = c.args.self.percent in
    let parts = divisions top in
    (omega (arith, put.bound), on _ (scale_from top parts (l.k + 1) (parts + 1 - (l.k + 1))) (scale-more top parts l.k (omega (arith, c.parts-k-end.ensures.value))) l.invariant.1 put)

pub returns : goal.returns
unfolding grown
returns c =
    let l = c.loop-k in
    let top = c.args.self.percent in
    record { right = rw (scale-none top (divisions top) l.k (omega (arith, c.parts-k-end.ensures.value))) at l.invariant.1; bound = omega (arith, c.parts-k-end.ensures.value, c.parts-k-end.ensures.few) }
