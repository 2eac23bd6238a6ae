-- `chart_text::legend::put_legend` meets its contract: an entry more or none, and all entries.
use Prim.Native.Nat.{◌+◌, ◌-◌}
use mathlib.Core.Path.{refl, sym, ◌∙◌}
use native.Mathlib.Omega.{arith}
use Rattle.paper.specs.Chart.{legend_from}
use Rattle.form.specs.Text.{grown}
use Rattle.form.proofs.Grown.{on}
use Rattle.chart_text.proofs.Drawn.{legend_here, legend_not, legend_none}
use Rattle.chart_text.proofs.legend.put_legend.Goals as goal
use Rattle.chart_text.proofs.legend.put_legend.Goals.{then-occurs_in, else-occurs_in}

pub loop-number-init : goal.loop-number-init
loop-number-init c = record { few = omega arith; bound = omega arith; goes_on = refl }

pub put_entry-end-requires : goal.put_entry-end-requires
put_entry-end-requires c = omega arith

pub loop-number-preserved : goal.loop-number-preserved
loop-number-preserved c =
    let said = c.occurs_in.ensures in
    let l = c.loop-number in
    let t = c.args.table in
    elim c.if-occurs_in.branch [
      | then-occurs_in w ↦ rw (w.out-is, w.end-is, w.place-is) (record {
        few = omega arith;
        bound = omega (arith, w.put_entry-end.ensures.bound);
        goes_on = on _ (legend_from t (l.place + 1) (l.number + 1) (10 - (l.number + 1))) (legend_here t l.place l.number (omega arith) (sym said ∙ w.if-occurs_in.true)) l.invariant.goes_on w.put_entry-end.ensures;
      })
      | else-occurs_in w ↦ rw (w.out-is, w.end-is, w.place-is) (record {
        few = omega arith;
        bound = omega arith;
        goes_on = rw (legend_not t l.place l.number (omega arith) (sym said ∙ w.if-occurs_in.false)) at l.invariant.goes_on;
      })
    ]

pub returns : goal.returns
unfolding grown
returns c =
    let l = c.loop-number in
    record { right = rw (legend_none c.args.table l.place l.number (omega arith)) at l.invariant.goes_on; bound = omega arith }
