-- `chart_text::scale::Top::put_scale` meets its contract. The invariant: the lines that are still to come, after the text so far, make the text that is promised.
use Rattle.std.proofs.Common.{◌≡◌, ◌+◌, ◌-◌, ◌*◌, ◌≤◌}
use Rattle.paper.specs.Chart.{divisions, scale_from, scale}
use Rattle.form.specs.Text.{text, grown}
use Rattle.chart_text.proofs.scale.Top.put_scale.Given as goal

abbrev pub invariant-loop-k : goal.invariant-loop-k
invariant-loop-k l =
    let top = l.self.percent in
    let parts = divisions top in
    (l.end ≤ l.at + 150 * l.k) × (grown (scale_from top parts l.k (parts + 1 - l.k)) (text l.end l.out) ≡ grown (scale top) (text l.at l.initial.out))
