-- `chart_text::bars::Bar::put_parts` meets its contract. The invariant: the parts that are still to come, after the text so far, make the text that is promised.
use Rattle.std.proofs.Common.{◌≡◌, ℕ, ◌+◌, ◌*◌, ◌≤◌, List, drop}
use Rattle.paper.specs.WrongLoads.{all}
use Rattle.paper.specs.Chart.{parts_from}
use Rattle.form.specs.Text.{text, grown}
use Rattle.chart_text.proofs.bars.Bar.put_parts.Given as goal

abbrev pub invariant-loop-number : goal.invariant-loop-number
invariant-loop-number l =
    let bar = l.self in
    let parts : ℕ → ℕ → List ℕ = λ (number below : ℕ). parts_from bar.month bar.top.percent (all bar.row) number below (drop number bar.row) in
    record {
      few : l.below ≤ 4294967295 * l.number;
      bound : l.end + 160 ≤ l.at + 160 * l.number;
      goes_on : grown (parts l.number l.below) (text l.end l.out) ≡ grown (parts 1 0) (text l.at l.initial.out);
    }
