-- `loads_text::put_lines` meets its contract. The invariant: the lines of the months that are still to come, after the text so far, make the text
-- that is promised.
use Rattle.std.proofs.Common.{◌≡◌, ◌+◌, ◌*◌, ◌≤◌, drop}
use Rattle.form.specs.Text.{text, grown}
use Rattle.paper.specs.WrongLoads.{lines_from}
use Rattle.loads_text.proofs.put_lines.Given as goal

abbrev pub invariant-loop-m : goal.invariant-loop-m
invariant-loop-m l = (l.end ≤ 88 * l.m) × (grown (lines_from (l.m + 1) (drop l.m l.fn.table)) (text l.end l.out) ≡ grown (lines_from 1 l.fn.table) (text 0 l.initial.out))
