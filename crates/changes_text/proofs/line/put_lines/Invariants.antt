-- `changes_text::line::put_lines` meets its contract. The invariant: the lines of the entries that are still to come, after the text so far, make the text that is promised; each line passed took at
-- most 23 bytes.
use Prim.Native.Nat.{◌-◌, ◌*◌, ◌≤◌}
use mathlib.Core.Path.{◌≡◌}
use lib.ListN.{length, drop}
use Rattle.form.specs.Text.{text, grown}
use Rattle.changes_text.specs.Entries.{lines_in}
use Rattle.changes_text.proofs.line.put_lines.Given as goal

abbrev pub invariant-loop-k : goal.invariant-loop-k
invariant-loop-k l = (l.end ≤ 23 * l.k) × (length l.out ≡ length l.initial.out) × (grown (lines_in (l.n - l.k) (drop (6 * l.k) l.entries)) (text l.end l.out) ≡ grown (lines_in l.n l.entries) (text 0 l.initial.out))
