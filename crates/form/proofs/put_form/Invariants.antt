-- `form::put_form` meets its contract. The invariant: the rest of the form, filled in with the numbers that are left, after the text so far, makes the
-- text that is promised; each letter passed took at most one byte, each number passed at most 20.
use Rattle.std.proofs.Common.{◌≡◌, ◌+◌, ◌*◌, ◌≤◌, drop, length}
use Rattle.paper.specs.Form.{filled_in}
use Rattle.form.specs.Text.{text, grown}
use Rattle.form.proofs.put_form.Given as goal

abbrev pub invariant-loop-letter : goal.invariant-loop-letter
invariant-loop-letter l = record {
  bound : l.end + 20 * length l.left ≤ l.at + (l.letter-index + 20 * length l.numbers);
  goes_on : grown (filled_in (drop l.letter-index l.form) l.left) (text l.end l.out) ≡ grown (filled_in l.form l.numbers) (text l.at l.initial.out);
}
