-- `form::put_letter` meets its contract: the letter is left out, or stored after the text.
use borrow.Author.Rules.{rules}
use Rattle.form.proofs.Grown.{letter_added, letter_left_out}
use Rattle.form.proofs.put_letter.Goals as goal

pub returns-then-out-at : goal.returns-then-out-at
returns-then-out-at c = letter_left_out (search rules)

pub returns : goal.returns
returns c = letter_added (search rules)
