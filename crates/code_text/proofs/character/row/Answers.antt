-- `row` meets its contract: the rows of a line, one after the other.
use native.Mathlib.Omega.{arith}
use Rattle.code_text.proofs.LineRows.{hex_row, no_row}
use Rattle.code_text.proofs.character.row.Goals as goal

pub returns-in-2-to-10 : goal.returns-in-2-to-10
returns-in-2-to-10 c = hex_row _ (omega arith) (omega arith) (λ e. omega arith) (λ e. omega arith)

pub returns-in_default : goal.returns-in_default
returns-in_default c = no_row _ (omega arith)
