-- `tally::sheet::cells_of` meets its contract: the array holds the rows, one after the other.
use mathlib.Core.Path.{◌∙◌}
use borrow.Author.Rules.{rules}
use native.Mathlib.Omega.{arith}
use Rattle.tally.proofs.Cells.{rows_joined, made_of_calls}
use Rattle.tally.proofs.sheet.cells_of.Goals as goal

pub returns : goal.returns
returns c = made_of_calls _ _ _ (λ i y t k. search rules) _ 120 (omega arith) c.from_fn.ensures.items ∙ c.as_flattened-cells.ensures.value ∙ rows_joined c.args.table
