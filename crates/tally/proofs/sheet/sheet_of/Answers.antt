-- `tally::sheet::sheet_of` meets its contract: a refused sheet has the cells of a table of zeros.
use mathlib.Core.Path.{ap}
use mathlib.Core.List.{List}
use Prim.Native.Nat.{ℕ}
use Rattle.paper.specs.Answer.{Answer}
use Rattle.paper.specs.Tally.{table_of, verdict}
use Rattle.tally.specs.Sheet.{cells_of}
use Rattle.tally.proofs.sheet.sheet_of.Goals as goal

pub returns-in-Err : goal.returns-in-Err
unfolding cells_of
returns-in-Err c = record { verdict = ap verdict c.in-Err.ensures; cells = ap (λ (a : Answer (List (List ℕ))). cells_of (table_of a)) c.in-Err.ensures }
