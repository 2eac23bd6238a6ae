-- What an answer with both the table and the verdict says, in the paper's terms.
use Rattle.std.specs.Prelude.{◌≡◌, ℕ, Bool, true, false, eqb, List, [], ◌∷◌, ◌++◌, length}
use Rattle.paper.specs.Answer.{Answer}
use Rattle.paper.specs.Choice.{pick}
use Rattle.paper.specs.Tally as paper
use Rattle.tally.specs.Judged.{judged}
use Rattle.tally.specs.declared.sheet.Sheet.{Sheet}

-- the cells of a table, one row after the other
unfoldable pub cells_of : List (List ℕ) → List ℕ
cells_of [] = []
cells_of (r ∷ rows) = r ++ cells_of rows

-- some of these is not 0
unfoldable pub any_count : List ℕ → Bool
any_count [] = false
any_count (x ∷ xs) = pick (eqb x 0) (any_count xs) true

-- each row has ten cells
abbrev pub RowsOfTen : List (List ℕ) → Type 0
RowsOfTen [] = Unit {0}
RowsOfTen (r ∷ rows) = (length r ≡ 10) × RowsOfTen rows

-- twelve rows of ten, as every table of the code and of the paper
pub record Shaped (t : List (List ℕ)) : Type 0 where
  pub twelve : length t ≡ 12
  pub ten : RowsOfTen t

-- the verdict and the cells are the paper's
pub record SheetRight (a : Answer (List (List ℕ))) (r : Sheet) : Type 0 where
  pub verdict : judged r.verdict ≡ paper.verdict a
  pub cells : r.cells ≡ cells_of (paper.table_of a)
