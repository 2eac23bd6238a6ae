-- The sum of a row's last counts, one count less; the line of a month by cases; and the lines of a year, one month less.
-- Assumes nothing.
use Prim.Native.Nat.{ℕ, ◌+◌, ◌-◌, ◌≤◌, ◌<◌}
use mathlib.Core.Path.{◌≡◌, sym, ap, ◌∙◌}
use mathlib.Core.Logic.{◌⊎◌}
use native.Mathlib.Omega.{arith}
use mathlib.Core.List.{List, [], ◌∷◌, ◌++◌}
use native.Mathlib.Numerals.{add-one}
use borrow.Author.Tests.{ne_eqb}
use lib.ListN.{length, drop, get_or, length-drop, drop_of_length-le}
use lib.Seq.{drop-cons, take_all}
use Rattle.std.specs.List.{slice_range}
use Rattle.paper.specs.ReadingProgram.{ascii}
use Rattle.paper.specs.Form.{filled_in}
use Rattle.paper.specs.Tally.{sum}
use Rattle.paper.specs.WrongLoads.{all, refused_of, percent, month_line, lines_from}

pub sum_more : (row : List ℕ) (i : ℕ) → i < length row → sum (drop i row) ≡ get_or row i 0 + sum (drop (i + 1) row)
unfolding sum
sum_more row i h = rw (add-one, drop-cons row i 0 h)

pub sum-none : (row : List ℕ) (i : ℕ) → length row ≤ i → sum (drop i row) ≡ 0
unfolding sum
sum-none row i h = rw (drop_of_length-le row h)

-- the part of a row that begins at a number, and where there is none
pub sum_rest : (row : List ℕ) (first : ℕ) {counts : List ℕ} → counts ≡ slice_range row first (length row) → sum counts ≡ sum (drop first row)
sum_rest row first e = ap sum (e ∙ take_all (length row - first) (drop first row) (omega (arith, length-drop first row)))

pub sum_past : (row : List ℕ) (first : ℕ) → (length row < first) ⊎ (length row < length row) → 0 ≡ sum (drop first row)
sum_past row first h = sym (sum-none row first (omega (arith, h)))

-- what `put_month` finds: how many records there are
module _ (month : ℕ) (row : List ℕ) {a : ℕ} (is : a ≡ all row) where
  pub month_left_out : a ≡ 0 → [] ≡ month_line month row
  unfolding month_line
  month_left_out h = rw (← is, h)

  -- how many were refused, and of a hundred
  pub month-said : {r p : ℕ} → r ≡ refused_of row → p ≡ percent row → (a ≡ 0 → ⊥) → filled_in (ascii "_ _ _ _\n") (month ∷ a ∷ r ∷ p ∷ []) ≡ month_line month row
  unfolding month_line
  month-said e f h = let some = rw is at h in rw (is, e, f, ne_eqb _ _ some)

pub lines_more : (table : List (List ℕ)) (m : ℕ) → m < length table → lines_from (m + 1) (drop m table) ≡ month_line (m + 1) (get_or table m []) ++ lines_from (m + 1 + 1) (drop (m + 1) table)
unfolding lines_from
lines_more table m h = rw (drop-cons table m [] h, add-one (m + 1), add-one m)

pub lines_none : (table : List (List ℕ)) (k m : ℕ) → length table ≤ m → lines_from k (drop m table) ≡ []
unfolding lines_from
lines_none table k m h = rw (drop_of_length-le table h)
