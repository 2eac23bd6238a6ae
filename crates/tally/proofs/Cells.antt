-- The rows of a table one after the other are its cells, ten to a row; and a table with a count was not refused.
-- Assumes nothing.
use mathlib.Core.Path.{◌≡◌, refl, sym, ap, ◌∙◌}
use Prim.Native.Nat.{ℕ, zero, suc, ◌+◌, ◌*◌, ◌-◌, ◌/◌, ◌%◌, ◌<◌}
use mathlib.Core.Bool.{Bool, true, false, true≢false}
use mathlib.Core.List.{List, [], ◌∷◌, ◌++◌}
use native.Mathlib.Numerals.{add-one}
use native.Mathlib.Omega.{arith}
use lib.ListN.{length, get_or, length-append, get_or-append}
use lib.Seq.{get_or-append-add}
use lib.Dec.{leb}
use borrow.Author.Tests.{leb-true, leb-false}
use denote.Param.Members.{Mut, Called}
use Rattle.std.specs.Array.{IsFromFnResultFrom, IsFromFnResult}
use Rattle.std.specs.List.{flat_map}
use Rattle.std.proofs.lemmas.List.{ext_get_or}
use Rattle.paper.specs.Answer.{Answer, accepted, refused}
use Rattle.paper.specs.Tally.{Entry, table, tallied, table_of, verdict}
use Rattle.paper.proofs.Tally.{accepted-has}
use Rattle.tally.specs.Sheet.{cells_of, any_count, RowsOfTen, Shaped, SheetRight}
use Rattle.tally.specs.declared.sheet.Sheet.{Sheet}

pub rows_joined : (t : List (List ℕ)) → flat_map (λ (r : List ℕ). r) t ≡ cells_of t
unfolding cells_of
rows_joined [] = refl
rows_joined (r ∷ t) = ap (λ (cells : List ℕ). r ++ cells) (rows_joined t)

-- ---- an array made of calls, one for each place
-- each call leaves what is called as it was, and gives what stands in xs at its place: the array is xs
module _ {F : Type 0} (g : Mut F (ℕ × Unit {0}) ℕ) (f : F) (xs : List ℕ) (gives : (i y : ℕ) (after : F) → Called g f (i, tt) y after → (y ≡ get_or xs i 0) × (after ≡ f)) where
  made_at : (ys : List ℕ) (now : F) (i n k place : ℕ) → now ≡ f → place ≡ i + k → k < n → IsFromFnResultFrom g now ys i n → get_or ys place 0 ≡ get_or xs place 0
  made_at ys now i zero k place e p h made = absurd (omega arith)
  made_at ys now i (suc n) zero place e p h (after, y, is, call, rest) =
      let here : place ≡ i = omega arith in
      rw here (is.1 0 ∙ (gives i y after (rw e at call)).0)
  made_at ys now i (suc n) (suc k) place e p h (after, y, is, call, rest) = made_at ys after (i + 1) n k place (gives i y after (rw e at call)).1 (omega arith) (omega arith) rest

  pub made_of_calls : (ys : List ℕ) (n : ℕ) → length xs ≡ n → IsFromFnResult g f ys n → ys ≡ xs
  made_of_calls ys n long made = ext_get_or 0 ys xs (made.long ∙ sym long) (λ i h. made_at ys f 0 n i i refl (omega arith) (omega (arith, made.long)) made.each)

-- ---- where a cell lies
pub length_cells : (t : List (List ℕ)) → RowsOfTen t → length (cells_of t) ≡ 10 * length t
unfolding cells_of
length_cells [] h = refl
length_cells (r ∷ t) h = omega (arith, length-append r (cells_of t), h.0, length_cells t h.1)

-- the cell at place i is that of row i / 10 and number i % 10
pub cell_of : (t : List (List ℕ)) → RowsOfTen t → (i : ℕ) → get_or (cells_of t) i 0 ≡ get_or (get_or t (i / 10) []) (i % 10) 0
unfolding cells_of
cell_of [] h i = refl
cell_of (r ∷ t) h i = by (leb 10 i) refl (cell_of t h.1 (i - 10))
  where
    by : (b : Bool) → leb 10 i ≡ b → get_or (cells_of t) (i - 10) 0 ≡ get_or (get_or t ((i - 10) / 10) []) ((i - 10) % 10) 0 → get_or (r ++ cells_of t) i 0 ≡ get_or (get_or (r ∷ t) (i / 10) []) (i % 10) 0
    by true p e =
        let far = leb-true 10 i p in
        let place : i ≡ length r + (i - 10) = omega (arith, h.0) in
        let row : i / 10 ≡ (i - 10) / 10 + 1 = omega arith in
        let number : i % 10 ≡ (i - 10) % 10 = omega arith in
        ap (λ (j : ℕ). get_or (r ++ cells_of t) j 0) place ∙ get_or-append-add r (cells_of t) (i - 10) 0 ∙ e ∙ sym (rw (row, number, add-one) refl)
    by false p e =
        let near = leb-false 10 i p in
        let row : i / 10 ≡ 0 = omega arith in
        let number : i % 10 ≡ i = omega arith in
        get_or-append r (cells_of t) 0 i (omega (arith, h.0)) ∙ sym (rw (row, number) refl)

-- every table of the paper's answer has the shape
of_table : (es : List Entry) → Shaped (table es)
unfolding table
of_table es = record { twelve = refl; ten = (refl, (refl, (refl, (refl, (refl, (refl, (refl, (refl, (refl, (refl, (refl, (refl, tt)))))))))))) }

pub shaped : (s : List ℕ) → Shaped (table_of (tallied s))
shaped s = by (tallied s) refl
  where
    by : (a : Answer (List (List ℕ))) → tallied s ≡ a → Shaped (table_of a)
    by (accepted t) p = rw (accepted-has s p).is (of_table _)
    by (refused e) p = record { twelve = refl; ten = (refl, (refl, (refl, (refl, (refl, (refl, (refl, (refl, (refl, (refl, (refl, (refl, tt)))))))))))) }

-- so in an answer: the cell at place 10 × m + n is that of row m and number n
pub cell_lies : (s : List ℕ) (r : Sheet) → SheetRight (tallied s) r → (m n : ℕ) → n < 10 → get_or r.cells (10 * m + n) 0 ≡ get_or (get_or (table_of (tallied s)) m []) n 0
cell_lies s r h m n small =
    let row : (10 * m + n) / 10 ≡ m = omega arith in
    let number : (10 * m + n) % 10 ≡ n = omega arith in
    ap (λ (cells : List ℕ). get_or cells (10 * m + n) 0) h.cells ∙ cell_of (table_of (tallied s)) (shaped s).ten (10 * m + n) ∙ rw (row, number) refl

-- ---- a count
-- whoever sees a count knows the verdict without asking for it
pub counted_something : (a : Answer (List (List ℕ))) → any_count (cells_of (table_of a)) ≡ true → accepted tt ≡ verdict a
unfolding any_count cells_of
counted_something (accepted t) h = refl
counted_something (refused e) h = absurd (true≢false (sym h))
