-- One more in a record's cell makes the table of the records so far the table with that record.
-- Assumes nothing.
use mathlib.Core.Path.{◌≡◌, refl, sym, ap, ◌∙◌}
use Prim.Native.Nat.{ℕ, ◌+◌, ◌*◌, ◌≤◌, ◌<◌}
use mathlib.Core.List.{List, [], ◌∷◌, ◌++◌, map}
use native.Mathlib.Nat.{add-zero}
use native.Mathlib.Numerals.{add-one}
use native.Mathlib.Omega.{arith}
use lib.ListN.{get_or, take, set, replicate}
use lib.Seq.{length-take-le, take_all, take-suc}
use borrow.Author.Tests.{eq-eqb, ne_eqb}
use Rattle.paper.specs.Tally.{Entry, entry_of, whole_records, records, count, of_month_and_number, table}
use Rattle.paper.proofs.Count.{count_append, count_le, from, value_at, values_same, set_value}
use Rattle.paper.proofs.Tally.{length_records, record_stands}
use Rattle.tally.proofs.Turns.{record_at}

-- ---- a table of M months from a on by R numbers from b on: with 12 and 10 in their places it would be written out wherever it stands
abbrev row_of : (b R : ℕ) → List Entry → ℕ → List ℕ
row_of b R es m = map (λ (n : ℕ). count (of_month_and_number m n) es) (from b R)

abbrev grid_of : (a M b R : ℕ) → List Entry → List (List ℕ)
grid_of a M b R es = map (row_of b R es) (from a M)

module _ (a M b R : ℕ) (es : List Entry) (m n : ℕ) (hm : m < M) (hn : n < R) where
  row_at : get_or (grid_of a M b R es) m [] ≡ row_of b R es (a + m)
  row_at = value_at (row_of b R es) a M m [] hm

  cell_at : get_or (get_or (grid_of a M b R es) m []) n 0 ≡ count (of_month_and_number (a + m) (b + n)) es
  cell_at = ap (λ (r : List ℕ). get_or r n 0) row_at ∙ value_at (λ (j : ℕ). count (of_month_and_number (a + m) j) es) b R n 0 hn

  module _ (e : Entry) (em : e.month ≡ a + m) (en : e.number ≡ b + n) where
    abbrev more : List Entry
    more = es ++ (e ∷ [])

    -- the record counts in its own cell
    own : count (of_month_and_number (a + m) (b + n)) more ≡ count (of_month_and_number (a + m) (b + n)) es + 1
    unfolding count
    own = count_append (of_month_and_number (a + m) (b + n)) es (e ∷ []) ∙ rw (eq-eqb _ _ em, eq-eqb _ _ en) refl

    -- and in no other
    other_number : (j : ℕ) → (j ≡ b + n → ⊥) → count (of_month_and_number (a + m) j) es ≡ count (of_month_and_number (a + m) j) more
    unfolding count
    other_number j ne =
        let off : e.number ≡ j → ⊥ = λ q. ne (sym q ∙ en) in
        sym (count_append (of_month_and_number (a + m) j) es (e ∷ []) ∙ rw (eq-eqb _ _ em, ne_eqb _ _ off) (add-zero _))

    other_month : (i : ℕ) → (i ≡ a + m → ⊥) → (j : ℕ) → count (of_month_and_number i j) es ≡ count (of_month_and_number i j) more
    unfolding count
    other_month i ne j =
        let off : e.month ≡ i → ⊥ = λ q. ne (sym q ∙ em) in
        sym (count_append (of_month_and_number i j) es (e ∷ []) ∙ rw (ne_eqb _ _ off) (add-zero _))

    row_more : set (row_of b R es (a + m)) n (count (of_month_and_number (a + m) (b + n)) es + 1) ≡ row_of b R more (a + m)
    row_more =
        rw (← own)
        (set_value (λ (j : ℕ). count (of_month_and_number (a + m) j) es) (λ (j : ℕ). count (of_month_and_number (a + m) j) more) b R n hn other_number)

    pub grid_more : set (grid_of a M b R es) m (set (get_or (grid_of a M b R es) m []) n (get_or (get_or (grid_of a M b R es) m []) n 0 + 1)) ≡ grid_of a M b R more
    grid_more =
        rw (cell_at, row_at, row_more)
        (set_value (row_of b R es) (row_of b R more) a M m hm (λ i ne. values_same _ _ b R (λ j _. other_month i ne j)))

-- ---- the same of the table
pub table_cell : (es : List Entry) (m n : ℕ) → m < 12 → n < 10 → get_or (get_or (table es) m []) n 0 ≡ count (of_month_and_number (1 + m) (0 + n)) es
unfolding table
table_cell es m n hm hn = cell_at 1 12 0 10 es m n hm hn

pub table_more : (es : List Entry) (e : Entry) (m n : ℕ) → m < 12 → n < 10 → e.month ≡ 1 + m → e.number ≡ 0 + n
    → set (table es) m (set (get_or (table es) m []) n (get_or (get_or (table es) m []) n 0 + 1)) ≡ table (es ++ (e ∷ []))
unfolding table
table_more es e m n hm hn em en = grid_more 1 12 0 10 es m n hm hn e em en

-- ---- in terms of a sheet: the first k records are in the table, and the record at place k comes next
pub table_none : (s : List ℕ) → replicate 12 (replicate 10 0) ≡ table (take 0 (records s))
unfolding table count
table_none s = refl

pub all_taken : (s : List ℕ) (k : ℕ) → whole_records s ≤ k → take k (records s) ≡ records s
all_taken s k h = take_all k (records s) (omega (arith, length_records s))

module _ (s : List ℕ) (k m n : ℕ) (within : k < whole_records s) (hm : m < 12) (hn : n < 10) where
  -- its cell counts no more than k records
  pub room_in_cell : get_or (get_or (table (take k (records s))) m []) n 0 ≤ k
  room_in_cell =
      rw (table_cell (take k (records s)) m n hm hn)
      (omega (arith, count_le (of_month_and_number (1 + m) (0 + n)) (take k (records s)), length-take-le k (records s) (omega (arith, length_records s))))

  -- one more there is the table with it, where the record has this month and this number
  pub one_record_more : (record_at s k).month ≡ 1 + m → (record_at s k).number ≡ 0 + n
      → set (table (take k (records s))) m (set (get_or (table (take k (records s))) m []) n (get_or (get_or (table (take k (records s))) m []) n 0 + 1)) ≡ table (take (k + 1) (records s))
  one_record_more em en =
      table_more (take k (records s)) (record_at s k) m n hm hn em en
      ∙ ap table (sym (take-suc (records s) k (entry_of []) (omega (arith, length_records s))) ∙ ap (λ (j : ℕ). take j (records s)) (sym (add-one k)))

  -- and where its bytes in the sheet are these
  pub one_more_lem : get_or s (8 * k) 0 ≡ 1 + m → get_or s (8 * k + 3) 0 ≡ 0 + n
      → set (table (take k (records s))) m (set (get_or (table (take k (records s))) m []) n (get_or (get_or (table (take k (records s))) m []) n 0 + 1)) ≡ table (take (k + 1) (records s))
  one_more_lem em en =
      let e = record_stands s k (entry_of []) within in
      one_record_more (e.month ∙ em) (e.number ∙ en)
