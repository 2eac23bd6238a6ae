-- The table of the words: what is found in it, that it has the numbers 0 to 18, and that no words stand in it twice.
-- Assumes nothing.
use Prim.Native.Nat.{ℕ, suc, ◌+◌, ◌*◌, ◌≤◌, ◌<◌}
use mathlib.Core.Path.{◌≡◌, refl, sym, ap, ◌∙◌}
use mathlib.Core.Bool.{Bool, true, false}
use mathlib.Core.List.{List, [], ◌∷◌, map}
use mathlib.Core.Logic.{◌↔◌}
use native.Mathlib.Omega.{arith}
use borrow.Author.Tests.{leb-true, eqb-true, eqb-false}
use lib.Dec.{leb, eqb}
use lib.ListN.{length, get_or}
use Rattle.paper.specs.Choice.{pick, both}
use Rattle.paper.specs.Answer.{Answer, accepted, out_of_range}
use Rattle.paper.specs.Kind.{one_of}
use Rattle.paper.specs.Joined.{Each}
use Rattle.paper.proofs.Choice.{both_true}
use Rattle.refusal_words.specs.Words.{Row, number_of, words_of, worded, among, table, meaning}

-- ---- what is found
-- a row with the number n and the words w, of which P holds
pub record Found (P : Row → Type 0) (n : ℕ) (w : List ℕ) : Type 0 where
  pub row : Row
  pub holds : P row
  pub number : number_of row ≡ n
  pub words : words_of row ≡ w

-- words that are found are those of such a row, where P holds of each
found : {P : Row → Type 0} (rows : List Row) (n : ℕ) (w : List ℕ) → Each P rows → among rows n ≡ accepted w → Found P n w
unfolding among one_of
found [] n w h e = let z : ◌≡◌ {A = ℕ} 0 1 = cc in absurd (omega arith)
found {P} (r ∷ rows) n w h e = by (eqb (number_of r) n) refl e (found rows n w h.1)
  where
    by : (b : Bool) → eqb (number_of r) n ≡ b → worded (pick b (accepted r) (one_of number_of rows (λ _. out_of_range 0) n)) ≡ accepted w → (among rows n ≡ accepted w → Found P n w) → Found P n w
    by true t e ih = record { row = r; holds = h.0; number = eqb-true _ _ t; words = cc }
    by false t e ih = ih e

-- the rows have the numbers from k on
abbrev Numbered : ℕ → List Row → Type 0
Numbered k [] = Unit {0}
Numbered k (r ∷ rows) = (number_of r ≡ k) × Numbered (suc k) rows

-- and then each of these numbers is found
reached : (rows : List Row) (k n : ℕ) → Numbered k rows → k ≤ n → n < k + length rows → (w : List ℕ) × (among rows n ≡ accepted w)
unfolding among one_of
reached [] k n h from to = absurd (omega arith)
reached (r ∷ rows) k n h from to = by (eqb (number_of r) n) refl (λ later. reached rows (suc k) n h.1 later (omega arith))
  where
    by : (b : Bool) → eqb (number_of r) n ≡ b → (suc k ≤ n → (w : List ℕ) × (among rows n ≡ accepted w))
        → (w : List ℕ) × (worded (pick b (accepted r) (one_of number_of rows (λ _. out_of_range 0) n)) ≡ accepted w)
    by true t ih = (words_of r, refl)
    by false t ih = ih (omega (arith, eqb-false (number_of r) n t, h.0))

-- two lists that are made of the rows are equal: each row is made the same of
each-equal : {A : Type 0} (f g : Row → A) (rows : List Row) → map f rows ≡ map g rows → Each (λ r. f r ≡ g r) rows
each-equal f g [] e = tt
each-equal f g (r ∷ rows) e =
    let here : f r ≡ g r = cc in
    let there : map f rows ≡ map g rows = cc in
    (here, each-equal f g rows there)

-- ---- the table
-- exactly the numbers 0 to 18 have words
abbrev AtMost18 : Row → Type 0
AtMost18 r = number_of r ≤ 18

pub known_exactly : (n : ℕ) → (n ≤ 18) ↔ ((w : List ℕ) × (meaning n ≡ accepted w))
unfolding meaning
known_exactly n = (
  (λ h. let numbered : Numbered 0 table = omega arith in reached table 0 n numbered (omega arith) (omega arith)),
  (λ g. let r = found {P = AtMost18} table n g.0 (omega arith) g.1 in omega (arith, r.holds, r.number)),
)

-- no two numbers have the same words: these are told apart by their length and their first letter
abbrev key : List ℕ → ℕ
key w = 256 * length w + get_or w 0 0

abbrev row_with : ℕ → Answer Row
row_with k = one_of (λ r. key (words_of r)) table (λ _. out_of_range 0) k

abbrev Apart : Row → Type 0
Apart r = row_with (key (words_of r)) ≡ accepted r

each_apart : Each Apart table
unfolding one_of
each_apart = each-equal (λ r. row_with (key (words_of r))) accepted table refl

pub no_two : (m n : ℕ) (w : List ℕ) → meaning m ≡ accepted w → meaning n ≡ accepted w → m ≡ n
unfolding meaning
no_two m n w e f =
    let p = found {P = Apart} table m w each_apart e in
    let q = found {P = Apart} table n w each_apart f in
    let same : accepted p.row ≡ accepted q.row = sym p.holds ∙ ap (λ (v : List ℕ). row_with (key v)) (p.words ∙ sym q.words) ∙ q.holds in
    let rows : p.row ≡ q.row = cc in
    sym p.number ∙ ap number_of rows ∙ q.number

-- no words have more than 88 bytes, and those of 11 have as many
abbrev AtMost88 : Row → Type 0
AtMost88 r = length (words_of r) ≤ 88

pub at_most_88 : (n : ℕ) (w : List ℕ) → meaning n ≡ accepted w → length w ≤ 88
unfolding meaning
at_most_88 n w e = let r = found {P = AtMost88} table n w (omega arith) e in rw (← r.words) r.holds

pub as_many : (w : List ℕ) × (meaning 11 ≡ accepted w) × (length w ≡ 88)
unfolding meaning among one_of
as_many = (_, refl, refl)

-- every letter is one of ASCII that prints, from the space to the tilde: no zero byte stands among them
abbrev pub Prints : ℕ → Type 0
Prints b = (32 ≤ b) × (b ≤ 126)

abbrev all_print : List ℕ → Bool
all_print [] = true
all_print (b ∷ w) = both (both (leb 32 b) (leb b 126)) (all_print w)

each_prints : (w : List ℕ) → all_print w ≡ true → Each Prints w
each_prints [] e = tt
each_prints (b ∷ w) e =
    let (first, others) = both_true (both (leb 32 b) (leb b 126)) (all_print w) e in
    let (above, below) = both_true (leb 32 b) (leb b 126) first in
    ((leb-true 32 b above, leb-true b 126 below), each_prints w others)

abbrev RowPrints : Row → Type 0
RowPrints r = all_print (words_of r) ≡ true

pub all-print : (n : ℕ) (w : List ℕ) → meaning n ≡ accepted w → Each Prints w
unfolding meaning
all-print n w e =
    let r = found {P = RowPrints} table n w (each-equal (λ r. all_print (words_of r)) (λ _. true) table refl) e in
    each_prints w (ap all_print (sym r.words) ∙ r.holds)
