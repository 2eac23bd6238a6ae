-- Document 02, Req 12: characters by their place in a row, and numbers that are spelt so.
-- Assumes nothing.
use mathlib.Core.Path.{◌≡◌, refl, sym, ap, ap₂, ◌∙◌}
use Prim.Native.Nat.{ℕ, zero, suc, ◌+◌, ◌≤◌, ◌<◌}
use mathlib.Core.Bool.{Bool, true, false}
use mathlib.Core.List.{List, [], ◌∷◌, ◌++◌, map}
use mathlib.Core.Option.{some}
use native.Mathlib.Nat.{not-suc-le-zero, le_of_suc-le-suc}
use native.Mathlib.Omega.{arith}
use lib.ListN.{length, get_or, get_elem?, take, drop, get_or-map}
use lib.Seq.{drop-cons}
use lib.Dec.{eqb}
use borrow.Author.Tests.{eqb-true, eq-eqb}
use Rattle.paper.specs.Choice.{pick}
use Rattle.paper.specs.Listing.{first_place, numbers_from}
use Rattle.paper.specs.CodeText.{spelt, place_in, InRow}
use Rattle.paper.proofs.FirstPlace.{first_passes, number_at}

-- ---- a row of characters
-- a character that has a place in the row stands there
at_place : (row : List ℕ) (c : ℕ) → place_in row c < length row → get_or row (place_in row c) 0 ≡ c
at_place row c h = sym (eqb-true c _ (first_passes (eqb c) 0 row h))

there : (row : List ℕ) (k : ℕ) → k < length row → get_elem? row k ≡ some (get_or row k 0)
there [] k h = absurd (not-suc-le-zero h)
there (x ∷ row) zero h = refl
there (x ∷ row) (suc k) h = there row k (le_of_suc-le-suc h)

pub row_in : (row : List ℕ) (c : ℕ) → place_in row c < length row → InRow row c
row_in row c h = (place_in row c, there row (place_in row c) h ∙ ap some (at_place row c h))

pub row_has : (row : List ℕ) (c k : ℕ) → get_elem? row k ≡ some c → place_in row c < length row
unfolding first_place
row_has [] c zero e = let z : ◌≡◌ {A = ℕ} 0 1 = cc in absurd (omega arith)
row_has [] c (suc k) e = let z : ◌≡◌ {A = ℕ} 0 1 = cc in absurd (omega arith)
row_has (x ∷ row) c zero e = let same : c ≡ x = cc in rw (eq-eqb c x same) (omega arith)
row_has (x ∷ row) c (suc k) e = by (eqb c x) (row_has row c k e)
  where
    by : (b : Bool) → place_in row c < length row → pick b 0 (suc (place_in row c)) < suc (length row)
    by true h = omega arith
    by false h = omega arith

-- no character stands twice in it
abbrev pub Once : List ℕ → Type 0
Once row = map (place_in row) row ≡ numbers_from 0 (length row)

pub once_back : (row : List ℕ) → Once row → (v : ℕ) → v < length row → place_in row (get_or row v 0) ≡ v
once_back row once v h = sym (get_or-map (place_in row) row v 0) ∙ ap (λ (ps : List ℕ). get_or ps v (place_in row 0)) once ∙ number_at (length row) v (place_in row 0) h

-- ---- what is spelt
-- each number has a character in the row of its place
abbrev pub Fits : List (List ℕ) → List ℕ → Type 0
Fits [] ds = Unit {0}
Fits (p ∷ ps) [] = ⊥
Fits (p ∷ ps) (d ∷ ds) = (d < length p) × Fits ps ds

pub fits_at : (ps : List (List ℕ)) (ds : List ℕ) → Fits ps ds → (j : ℕ) → j < length ps → get_or ds j 0 < length (get_or ps j [])
fits_at [] ds f j h = absurd (not-suc-le-zero h)
fits_at (p ∷ ps) [] f j h = absurd f
fits_at (p ∷ ps) (d ∷ ds) f zero h = f.0
fits_at (p ∷ ps) (d ∷ ds) f (suc j) h = fits_at ps ds f.1 j (le_of_suc-le-suc h)

-- no character stands twice in any of the rows
abbrev pub AllOnce : List (List ℕ) → Type 0
AllOnce ps = map (λ (row : List ℕ). map (place_in row) row) ps ≡ map (λ (row : List ℕ). numbers_from 0 (length row)) ps

-- its character stands for it, whatever follows the text
pub spelt_back : (ps : List (List ℕ)) (ds t : List ℕ) → AllOnce ps → Fits ps ds → (j : ℕ) → j < length ps → place_in (get_or ps j []) (get_or (spelt ps ds ++ t) j 0) ≡ get_or ds j 0
spelt_back [] ds t o f j h = absurd (not-suc-le-zero h)
spelt_back (p ∷ ps) [] t o f j h = absurd f
spelt_back (p ∷ ps) (d ∷ ds) t o f zero h = let once : Once p = cc in once_back p once d f.0
spelt_back (p ∷ ps) (d ∷ ds) t o f (suc j) h = let rest : AllOnce ps = cc in spelt_back ps ds t rest f.1 j (le_of_suc-le-suc h)

-- what the characters from place i on stand for
abbrev pub values_at : List (List ℕ) → List ℕ → ℕ → List ℕ
values_at [] t i = []
values_at (p ∷ ps) t i = place_in p (get_or t i 0) ∷ values_at ps t (suc i)

-- spelt again they are those characters
pub values_spelt : (ps : List (List ℕ)) (t : List ℕ) (i : ℕ) → Fits ps (values_at ps t i) → i + length ps ≤ length t → spelt ps (values_at ps t i) ≡ take (length ps) (drop i t)
values_spelt [] t i f h = refl
values_spelt (p ∷ ps) t i f h =
    ap₂ (λ (x : ℕ) (xs : List ℕ). x ∷ xs) (at_place p (get_or t i 0) f.0) (values_spelt ps t (suc i) f.1 (omega arith))
    ∙ sym (ap (take (suc (length ps))) (drop-cons t i 0 (omega arith)))

-- they have characters in their rows where all that stand there have
pub values_fit : (ps : List (List ℕ)) (t : List ℕ) (i : ℕ) → ((j : ℕ) → j < length ps → place_in (get_or ps j []) (get_or t (i + j) 0) < length (get_or ps j [])) → Fits ps (values_at ps t i)
values_fit [] t i h = tt
values_fit (p ∷ ps) t i h =
    let here : i + 0 ≡ i = omega arith in
    (rw here at (h 0 (omega arith)), values_fit ps t (suc i) (λ j l. let further : i + suc j ≡ suc i + j = omega arith in rw further at (h (suc j) (omega arith))))
