-- A turn of the search for the first place at which something can't stand. Assumes nothing.
use mathlib.Core.Path.{◌≡◌}
use Prim.Native.Nat.{ℕ, ◌+◌, ◌≤◌, ◌<◌}
use mathlib.Core.Bool.{Bool, true, false, not}
use mathlib.Core.List.{List}
use native.Mathlib.Omega.{arith}
use borrow.Author.Count.{below_more}
use borrow.Author.Tests.{ltb-true, ltb-false}
use lib.ListN.{length, get_or}
use lib.Dec.{ltb}
use Rattle.std.specs.Option.{is_some}
use Rattle.paper.specs.CodeText.{Sort, can_stand, place_in, FirstBad}
use Rattle.paper.proofs.TextPlaces.{Stands, bad-here}
use Rattle.code_text.specs.CodeText.{value_in}
use Rattle.code_text.proofs.LineRows.{none-in}

module _ (sort : Sort) (t : List ℕ) (i : ℕ) (before : (k : ℕ) → k < i → Stands sort t k) {row : List ℕ} {b : Bool}
    (own : row ≡ can_stand sort i) (said : is_some (value_in row (get_or t i 0)) ≡ not b) where
  is : (b ≡ true → ltb (place_in (can_stand sort i) (get_or t i 0)) (length (can_stand sort i)) ≡ false) × (b ≡ false → ltb (place_in (can_stand sort i) (get_or t i 0)) (length (can_stand sort i)) ≡ true)
  is = none-in (can_stand sort i) (get_or t i 0) (rw (← own) said)

  -- the character here can't stand
  pub stops : b ≡ true → i < length t → FirstBad sort t i
  stops e h = bad-here sort t i before h (λ w. let not_in : length (can_stand sort i) ≤ place_in (can_stand sort i) (get_or t i 0) = ltb-false _ _ (is.0 e) in omega arith)

  -- it can
  pub goes_on_lem : b ≡ false → (k : ℕ) → k < i + 1 → Stands sort t k
  goes_on_lem e = below_more (Stands sort t) i before (ltb-true _ _ (is.1 e))
