-- The rows of characters of a line, and which place of a line a place of a text is. Assumes nothing.
use mathlib.Core.Path.{◌≡◌, refl, sym, ap, ◌∙◌}
use Prim.Native.Nat.{ℕ, zero, suc, ◌+◌, ◌≤◌, ◌<◌}
use mathlib.Core.Bool.{Bool, true, false, not}
use mathlib.Core.List.{List, [], ◌∷◌}
use native.Mathlib.Omega.{arith}
use lib.ListN.{length, get_or, get_or-eq_default}
use lib.Dec.{eqb, ltb}
use borrow.Author.Tests.{lt-ltb}
use Rattle.std.specs.Prelude.{Option, Some, None, position}
use Rattle.std.specs.List.{position_or_len}
use Rattle.std.specs.Option.{is_some, unwrap_or}
use Rattle.paper.specs.Choice.{pick}
use Rattle.paper.specs.Listing.{first_place}
use Rattle.paper.specs.CodeText.{hex_digits, code_places, line_places, one_code, can_stand, place_in}
use Rattle.paper.proofs.CodeText.{code_row}
use Rattle.code_text.specs.CodeText.{value_in}

-- ---- the numbers of characters
-- the place that a search finds
place-found : (row : List ℕ) (c : ℕ) → position_or_len (λ x. eqb c x) row ≡ place_in row c
unfolding first_place
place-found [] c = refl
place-found (x ∷ row) c = by (eqb c x) (place-found row c)
  where
    by : (b : Bool) → position_or_len (λ x. eqb c x) row ≡ place_in row c → pick (not b) (1 + position_or_len (λ x. eqb c x) row) 0 ≡ pick b 0 (suc (place_in row c))
    by true e = refl
    by false e = omega (arith, e)

pub found_value : (row : List ℕ) (c : ℕ) → position (λ x. eqb c x) row ≡ value_in row c
found_value row c = rw (place-found row c) refl

-- what is read of a character that stands there
pub number_there : (row : List ℕ) (c : ℕ) {o : Option ℕ} {x : ℕ} → o ≡ value_in row c → x ≡ unwrap_or o 0 → place_in row c < length row → x ≡ place_in row c
number_there row c is e h = e ∙ ap (λ (o : Option ℕ). unwrap_or o 0) is ∙ rw (lt-ltb _ _ h) refl

-- whether it stands there
pub none-in : (row : List ℕ) (c : ℕ) {b : Bool} → is_some (value_in row c) ≡ not b → (b ≡ true → ltb (place_in row c) (length row) ≡ false) × (b ≡ false → ltb (place_in row c) (length row) ≡ true)
none-in row c {b} is = by b (ltb (place_in row c) (length row)) is
  where
    by : (b t : Bool) → is_some (pick t (Some (place_in row c)) None) ≡ not b → (b ≡ true → t ≡ false) × (b ≡ false → t ≡ true)
    by true true e = cc
    by true false e = (λ f. refl, λ f. cc)
    by false true e = (λ f. cc, λ f. refl)
    by false false e = cc

-- ---- the rows
-- hex digits where there is no letter, no digit 0 to 3 and no mark
pub hex_row : (j : ℕ) → 2 ≤ j → j ≤ 10 → (j ≡ 5 → ⊥) → (j ≡ 8 → ⊥) → hex_digits ≡ get_or line_places j []
unfolding code_places line_places
hex_row zero a b c d = absurd (omega arith)
hex_row (suc zero) a b c d = absurd (omega arith)
hex_row (suc (suc zero)) a b c d = refl
hex_row (suc (suc (suc zero))) a b c d = refl
hex_row (suc (suc (suc (suc zero)))) a b c d = refl
hex_row (suc (suc (suc (suc (suc zero))))) a b c d = absurd (c refl)
hex_row (suc (suc (suc (suc (suc (suc zero)))))) a b c d = refl
hex_row (suc (suc (suc (suc (suc (suc (suc zero))))))) a b c d = refl
hex_row (suc (suc (suc (suc (suc (suc (suc (suc zero)))))))) a b c d = absurd (d refl)
hex_row (suc (suc (suc (suc (suc (suc (suc (suc (suc zero))))))))) a b c d = refl
hex_row (suc (suc (suc (suc (suc (suc (suc (suc (suc (suc zero)))))))))) a b c d = refl
hex_row (suc (suc (suc (suc (suc (suc (suc (suc (suc (suc (suc j))))))))))) a b c d = absurd (omega arith)

-- and no other row is as long
pub hex_alone : (j : ℕ) → length (get_or line_places j []) ≡ 16 → hex_digits ≡ get_or line_places j []
unfolding code_places line_places
hex_alone zero h = absurd (omega (arith, h))
hex_alone (suc zero) h = absurd (omega (arith, h))
hex_alone (suc (suc zero)) h = refl
hex_alone (suc (suc (suc zero))) h = refl
hex_alone (suc (suc (suc (suc zero)))) h = refl
hex_alone (suc (suc (suc (suc (suc zero))))) h = absurd (omega (arith, h))
hex_alone (suc (suc (suc (suc (suc (suc zero)))))) h = refl
hex_alone (suc (suc (suc (suc (suc (suc (suc zero))))))) h = refl
hex_alone (suc (suc (suc (suc (suc (suc (suc (suc zero)))))))) h = absurd (omega (arith, h))
hex_alone (suc (suc (suc (suc (suc (suc (suc (suc (suc zero))))))))) h = refl
hex_alone (suc (suc (suc (suc (suc (suc (suc (suc (suc (suc zero)))))))))) h = refl
hex_alone (suc (suc (suc (suc (suc (suc (suc (suc (suc (suc (suc zero))))))))))) h = absurd (omega (arith, h))
hex_alone (suc (suc (suc (suc (suc (suc (suc (suc (suc (suc (suc (suc j)))))))))))) h = absurd (omega (arith, h))

pub no_row : (j : ℕ) → 12 ≤ j → [] ≡ get_or line_places j []
unfolding code_places line_places
no_row j h = sym (get_or-eq_default line_places [] {n = j} h)

-- few characters can stand at a place, and fewer at the first two
pub row_few : (j : ℕ) → length (get_or line_places j []) ≤ 16
unfolding code_places line_places
row_few zero = omega arith
row_few (suc zero) = omega arith
row_few (suc (suc zero)) = omega arith
row_few (suc (suc (suc zero))) = omega arith
row_few (suc (suc (suc (suc zero)))) = omega arith
row_few (suc (suc (suc (suc (suc zero))))) = omega arith
row_few (suc (suc (suc (suc (suc (suc zero)))))) = omega arith
row_few (suc (suc (suc (suc (suc (suc (suc zero))))))) = omega arith
row_few (suc (suc (suc (suc (suc (suc (suc (suc zero)))))))) = omega arith
row_few (suc (suc (suc (suc (suc (suc (suc (suc (suc zero))))))))) = omega arith
row_few (suc (suc (suc (suc (suc (suc (suc (suc (suc (suc zero)))))))))) = omega arith
row_few (suc (suc (suc (suc (suc (suc (suc (suc (suc (suc (suc zero))))))))))) = omega arith
row_few (suc (suc (suc (suc (suc (suc (suc (suc (suc (suc (suc (suc j)))))))))))) = omega arith

pub row_fewer : (j : ℕ) → j < 2 → length (get_or line_places j []) ≤ 4
unfolding code_places line_places
row_fewer zero h = omega arith
row_fewer (suc zero) h = omega arith
row_fewer (suc (suc j)) h = absurd (omega arith)

-- ---- a place of the text
pub place-one : (i : ℕ) → i < 8 → get_or line_places i [] ≡ can_stand one_code i
place-one i h = code_row i h

pub place_behind : (i : ℕ) → 8 ≤ i → get_or line_places 12 [] ≡ can_stand one_code i
unfolding code_places line_places
place_behind i h = sym (get_or-eq_default code_places [] {n = i} h)
