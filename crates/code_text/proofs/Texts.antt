-- What stands where the characters of a line do, and a line's two parts. Assumes nothing.
use mathlib.Core.Path.{◌≡◌, refl}
use Prim.Native.Nat.{ℕ, ◌/◌, ◌%◌, ◌≤◌}
use mathlib.Core.List.{List, [], ◌∷◌, ◌++◌}
use native.Mathlib.Omega.{arith}
use native.Mathlib.Nat.{zero-add}
use lib.ListN.{get_or}
use Rattle.paper.specs.Listing.{Listed}
use Rattle.paper.specs.CodeText.{code_places, line_places, one_code, code_text, line_text, NoneBad}
use Rattle.paper.proofs.CodeText.{whole_code, code-stands}
use Rattle.code_text.specs.CodeText.{LineStands}

-- fewer characters of a line stand there, too
pub shorter : {n at : ℕ} {t : List ℕ} → LineStands n at t → (m : ℕ) → m ≤ n → LineStands m at t
shorter s m h = record { long = omega (arith, s.long); stand = λ j l. s.stand j (omega arith) }

-- a text in which everything can stand is a code
pub whole-stands : (t : List ℕ) → NoneBad one_code t → LineStands 8 0 t
whole-stands t n = record { long = omega (arith, (whole_code t n).0); stand = λ j h. rw (zero-add j) (code-stands t n j h) }

-- a line is a code, and then a space, the status and a line feed
pub line_put : (r : Listed) {st h l : ℕ} → st ≡ r.status → h ≡ get_or (get_or line_places 9 []) (st / 16) 0 → l ≡ get_or (get_or line_places 10 []) (st % 16) 0
    → code_text r.code ++ (32 ∷ h ∷ l ∷ 10 ∷ []) ≡ line_text r
unfolding code_places line_places code_text line_text
line_put r e p q = rw (p, q, e) refl
