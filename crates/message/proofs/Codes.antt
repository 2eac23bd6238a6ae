-- A code in a list: the library's word for it is the paper's.
-- Assumes nothing.
use mathlib.Core.Path.{◌≡◌, refl}
use Prim.Native.Nat.{ℕ}
use mathlib.Core.List.{List, [], ◌∷◌}
use native.Mathlib.Omega.{arith}
use Rattle.std.specs.Prelude.{nat_eq}
use Rattle.std.specs.List.{list_any}
use Rattle.std.proofs.lemmas.Grind.{common_steps}
use Rattle.paper.specs.WholeMessage.{stands}

pub any-stands : (code : ℕ) (list : List ℕ) → list_any (λ y. nat_eq y code) list ≡ stands code list
unfolding stands
any-stands code [] = refl
any-stands code (x ∷ xs) = let e = any-stands code xs in grind (arith, common_steps)
