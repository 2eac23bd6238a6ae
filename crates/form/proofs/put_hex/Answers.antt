-- `form::put_hex` meets its contract: the two digits, the high one first.
use mathlib.Core.Path.{ap₂}
use Prim.Native.Nat.{ℕ}
use mathlib.Core.List.{[], ◌∷◌}
use lib.Dec.{lit≤}
use Rattle.form.proofs.Grown.{put_as}
use Rattle.form.proofs.put_hex.Goals as goal

pub returns : goal.returns
returns c =
    put_as c.put.ensures (ap₂ (λ (a b : ℕ). a ∷ b ∷ []) c.hex_digit.ensures c.hex_digit-2.ensures) (lit≤ tt)
