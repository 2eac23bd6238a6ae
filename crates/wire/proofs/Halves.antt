-- What tells a size: its number, since its low half is a half.
-- Assumes nothing.
use Prim.Native.Nat.{ℕ, ◌/◌, ◌%◌, ◌^◌, ◌<◌}
use mathlib.Core.Path.{◌≡◌, ap₂}
use mathlib.Core.List.{List}
use mir.Val.{Val}
use denote.Laws.{Is}
use denote.Struct.Laws as structs
use lib.Arith.{digits_div, digits_mod}
use Rattle.wire.specs.Size.{value}
use Rattle.wire.specs.declared.size.Size.{Size}
use Rattle.wire.specs.contracts.size.Size as size
use Rattle.wire.proofs.size.Size.TheLaws as size-laws

-- whoever is given a size knows of it that its low half is below 2 ^ 64
pub size_low : (x : Size) (vs : List Val) → Is size.the_row x vs → x.low < 2 ^ 64
size_low x vs h = (structs.owed size.the_type size-laws.the_laws x vs h).1.0.1

-- the size of a number
abbrev pub size_of : ℕ → Size
size_of n = record { high = n / 2 ^ 64; low = n % 2 ^ 64 }

-- the size of its number is the size itself
pub size_back : (x : Size) → x.low < 2 ^ 64 → size_of (value x) ≡ x
size_back x h = ap₂ (λ (a b : ℕ). made a b) (digits_div x.high h) (digits_mod x.high h)
  where
    made : ℕ → ℕ → Size
    made a b = record { high = a; low = b }
