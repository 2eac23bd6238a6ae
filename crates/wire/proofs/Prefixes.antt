-- A count or a width has at least one byte.
-- Assumes nothing.
use Prim.Native.Nat.{◌≤◌}
use native.Mathlib.Omega.{arith}
use Rattle.wire.specs.Prefix.{prefix_len}
use Rattle.wire.specs.declared.prefix.Prefix.{Prefix}
use Rattle.wire.specs.declared.prefix.Prefix.TheVariants.{One, Two}

-- so that what begins with one begins within the message
pub prefix_some : (p : Prefix) → 1 ≤ prefix_len p
prefix_some One = omega arith
prefix_some Two = omega arith
