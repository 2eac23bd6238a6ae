-- `wire::number::few` meets its contract. Invariant: the number so far is that of the bytes passed, and fits in as many bytes.
use mathlib.Core.Path.{◌≡◌}
use Prim.Native.Nat.{◌^◌, ◌<◌}
use lib.ListN.{take}
use Rattle.paper.specs.Bytes.{of_bytes}
use Rattle.wire.proofs.number.few.Given as goal

abbrev pub invariant-loop-b : goal.invariant-loop-b
invariant-loop-b l = (l.x ≡ of_bytes (take l.b-index l.b-items)) × (l.x < 256 ^ l.b-index)
