-- `wire::write::put_half` meets its contract. The invariant: the bytes still to come, in front of what is written, are what is to be there at the end.
use Prim.Native.Nat.{◌^◌, ◌<◌}
use mathlib.Core.Path.{◌≡◌}
use mathlib.Core.List.{◌++◌}
use lib.ListN.{length, drop}
use Rattle.paper.specs.Bytes.{to_bytes}
use Rattle.wire.proofs.write.put_half.Given as goal

abbrev pub invariant-loop-i : goal.invariant-loop-i
invariant-loop-i l = (to_bytes l.i l.rest ++ drop l.i l.out ≡ to_bytes l.width l.initial.rest ++ drop l.width l.initial.out) × (l.rest < 256 ^ l.i) × (length l.out ≡ length l.initial.out)
