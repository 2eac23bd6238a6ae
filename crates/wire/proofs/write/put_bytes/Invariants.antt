-- `wire::write::put_bytes` meets its contract. The invariant: the bytes passed stand over the front of `out`.
use lib.ListN.{length, take}
use mathlib.Core.Path.{◌≡◌}
use Rattle.wire.specs.Writing.{Filled}
use Rattle.wire.proofs.write.put_bytes.Given as goal

abbrev pub invariant-loop-i : goal.invariant-loop-i
invariant-loop-i l = (length l.out ≡ length l.initial.out) × Filled (take l.i l.src) l.initial.out l.out
