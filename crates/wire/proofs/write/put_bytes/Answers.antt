-- `wire::write::put_bytes` meets its contract. The invariant: the bytes passed stand over the front of `out`.
use Prim.Native.Nat.{◌≤◌, ◌<◌}
use mathlib.Core.Path.{refl}
use native.Mathlib.Omega.{arith}
use native.Mathlib.Numerals.{add-one}
use borrow.Author.Rules.{rules}
use lib.ListN.{length, length-set}
use lib.Seq.{take-suc, take_all, length-take-le}
use Rattle.wire.proofs.Over.{filled_none, filled_set}
use Rattle.wire.proofs.Writes.{refuses, writes}
use Rattle.wire.proofs.write.put_bytes.Goals as goal

pub returns-then-room-needed : goal.returns-then-room-needed
returns-then-room-needed c = refuses _ refl (search rules)

pub loop-i-init : goal.loop-i-init
loop-i-init c = (refl, filled_none)

pub loop-i-preserved : goal.loop-i-preserved
loop-i-preserved c =
    let l = c.loop-i in
    let s = c.args.src.now in
    let more : l.i < length s = omega arith in
    let some : l.i ≤ length s = omega arith in
    (simp length-set l.invariant.0, rw (add-one, take-suc s l.i 0) (filled_set _ l.invariant.1 (length-take-le l.i s some)))

pub returns : goal.returns
returns c =
    let l = c.loop-i in
    let s = c.args.src.now in
    writes _ refl (search rules) (rw (take_all l.i s (search rules)) at l.invariant.1)
