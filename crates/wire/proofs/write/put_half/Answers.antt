-- `wire::write::put_half` meets its contract. The invariant: the bytes still to come, in front of what is written, are what is to be there at the end.
use Prim.Native.Nat.{suc, ◌-◌, ◌^◌, ◌<◌}
use mathlib.Core.Path.{◌≡◌}
use native.Mathlib.Omega.{arith}
use borrow.Author.Rules.{rules}
use lib.ListN.{length-set}
use Rattle.paper.specs.Answer.{over}
use Rattle.paper.specs.Bytes.{to_bytes}
use Rattle.paper.proofs.Bytes.{length_to_bytes}
use Rattle.wire.proofs.FieldBytes.{fits-less, low_store}
use Rattle.wire.proofs.Writes.{refuses, writes}
use Rattle.wire.proofs.write.put_half.Goals as goal

pub returns-then-room-needed : goal.returns-then-room-needed
returns-then-room-needed c = refuses _ (length_to_bytes _ _) (search rules)

pub loop-i-preserved : goal.loop-i-preserved
loop-i-preserved c =
    let l = c.loop-i in
    let back : suc (l.i - 1) ≡ l.i = omega arith in
    let fits : l.rest < 256 ^ suc (l.i - 1) = rw back l.invariant.1 in
    (rw (low_store (l.i - 1) l.rest l.out fits (omega arith), back) l.invariant.0, fits-less (l.i - 1) fits, simp length-set l.invariant.2)

pub returns : goal.returns
unfolding over to_bytes
returns c =
    let l = c.loop-i in
    let done : l.i ≡ 0 = omega arith in
    let a = c.args in
    writes a.width (length_to_bytes _ _) (search rules) (record { given_room = λ h. rw (length_to_bytes a.width a.x) (rw done at l.invariant.0) })
