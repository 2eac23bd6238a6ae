-- `wire::number::few` meets its contract. Invariant: the number so far is that of the bytes passed, and fits in as many bytes.
use mathlib.Core.Path.{◌≡◌, refl, sym}
use Prim.Native.Nat.{◌+◌, ◌-◌}
use native.Mathlib.Nat.{zero-add}
use native.Mathlib.Omega.{arith}
use borrow.Author.Rules.{rules}
use lib.ListN.{take, drop}
use lib.Seq.{take_all}
use Rattle.paper.specs.Bytes.{of_bytes}
use Rattle.paper.proofs.Places.{of_next, below_next}
use Rattle.wire.proofs.Runs.{in_half}
use Rattle.wire.proofs.number.few.Goals as goal

pub loop-b-init : goal.loop-b-init
unfolding of_bytes
loop-b-init c = (refl, omega arith)

pub overflow_mul-x : goal.overflow_mul-x
overflow_mul-x c = omega (arith, in_half c.loop-b.b-index _ 0 (search rules) c.loop-b.invariant.1 (omega arith))

pub overflow_add-x : goal.overflow_add-x
overflow_add-x c = omega (arith, in_half c.loop-b.b-index c.loop-b.x c.from.result (search rules) c.loop-b.invariant.1 (search rules))

pub loop-b-preserved : goal.loop-b-preserved
loop-b-preserved c =
    let a = c.args in
    let l = c.loop-b in
    let next = rw zero-add at (of_next (take (a.at + a.width - a.at) (drop a.at a.s.now)) 0 l.b-index (search rules)) in
    (rw (l.invariant.0, c.from.ensures) (sym next), below_next _ _ _ l.invariant.1 (search rules))

pub returns : goal.returns
returns c =
    let a = c.args in
    let l = c.loop-b in
    let whole : a.at + a.width - a.at ≡ a.width = omega arith in
    rw whole at (rw (take_all l.b-index (take (a.at + a.width - a.at) (drop a.at a.s.now)) (search rules)) at l.invariant.0)
