-- `batch::read_batch` meets its contract: refused, or an entry more, and all entries.
use mathlib.Core.Path.{refl}
use native.Mathlib.Omega.{arith}
use Rattle.paper.specs.Tally.{sum}
use Rattle.batch.proofs.Turns.{one_more_lem, ends_within, none_yet, entry_more, too_many_lem, not_adding_up, no_room_lem, all_read}
use Rattle.batch.proofs.read_batch.Goals as goal

pub returns-then-needed-gt4096 : goal.returns-then-needed-gt4096
returns-then-needed-gt4096 c = let a = c.args in too_many_lem a.buffer.now a.lengths.now _ c.if-needed-gt4096.true

pub returns-then-total-buffer : goal.returns-then-total-buffer
returns-then-total-buffer c =
    let a = c.args in
    not_adding_up a.buffer.now a.lengths.now _ c.if-needed-gt4096.false c.add_up-total.ensures c.if-total-buffer.true

pub returns-then-room-needed : goal.returns-then-room-needed
returns-then-room-needed c =
    let a = c.args in
    no_room_lem a.buffer.now a.lengths.now _ c.if-needed-gt4096.false c.add_up-total.ensures c.if-total-buffer.false c.if-room-needed.true

pub loop-k-init : goal.loop-k-init
unfolding sum
loop-k-init c = let a = c.args in (refl, none_yet a.buffer.now a.lengths.now _)

-- the message that comes next lies within the buffer
pub overflow_add-end : goal.overflow_add-end
overflow_add-end c = omega (arith, ends_within c.args.lengths.now c.loop-k.k c.loop-k-test.true c.loop-k.invariant.0 c.add_up-total.ensures c.if-total-buffer.false)

pub slice_bounds-number_of-end : goal.slice_bounds-number_of-end
slice_bounds-number_of-end c = omega (arith, ends_within c.args.lengths.now c.loop-k.k c.loop-k-test.true c.loop-k.invariant.0 c.add_up-total.ensures c.if-total-buffer.false)

pub loop-k-preserved : goal.loop-k-preserved
loop-k-preserved c =
    let l = c.loop-k in
    let a = c.args in (
      one_more_lem a.lengths.now l.k c.loop-k-test.true l.invariant.0,
      entry_more a.buffer.now a.lengths.now a.list.now l.k c.loop-k-test.true l.invariant.0 c.number_of.ensures l.invariant.1,
    )

pub returns : goal.returns
returns c =
    let a = c.args in
    all_read a.buffer.now a.lengths.now a.list.now c.if-needed-gt4096.false c.add_up-total.ensures c.if-total-buffer.false
    c.if-room-needed.false c.loop-k-test.false c.loop-k.invariant.1
