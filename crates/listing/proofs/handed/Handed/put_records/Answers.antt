-- `Handed::put_records` meets its contract: the first k records stand at the start of the room, and the next is put behind them.
use borrow.Author.Rules.{rules}
use mathlib.Core.Path.{◌≡◌, refl, ap}
use Prim.Native.Nat.{◌*◌}
use native.Mathlib.Omega.{arith}
use Rattle.wire.proofs.Writes.{refuses, writes, filled}
use Rattle.listing.specs.Listing.{sub_of}
use Rattle.listing.proofs.Writing.{length_up_to, none_yet, record_put, record_room, same-room}
use Rattle.listing.proofs.handed.Handed.put_records.Goals as goal

pub returns-then-room-needed : goal.returns-then-room-needed
returns-then-room-needed c =
    let h = c.args.self.now in
    refuses _ (rw c.record_size-size.ensures.size (length_up_to (sub_of c.args.sub) h.bytes.now h.count)) (search rules)

pub loop-k-init : goal.loop-k-init
loop-k-init c = none_yet _ _

pub slice_bounds-put_record-start : goal.slice_bounds-put_record-start
slice_bounds-put_record-start c =
    let h = c.args.self.now in
    let room = rw c.record_size-size.ensures.size at c.if-room-needed.false in
    rw c.record_size-size.ensures.size
    (omega (arith, record_room (sub_of c.args.sub) c.loop-k.k h.count c.loop-k-test.true, room, same-room (sub_of c.args.sub) h.bytes.now c.loop-k.k h.count (omega arith) room c.loop-k.invariant))

pub loop-k-preserved : goal.loop-k-preserved
loop-k-preserved c = record_put (sub_of c.args.sub) c.args.self.now.bytes.now c.loop-k.k c.at.ensures (ap (λ size. size * c.loop-k.k) c.record_size-size.ensures.size) c.loop-k.invariant (filled refl c.put_record.ensures)

pub returns : goal.returns
returns c =
    let h = c.args.self.now in
    let all : c.loop-k.k ≡ h.count = omega arith in
    writes _ (rw c.record_size-size.ensures.size (length_up_to (sub_of c.args.sub) h.bytes.now h.count)) (search rules) (rw all at c.loop-k.invariant)
