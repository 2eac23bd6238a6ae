-- `put_half` meets its contract: what is listed of the first k records stands at the start of the room, and the next entry is put behind it.
use mathlib.Core.Path.{refl}
use native.Mathlib.Omega.{arith}
use Rattle.wire.proofs.Writes.{filled}
use Rattle.wire.proofs.Over.{filled_as}
use Rattle.listing.specs.Listing.{sub_of}
use Rattle.listing.specs.Searchable.{searched}
use Rattle.listing.proofs.Comparing.{len_starts, len_more, put-starts, put-more, all_of, few_of, within, begins-within}
use Rattle.listing.proofs.changes.put_half.Goals as goal

pub loop-k-init : goal.loop-k-init
loop-k-init c = record { len = len_starts _ _; put = put-starts _ _ }

pub slice_bounds-put_entry-start : goal.slice_bounds-put_entry-start
slice_bounds-put_entry-start c =
    let r = c.args.listing.now.records in
    let loop = c.loop-k in
    begins-within c.args.half (searched c.args.other.now) (sub_of r.sub) r.message.now r.count loop.k c.requires loop.invariant.len loop.invariant.put

pub slice_bounds-put_entry-count : goal.slice_bounds-put_entry-count
slice_bounds-put_entry-count c =
    let r = c.args.listing.now.records in
    let loop = c.loop-k in
    begins-within c.args.half (searched c.args.other.now) (sub_of r.sub) r.message.now r.count loop.k c.requires loop.invariant.len loop.invariant.put

pub overflow_add-at : goal.overflow_add-at
overflow_add-at c =
    let r = c.args.listing.now.records in
    let qs = searched c.args.other.now in
    omega (arith, c.loop-k.invariant.len, within c.args.half qs (sub_of r.sub) r.message.now r.count c.loop-k.k, few_of c.args.half qs (sub_of r.sub) r.message.now r.count, r.held.few, c.entry_len-at.ensures.few)

pub loop-k-preserved : goal.loop-k-preserved
loop-k-preserved c =
    let r = c.args.listing.now.records in
    let qs = searched c.args.other.now in
    let loop = c.loop-k in
    let entry = c.entry_at-e.ensures in
    record {
      len = len_more _ qs (sub_of r.sub) r.message.now r.count loop.k c.loop-k-test.true entry loop.invariant.len c.entry_len-at.ensures.len;
      put = put-more _ qs (sub_of r.sub) r.message.now r.count loop.k c.loop-k-test.true entry loop.at loop.invariant.len loop.invariant.put (filled refl c.put_entry.ensures);
    }

pub returns : goal.returns
returns c =
    let r = c.args.listing.now.records in
    filled_as (all_of c.args.half (searched c.args.other.now) (sub_of r.sub) r.message.now r.count c.loop-k-test.false) c.loop-k.invariant.put
