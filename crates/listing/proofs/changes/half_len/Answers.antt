-- `half_len` meets its contract: so many bytes are listed of the first k records.
use mathlib.Core.Path.{ap, ◌∙◌}
use native.Mathlib.Omega.{arith}
use lib.ListN.{length}
use Rattle.listing.specs.Listing.{sub_of}
use Rattle.listing.specs.Searchable.{searched}
use Rattle.listing.proofs.Comparing.{len_starts, len_more, all_of, few_of, within}
use Rattle.listing.proofs.changes.half_len.Goals as goal

pub loop-k-init : goal.loop-k-init
loop-k-init c = len_starts _ _

pub overflow_add-len : goal.overflow_add-len
overflow_add-len c =
    let r = c.args.listing.now.records in
    let qs = searched c.args.other.now in
    omega (arith, c.loop-k.invariant, within c.args.half qs (sub_of r.sub) r.message.now r.count c.loop-k.k, few_of c.args.half qs (sub_of r.sub) r.message.now r.count, r.held.few, c.entry_len-len.ensures.few)

pub loop-k-preserved : goal.loop-k-preserved
loop-k-preserved c =
    let r = c.args.listing.now.records in
    len_more _ (searched c.args.other.now) (sub_of r.sub) r.message.now r.count c.loop-k.k c.loop-k-test.true c.entry_at.ensures c.loop-k.invariant c.entry_len-len.ensures.len

pub returns-clause-len : goal.returns-clause-len
returns-clause-len c =
    let r = c.args.listing.now.records in
    c.loop-k.invariant ∙ ap length (all_of c.args.half (searched c.args.other.now) (sub_of r.sub) r.message.now r.count c.loop-k-test.false)

pub returns-clause-few : goal.returns-clause-few
returns-clause-few c =
    let r = c.args.listing.now.records in
    let qs = searched c.args.other.now in
    omega (arith, c.loop-k.invariant, within c.args.half qs (sub_of r.sub) r.message.now r.count c.loop-k.k, few_of c.args.half qs (sub_of r.sub) r.message.now r.count, r.held.few)
