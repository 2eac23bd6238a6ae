-- `Index::of` meets its contract: after k records the two lists are the index of the first k.
use mathlib.Core.Path.{◌≡◌}
use Prim.Native.Nat.{◌+◌}
use native.Mathlib.Omega.{arith}
use Rattle.paper.specs.Listing.{index_of}
use Rattle.listing.specs.Listing.{sub_of, records_of}
use Rattle.listing.proofs.Turns.{none-counted, none_first, counted, counts_turn, new_turn, old_turn}
use Rattle.listing.proofs.index.Index.of.Goals as goal
use Rattle.listing.proofs.index.Index.of.Goals.{then-counts-h-eq0, else-counts-h-eq0}

pub loop-k-init : goal.loop-k-init
loop-k-init c =
    let s = c.args.records.now.message.now in
    record { counts = none-counted _ s; firsts = none_first _ s }

pub overflow_add-counts : goal.overflow_add-counts
overflow_add-counts c =
    let r = c.args.records.now in
    omega (arith, counted _ r.message.now c.loop-k.k _ c.loop-k.counts c.high_at-h.ensures.value c.high_at-h.ensures.byte c.loop-k.invariant.counts, r.held.few)

pub loop-k-preserved : goal.loop-k-preserved
loop-k-preserved c =
    let r = c.args.records.now in
    let s = r.message.now in
    let high = c.high_at-h.ensures in
    let loop = c.loop-k in
    let so = loop.invariant in
    let fs : c.if-counts-h-eq0.firsts ≡ (index_of (records_of (sub_of r.sub) (loop.k + 1) s)).firsts = elim c.if-counts-h-eq0.branch [
      | then-counts-h-eq0 w ↦ new_turn _ s loop.k _ loop.counts high.value high.byte so.counts so.firsts w.if-counts-h-eq0.true w.firsts-is
      | else-counts-h-eq0 w ↦ old_turn _ s loop.k _ loop.counts high.value high.byte so.counts so.firsts w.if-counts-h-eq0.false w.firsts-is
    ] in
    record { counts = counts_turn _ s loop.k _ loop.counts high.value high.byte so.counts; firsts = fs }
