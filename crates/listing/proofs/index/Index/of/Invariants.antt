-- `Index::of` meets its contract: after k records the two lists are the index of the first k.
use mathlib.Core.Path.{◌≡◌}
use Rattle.paper.specs.Listing.{index_of}
use Rattle.listing.specs.Listing.{sub_of, records_of}
use Rattle.listing.proofs.index.Index.of.Given as goal

abbrev pub invariant-loop-k : goal.invariant-loop-k
invariant-loop-k l = record {
  counts : l.counts ≡ (index_of (records_of (sub_of l.records.sub) l.k l.records.message.now)).counts;
  firsts : l.firsts ≡ (index_of (records_of (sub_of l.records.sub) l.k l.records.message.now)).firsts;
}
