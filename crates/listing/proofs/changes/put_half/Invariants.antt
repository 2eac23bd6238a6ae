-- `put_half` meets its contract: what is listed of the first k records stands at the start of the room, and the next entry is put behind it.
use mathlib.Core.Path.{◌≡◌}
use lib.ListN.{length, take}
use Rattle.wire.specs.Writing.{Filled}
use Rattle.listing.specs.Changes.{half_bytes}
use Rattle.listing.specs.Searchable.{searched}
use Rattle.listing.proofs.changes.put_half.Given as goal

abbrev pub invariant-loop-k : goal.invariant-loop-k
invariant-loop-k l = record {
  len : l.at ≡ length (half_bytes l.half (searched l.other) (take l.k (searched l.listing)));
  put : Filled (half_bytes l.half (searched l.other) (take l.k (searched l.listing))) l.initial.out l.out;
}
