-- `half_len` meets its contract: so many bytes are listed of the first k records.
use mathlib.Core.Path.{◌≡◌}
use lib.ListN.{length, take}
use Rattle.listing.specs.Changes.{half_bytes}
use Rattle.listing.specs.Searchable.{searched}
use Rattle.listing.proofs.changes.half_len.Given as goal

abbrev pub invariant-loop-k : goal.invariant-loop-k
invariant-loop-k l = l.len ≡ length (half_bytes l.half (searched l.other) (take l.k (searched l.listing)))
