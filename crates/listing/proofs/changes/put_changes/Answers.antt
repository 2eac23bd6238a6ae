-- `put_changes` meets its contract: the first half, and the second in the room behind it.
use borrow.Author.Rules.{rules}
use mathlib.Core.Path.{sym}
use Rattle.wire.proofs.Over.{filled_more, filled_as}
use Rattle.wire.proofs.Writes.{refuses, writes}
use Rattle.listing.specs.Searchable.{searched}
use Rattle.listing.proofs.Comparing.{both_halves, both-lengths}
use Rattle.listing.proofs.changes.put_changes.Goals as goal

pub returns-then-room-needed : goal.returns-then-room-needed
returns-then-room-needed c = refuses _ (both-lengths (searched c.args.old.now) (searched c.args.new.now) c.half_len-first.ensures.len c.half_len.ensures.len) (search rules)

pub returns : goal.returns
returns c =
    let rs = searched c.args.old.now in
    let qs = searched c.args.new.now in
    let first = c.half_len-first.ensures.len in
    writes _ (both-lengths rs qs first c.half_len.ensures.len) (search rules) (filled_as (both_halves rs qs) (filled_more c.half_len-first.result c.put_half.ensures c.put_half-2.ensures (sym first)))
