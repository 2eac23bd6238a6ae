-- `wire::write::put_one_size` meets its contract: the width, and the size in the room after it.
use mathlib.Core.Path.{refl}
use borrow.Author.Rules.{rules}
use Rattle.paper.proofs.Bytes.{length_to_bytes}
use Rattle.wire.proofs.Over.{filled_more, filled_as}
use Rattle.wire.proofs.Writes.{refuses, writes, filled}
use Rattle.wire.proofs.FieldBytes.{prefix_width, one_size_lem, length_one}
use Rattle.wire.proofs.write.put_one_size.Goals as goal

pub returns-then-room-needed : goal.returns-then-room-needed
returns-then-room-needed c =
    let k = c.len-first in
    rw (← k.ensures.0) (refuses _ (length_one k.result c.width_of-width.ensures) (search rules))

pub put_head-requires : goal.put_head-requires
put_head-requires c = prefix_width c.args.prefix c.width_of-width.ensures

pub write_be_uint-requires : goal.write_be_uint-requires
write_be_uint-requires c = let s = c.width_of-width.ensures.holds in (s.fit.0, s.within)

pub returns : goal.returns
returns c =
    let w = c.width_of-width in
    let k = c.len-first in
    rw (← k.ensures.0)
    (writes _ (length_one k.result w.ensures) (search rules)
    (filled_as (one_size_lem k.result w.ensures)
    (filled_more k.result (rw (← k.ensures.0) at (filled refl c.put_head.ensures)) (filled refl c.write_be_uint.ensures)
    (length_to_bytes k.result _))))
