-- `wire::write::put_two_sizes` meets its contract: the width, and each size in the room that begins where the previous field ended.
use mathlib.Core.Path.{refl}
use borrow.Author.Rules.{rules}
use lib.ListN.{length-append}
use Rattle.paper.proofs.Bytes.{length_to_bytes}
use Rattle.wire.proofs.Over.{filled_more, filled_as}
use Rattle.wire.proofs.Writes.{refuses, writes, filled}
use Rattle.wire.proofs.FieldBytes.{prefix_width, two_sizes, length_two}
use Rattle.wire.proofs.write.put_two_sizes.Goals as goal

pub returns-then-room-needed : goal.returns-then-room-needed
returns-then-room-needed c =
    let k = c.len-first in
    rw (← k.ensures.0) (refuses _ (length_two k.result c.width_of_both-width.ensures) (search rules))

pub put_head-requires : goal.put_head-requires
put_head-requires c = prefix_width c.args.prefix c.width_of_both-width.ensures

pub write_be_uint-requires : goal.write_be_uint-requires
write_be_uint-requires c = let s = c.width_of_both-width.ensures.holds in (s.fit.0, s.within)

pub write_be_uint-requires-2 : goal.write_be_uint-requires-2
write_be_uint-requires-2 c = let s = c.width_of_both-width.ensures.holds in (s.fit.1.0, s.within)

pub returns : goal.returns
returns c =
    let w = c.width_of_both-width in
    let k = c.len-first in
    let width = rw (← k.ensures.0) at (filled refl c.put_head.ensures) in
    let one = filled_more k.result width (filled refl c.write_be_uint.ensures) (length_to_bytes k.result _) in
    rw (← k.ensures.0)
    (writes _ (length_two k.result w.ensures) (search rules)
    (filled_as (two_sizes k.result w.ensures)
    (filled_more _ one (filled refl c.write_be_uint-2.ensures) (simp (length-append, length_to_bytes)))))
