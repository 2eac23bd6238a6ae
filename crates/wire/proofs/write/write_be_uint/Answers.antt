-- `wire::write::write_be_uint` meets its contract: the low half alone, or the high half and the low one in the room after it.
use mathlib.Core.Path.{refl}
use borrow.Author.Rules.{rules}
use Rattle.paper.proofs.Bytes.{length_to_bytes}
use Rattle.wire.proofs.Over.{filled_more, filled_as}
use Rattle.wire.proofs.Writes.{refuses, writes, filled}
use Rattle.wire.proofs.FieldBytes.{low_half, high_fits, halves}
use Rattle.wire.proofs.write.write_be_uint.Goals as goal

pub returns-then-room-width : goal.returns-then-room-width
returns-then-room-width c = refuses _ (length_to_bytes _ _) (search rules)

pub put_half-requires-2 : goal.put_half-requires-2
put_half-requires-2 c =
    let a = c.args in
    high_fits a.width a.x.high a.x.low c.requires.0 (search rules)

pub returns-then-width-le8 : goal.returns-then-width-le8
returns-then-width-le8 c =
    let a = c.args in
    rw (low_half a.width a.x.high a.x.low c.requires.0 (search rules)) c.put_half.ensures

pub returns : goal.returns
returns c =
    let a = c.args in
    writes a.width (length_to_bytes _ _) (search rules)
    (filled_as (halves a.width a.x.high a.x.low c.requires.0 (search rules) (search rules))
    (filled_more _ (filled refl c.put_half-2.ensures) (filled refl c.put_eight.ensures) (length_to_bytes _ _)))
