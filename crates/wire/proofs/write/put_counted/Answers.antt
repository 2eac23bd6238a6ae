-- `wire::write::put_counted` meets its contract: the count, and the bytes in the room after it.
use mathlib.Core.Path.{refl}
use borrow.Author.Rules.{rules}
use Rattle.paper.specs.Field.{with_count}
use Rattle.paper.proofs.Bytes.{length_to_bytes}
use Rattle.wire.proofs.Over.{filled_more}
use Rattle.wire.proofs.Writes.{refuses, writes, malformed, passed, filled}
use Rattle.wire.proofs.FieldBytes.{counted-long, counted-good, length_counted}
use Rattle.wire.proofs.write.put_counted.Goals as goal

pub returns-then-most-src : goal.returns-then-most-src
returns-then-most-src c = malformed (counted-long _ _ (search rules))

pub returns-then-room-needed : goal.returns-then-room-needed
returns-then-room-needed c =
    let s = c.args.src.now in
    let k = c.len-at in
    rw (← k.ensures.0) (passed (counted-good _ _ (search rules)) (refuses _ (length_counted k.result s) (search rules)))

pub returns : goal.returns
unfolding with_count
returns c =
    let k = c.len-at in
    let s = c.args.src.now in
    rw (← k.ensures.0)
    (passed (counted-good _ _ (search rules))
    (writes _ (length_counted k.result s) (search rules)
    (filled_more k.result (rw (← k.ensures.0) at (filled refl c.put_head.ensures)) (filled refl c.put_bytes.ensures)
    (length_to_bytes k.result _))))
