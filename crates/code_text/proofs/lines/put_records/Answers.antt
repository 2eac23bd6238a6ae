-- `put_records` meets its contract: the records of the first k lines stand at the start of the room, and the next is put behind them.
use borrow.Author.Rules.{rules}
use mathlib.Core.Path.{◌≡◌, refl}
use native.Mathlib.Omega.{arith}
use Rattle.wire.proofs.Writes.{refuses, writes, filled}
use Rattle.code_text.proofs.Imported.{line_stands, length_to, no_record, record_more, same-room}
use Rattle.code_text.proofs.lines.put_records.Goals as goal

pub returns-then-room-needed : goal.returns-then-room-needed
returns-then-room-needed c = refuses _ (length_to c.args.text.now _) (search rules)

pub loop-k-init : goal.loop-k-init
loop-k-init c = (no_record _)

pub line_at-requires : goal.line_at-requires
line_at-requires c = line_stands c.requires c.loop-k.k c.loop-k-test.true

pub slice_bounds-put_record-start : goal.slice_bounds-put_record-start
slice_bounds-put_record-start c =
    let l = c.loop-k in
    let a = c.args in
    omega (arith, same-room a.text.now l.k a.n (omega arith) (search rules) l.invariant)

pub loop-k-preserved : goal.loop-k-preserved
loop-k-preserved c =
    let l = c.loop-k in
    let a = c.args in
    (record_more a.text.now l.k c.line_at.ensures l.invariant (filled refl c.put_record.ensures))

pub returns : goal.returns
returns c =
    let l = c.loop-k in
    let a = c.args in
    let all : l.k ≡ a.n = omega arith in
    writes _ (length_to a.text.now a.n) (search rules) (rw all at l.invariant)
