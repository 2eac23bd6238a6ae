-- `record_at` meets its contract: the record there, or none past the end.
use mathlib.Core.Path.{sym, ◌∙◌}
use Rattle.listing.specs.Listing.{sub_of}
use Rattle.listing.proofs.Reading.{past, here, read_ok}
use Rattle.listing.proofs.record_at.Goals as goal

pub returns-then-place-records : goal.returns-then-place-records
returns-then-place-records c =
    let r = c.in_ok-records.records in
    let read = sym c.of.ensures ∙ read_ok c.of.result (sym c.ok.ensures.value ∙ c.in_ok-records.was) in
    rw (read, c.at.ensures) (here (sub_of r.sub) r.count r.message.now c.args.place c.if-place-records.true)

pub returns-else-place-records : goal.returns-else-place-records
returns-else-place-records c =
    let r = c.in_ok-records.records in
    let read = sym c.of.ensures ∙ read_ok c.of.result (sym c.ok.ensures.value ∙ c.in_ok-records.was) in
    rw read (past (sub_of r.sub) r.count r.message.now c.args.place c.if-place-records.false)
