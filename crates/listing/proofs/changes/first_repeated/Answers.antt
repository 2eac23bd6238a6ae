-- `first_repeated` meets its contract: the codes of the first records didn't stand before, and what is told from there on is what is told.
use mathlib.Core.Path.{sym, ◌∙◌}
use Rattle.paper.proofs.Repeats.{repeating_starts}
use Rattle.listing.specs.Listing.{sub_of}
use Rattle.listing.proofs.Comparing.{repeat_ends, repeat_found, repeat_on}
use Rattle.listing.proofs.changes.first_repeated.Goals as goal

pub loop-place-init : goal.loop-place-init
loop-place-init c = repeating_starts _

pub returns-then-stood_before : goal.returns-then-stood_before
returns-then-stood_before c =
    let r = c.args.listing.now.records in
    (repeat_found (sub_of r.sub) r.message.now r.count c.loop-place.place c.loop-place.invariant c.loop-place-test.true (sym c.stood_before.ensures ∙ c.if-stood_before.true), c.loop-place-test.true)

pub loop-place-preserved : goal.loop-place-preserved
loop-place-preserved c =
    let r = c.args.listing.now.records in
    repeat_on (sub_of r.sub) r.message.now r.count c.loop-place.place c.loop-place.invariant c.loop-place-test.true (sym c.stood_before.ensures ∙ c.if-stood_before.false)

pub returns : goal.returns
returns c =
    let r = c.args.listing.now.records in
    repeat_ends (sub_of r.sub) r.message.now r.count c.loop-place.place c.loop-place.invariant c.loop-place-test.false c.loop-place.auto.place-end
