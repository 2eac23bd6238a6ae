-- `Handed::first_unfit` meets its contract: the first records fit, so that the search goes on behind them.
use mathlib.Core.Path.{◌≡◌, sym, ◌∙◌}
use native.Mathlib.Omega.{arith}
use Rattle.paper.proofs.FirstPlace.{starts, ends}
use Rattle.paper.proofs.Listing.{length_handed}
use Rattle.listing.specs.Listing.{sub_of}
use Rattle.listing.proofs.Writing.{is-unfit-here, fits-here}
use Rattle.listing.proofs.handed.Handed.first_unfit.Goals as goal

pub loop-place-init : goal.loop-place-init
loop-place-init c = starts _ _

pub returns-then-is_unfit : goal.returns-then-is_unfit
returns-then-is_unfit c =
    let h = c.args.self.now in
    (is-unfit-here (sub_of c.args.sub) h.bytes.now h.count c.loop-place.place c.loop-place-test.true c.loop-place.invariant c.at.ensures (sym c.is_unfit.ensures ∙ c.if-is_unfit.true), c.loop-place-test.true)

pub loop-place-preserved : goal.loop-place-preserved
loop-place-preserved c =
    let h = c.args.self.now in
    fits-here (sub_of c.args.sub) h.bytes.now h.count c.loop-place.place c.loop-place-test.true c.loop-place.invariant c.at.ensures (sym c.is_unfit.ensures ∙ c.if-is_unfit.false)

pub returns : goal.returns
returns c =
    let h = c.args.self.now in
    let all : c.loop-place.place ≡ h.count = omega arith in
    sym (ends _ _ c.loop-place.place c.loop-place.invariant (omega (arith, length_handed h.count h.bytes.now))) ∙ all
