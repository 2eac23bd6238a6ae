-- `once` meets its contract: reading's refusals, then 17.
use mathlib.Core.Path.{sym}
use Rattle.std.proofs.lemmas.Result.{err_from_is_err_and}
use Rattle.paper.proofs.Changes.{read-refused}
use Rattle.listing.specs.Listing.{sub_of}
use Rattle.listing.proofs.Comparing.{repeats, repeats_not}
use Rattle.listing.proofs.changes.once.Goals as goal

pub returns-in_err-listing : goal.returns-in_err-listing
returns-in_err-listing c =
    let p = err_from_is_err_and c.from_residual.result c.from_residual.ensures.1 in
    rw (p.1, p.2) (sym (read-refused _ c.args.s.now (sym c.in_err-listing.ensures)))

pub returns-in-Some : goal.returns-in-Some
returns-in-Some c =
    let r = c.in_ok-listing.listing.records in
    repeats _ c.args.s.now (sub_of r.sub) r.count r.message.now c.in_ok-listing.ensures c.in-Some.ensures.0 c.in-Some.ensures.1

pub returns-in-None : goal.returns-in-None
returns-in-None c =
    let r = c.in_ok-listing.listing.records in
    repeats_not _ c.args.s.now (sub_of r.sub) r.count r.message.now c.in_ok-listing.ensures c.in-None.ensures
