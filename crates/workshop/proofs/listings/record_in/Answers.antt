-- `workshop::listings::record_in` meets its contract: no sub-function, no listing, or what stands at the place.
use mathlib.Core.Path.{sym, ap, ◌∙◌}
use Rattle.std.proofs.lemmas.Result.{err_from_is_err_and}
use Rattle.paper.specs.Listing.{read_listing}
use Rattle.listing.specs.Listing.{sub_of}
use Rattle.workshop.specs.Listings.{listed_record}
use Rattle.workshop.proofs.Subs.{known, unknown, placed, not_placed}
use Rattle.workshop.proofs.listings.record_in.Goals as goal

pub returns-in_err-f : goal.returns-in_err-f
returns-in_err-f c =
    let a = c.args in
    let p = err_from_is_err_and c.from_residual.result c.from_residual.ensures.1 in
    rw (p.1, p.2) (sym (ap (listed_record a.place) (unknown a.«sub» a.listing.now c.in_err-f.ensures)))

pub returns-in_err-read_listing : goal.returns-in_err-read_listing
returns-in_err-read_listing c =
    let a = c.args in
    let p = err_from_is_err_and c.from_residual-in_err-read_listing.result c.from_residual-in_err-read_listing.ensures.1 in
    let is = known a.«sub» a.listing.now c.in_ok-f.ensures in
    rw (p.1, p.2) (not_placed a.place (read_listing (sub_of c.in_ok-f.f) a.listing.now) c.in_err-read_listing.ensures ∙ ap (listed_record a.place) (sym is))

pub returns : goal.returns
returns c =
    let a = c.args in
    let is = known a.«sub» a.listing.now c.in_ok-f.ensures in
    placed a.place (read_listing (sub_of c.in_ok-f.f) a.listing.now) c.in_ok-read_listing.ensures c.record_at.ensures ∙ ap (listed_record a.place) (sym is)
