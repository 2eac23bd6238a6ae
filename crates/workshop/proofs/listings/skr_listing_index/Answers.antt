-- `workshop::listings::skr_listing_index` meets its contract: zeros where the byte is no sub-function, else the index.
use mathlib.Core.Path.{sym, ap, ◌∙◌}
use Rattle.workshop.specs.Listings.{sub_said, index_record}
use Rattle.workshop.proofs.Subs.{known, unknown, index_flat}
use Rattle.workshop.proofs.listings.skr_listing_index.Goals as goal

pub returns-in-Ok : goal.returns-in-Ok
returns-in-Ok c =
    let a = c.args in
    let is = known a.«sub» a.listing.now (sym (ap sub_said c.in-Ok.is) ∙ c.known_sub.ensures) in
    c.into.ensures ∙ index_flat _ c.index_listing.result c.index_listing.ensures ∙ ap index_record (sym is)

pub returns-in-Err : goal.returns-in-Err
returns-in-Err c =
    let a = c.args in
    c.into-in-Err.ensures ∙ ap index_record (sym (unknown a.«sub» a.listing.now (sym (ap sub_said c.in-Err.is) ∙ c.known_sub.ensures)))
