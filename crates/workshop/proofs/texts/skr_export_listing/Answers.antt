-- `workshop::texts::skr_export_listing` meets its contract: a byte that is no sub-function is refused with nothing written, and of one that is the listing is exported.
use mathlib.Core.Path.{sym, ap, ◌∙◌}
use borrow.Author.Rules.{rules}
use Rattle.workshop.specs.Listings.{sub_said}
use Rattle.station.proofs.Written.{wrote_known, not_known}
use Rattle.workshop.proofs.Subs.{unknown_is, exported_known, exported_unknown}
use Rattle.workshop.proofs.texts.skr_export_listing.Goals as goal

pub returns-in-Ok : goal.returns-in-Ok
returns-in-Ok c =
    let a = c.args in
    wrote_known (exported_known a.«sub» a.listing.now (sym (ap sub_said c.in-Ok.is) ∙ c.known_sub.ensures)) c.export_listing.ensures c.flat.ensures

pub returns-in-Err : goal.returns-in-Err
returns-in-Err c =
    let a = c.args in
    let refused = sym (ap sub_said c.in-Err.is) ∙ c.known_sub.ensures in
    rw (c.into.ensures, unknown_is a.«sub» refused) (not_known (exported_unknown a.«sub» a.listing.now refused) (search rules))
