-- `workshop::listings::skr_write_listing` meets its contract: a byte that is no sub-function is refused with nothing written, and of one that is the listing is written.
use mathlib.Core.Path.{sym, ap, ◌∙◌}
use Rattle.workshop.specs.Listings.{sub_said}
use Rattle.station.proofs.Written.{wrote_known, not_known}
use Rattle.workshop.proofs.Subs.{written_known, written-unknown}
use Rattle.workshop.proofs.listings.skr_write_listing.Goals as goal

pub returns-in-Ok : goal.returns-in-Ok
returns-in-Ok c =
    let a = c.args in
    let wrote = rw c.from_bits.ensures at c.write_listing.ensures in
    wrote_known (written_known a.«sub» a.mask a.records.now (sym (ap sub_said c.in-Ok.is) ∙ c.known_sub.ensures)) wrote c.flat.ensures

pub returns-in-Err : goal.returns-in-Err
returns-in-Err c =
    let a = c.args in
    not_known (written-unknown a.«sub» a.mask a.records.now (sym (ap sub_said c.in-Err.is) ∙ c.known_sub.ensures)) c.into.ensures
