-- `write_listing` meets its contract: the checks of the list and of its records, and then the listing that they make.
use mathlib.Core.Path.{refl}
use Rattle.std.proofs.lemmas.Result.{err_from_is_err_and}
use Rattle.wire.proofs.Writes.{malformed, passed}
use Rattle.listing.proofs.Writing.{not_fit, all_fit}
use Rattle.listing.proofs.write.write_listing.Goals as goal

pub returns-in_err-handed : goal.returns-in_err-handed
returns-in_err-handed c =
    let p = err_from_is_err_and c.from_residual.result c.from_residual.ensures.1 in
    rw (p.1, p.2) (malformed (c.in_err-handed.ensures _ _))

pub returns-in-Some : goal.returns-in-Some
returns-in-Some c =
    let h = c.in_ok-handed.handed in
    rw (← c.in_ok-handed.ensures) (malformed (not_fit _ _ h.bytes.now h.count h.few h.whole c.in-Some.ensures.0 c.in-Some.ensures.1))

pub returns-in-None : goal.returns-in-None
returns-in-None c =
    let h = c.in_ok-handed.handed in
    rw (← c.in_ok-handed.ensures) (passed (all_fit _ _ h.bytes.now h.count h.few h.whole c.in-None.ensures refl) c.put_listing.ensures)
