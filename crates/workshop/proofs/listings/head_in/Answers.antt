-- `workshop::listings::head_in` meets its contract: no sub-function, or what reading says.
use mathlib.Core.Path.{sym, ap, ◌∙◌}
use Rattle.std.proofs.lemmas.Result.{err_from_is_err_and}
use Rattle.paper.specs.Listing.{head_of}
use Rattle.workshop.proofs.Subs.{known, unknown}
use Rattle.workshop.proofs.listings.head_in.Goals as goal

pub returns-in_err-known_sub : goal.returns-in_err-known_sub
returns-in_err-known_sub c =
    let a = c.args in
    let p = err_from_is_err_and c.from_residual.result c.from_residual.ensures.1 in
    rw (p.1, p.2) (sym (ap head_of (unknown a.«sub» a.listing.now c.in_err-known_sub.ensures)))

pub returns : goal.returns
returns c =
    let a = c.args in
    c.read_listing.ensures ∙ ap head_of (sym (known a.«sub» a.listing.now c.in_ok-known_sub.ensures))
