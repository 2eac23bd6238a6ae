-- `workshop::listings::find_in` meets its contract: no sub-function, or what the lookup says.
use mathlib.Core.Path.{sym, ap, ◌∙◌}
use Rattle.std.proofs.lemmas.Result.{err_from_is_err_and}
use Rattle.paper.specs.Listing.{look_up_in}
use Rattle.dtc.specs.Status.{code_of}
use Rattle.listing.specs.Index.{numbers_in}
use Rattle.workshop.proofs.Subs.{known, unknown, looked}
use Rattle.workshop.proofs.listings.find_in.Goals as goal

pub returns-in_err-known_sub : goal.returns-in_err-known_sub
returns-in_err-known_sub c =
    let a = c.args in
    let p = err_from_is_err_and c.from_residual.result c.from_residual.ensures.1 in
    rw (p.1, p.2) (sym (ap (look_up_in (numbers_in a.counts.now a.firsts.now) (code_of a.code)) (unknown a.«sub» a.listing.now c.in_err-known_sub.ensures)))

pub returns : goal.returns
returns c =
    let a = c.args in
    let x = numbers_in a.counts.now a.firsts.now in
    c.look_up.ensures ∙ looked _ a.listing.now x (code_of a.code) ∙ ap (look_up_in x (code_of a.code)) (sym (known a.«sub» a.listing.now c.in_ok-known_sub.ensures))
