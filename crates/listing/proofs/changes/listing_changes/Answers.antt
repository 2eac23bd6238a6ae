-- `listing_changes` meets its contract: the first listing's refusals, the second's, and else the list that is put.
use mathlib.Core.Path.{sym, ap, ◌∙◌}
use Rattle.std.proofs.lemmas.Result.{err_from_is_err_and}
use Rattle.listing.specs.Searchable.{searched_said}
use Rattle.listing.specs.declared.changes.ChangesRefusal.TheVariants.{First, Second}
use Rattle.listing.proofs.Compared.{mapped_ok, mapped_err, first_said, second-said, both-said}
use Rattle.listing.proofs.changes.listing_changes.Goals as goal

pub returns-in_err-old : goal.returns-in_err-old
returns-in_err-old c =
    let p = err_from_is_err_and c.from_residual.result c.from_residual.ensures.1 in
    let (e, told, is) = mapped_err First c.once.result c.map_err.ensures.cases c.in_err-old.was in
    rw (p.1, p.2, is) (first_said _ _ _ _ _ (sym (ap searched_said told) ∙ c.once.ensures))

pub returns-in_err-new : goal.returns-in_err-new
returns-in_err-new c =
    let p = err_from_is_err_and c.from_residual-in_err-new.result c.from_residual-in_err-new.ensures.1 in
    let (e, told, is) = mapped_err Second c.once-2.result c.map_err-2.ensures.cases c.in_err-new.was in
    let first = sym (ap searched_said (mapped_ok First c.once.result c.map_err.ensures.cases c.in_ok-old.was)) ∙ c.once.ensures in
    rw (p.1, p.2, is) (second-said _ _ _ _ _ first (sym (ap searched_said told) ∙ c.once-2.ensures))

pub returns : goal.returns
returns c =
    let first = sym (ap searched_said (mapped_ok First c.once.result c.map_err.ensures.cases c.in_ok-old.was)) ∙ c.once.ensures in
    let second = sym (ap searched_said (mapped_ok Second c.once-2.result c.map_err-2.ensures.cases c.in_ok-new.was)) ∙ c.once-2.ensures in
    both-said _ _ _ _ _ first second c.put_changes.result c.put_changes.ensures c.map_err-3.ensures.cases
