-- `look_up` meets its contract: reading's refusals, then 11, and by an own index the search.
use mathlib.Core.Path.{sym, ◌∙◌}
use Rattle.std.proofs.lemmas.Result.{err_from_is_err_and}
use Rattle.paper.proofs.ListingIndex.{look_refused, look_not_own, look_own}
use Rattle.listing.proofs.Turns.{looked}
use Rattle.listing.proofs.index.look_up.Goals as goal

pub returns-in_err-listing : goal.returns-in_err-listing
returns-in_err-listing c =
    let p = err_from_is_err_and c.from_residual.result c.from_residual.ensures.1 in
    rw (p.1, p.2) (sym (look_refused _ c.args.s.now _ _ (sym c.in_err-listing.ensures)))

pub returns-then-not-owns : goal.returns-then-not-owns
returns-then-not-owns c = sym (look_not_own _ c.args.s.now _ _ (sym c.in_ok-listing.ensures) (sym c.owns.ensures ∙ c.if-not-owns.true))

pub returns : goal.returns
returns c =
    rw c.ok_or.ensures.value
    (looked c.find.result ∙ c.find.ensures ∙ sym (look_own _ c.args.s.now _ _ (sym c.in_ok-listing.ensures) (sym c.owns.ensures ∙ c.if-not-owns.false)))
