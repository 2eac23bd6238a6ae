-- `workshop::changes::compare` meets its contract: the first sub-function, then the first listing where the second sub-function does not exist, and of two that exist the listings are compared.
use mathlib.Core.Path.{sym, ap, ◌∙◌}
use Rattle.std.proofs.lemmas.Result.{err_from_is_err_and}
use Rattle.paper.specs.Answer.{Answer}
use Rattle.paper.specs.Listing.{Listing, head_of}
use Rattle.paper.specs.Changes.{without_repeats}
use Rattle.listing.specs.Listing.{sub_of, head_said}
use Rattle.listing.specs.declared.changes.ChangesRefusal.TheVariants.{First}
use Rattle.listing.proofs.Compared.{mapped_ok, mapped_err}
use Rattle.workshop.specs.Listings.{sub_said}
use Rattle.workshop.proofs.Subs.{known, unknown}
use Rattle.workshop.proofs.TwoSubs.{first_refused, second_refused, once_handed, both_known}
use Rattle.workshop.proofs.changes.compare.Goals as goal

pub returns-in_err-f : goal.returns-in_err-f
returns-in_err-f c =
    let a = c.args in
    let p = err_from_is_err_and c.from_residual.result c.from_residual.ensures.1 in
    let (e, told, is) = mapped_err First c.known_sub.result c.map_err.ensures.cases c.in_err-f.was in
    let none = unknown a.first_sub a.first.now (sym (ap sub_said told) ∙ c.known_sub.ensures) in
    rw (p.1, p.2, is) (first_refused _ _ a.out.now (sym (ap (λ (l : Answer Listing). head_of (without_repeats l)) none)))

pub returns-in_err-map_err-in-Err : goal.returns-in_err-map_err-in-Err
returns-in_err-map_err-in-Err c =
    let a = c.args in
    let p = err_from_is_err_and c.from_residual-in_err-map_err-in-Err.result c.from_residual-in_err-map_err-in-Err.ensures.1 in
    let (e, told, is) = mapped_err First c.read_once.result c.map_err-in-Err.ensures.cases c.in_err-map_err-in-Err.was in
    let f = mapped_ok First c.known_sub.result c.map_err.ensures.cases c.in_ok-f.was in
    let first = known a.first_sub a.first.now (sym (ap sub_said f) ∙ c.known_sub.ensures) in
    rw (p.1, p.2, is) (first_refused _ _ a.out.now (sym (ap head_said told) ∙ c.read_once.ensures ∙ once_handed (sub_of c.in_ok-f.f) a.first.now first))

pub returns-in-Ok : goal.returns-in-Ok
returns-in-Ok c =
    let a = c.args in
    let f = mapped_ok First c.known_sub.result c.map_err.ensures.cases c.in_ok-f.was in
    let first = known a.first_sub a.first.now (sym (ap sub_said f) ∙ c.known_sub.ensures) in
    let second = known a.second_sub a.second.now (sym (ap sub_said c.in-Ok.is) ∙ c.known_sub-2.ensures) in
    both_known (sub_of c.in_ok-f.f) (sub_of c.in-Ok.g) a.first.now a.second.now a.out.now first second c.listing_changes.ensures

pub returns-in_ok-map_err-in-Err : goal.returns-in_ok-map_err-in-Err
returns-in_ok-map_err-in-Err c =
    let a = c.args in
    let f = mapped_ok First c.known_sub.result c.map_err.ensures.cases c.in_ok-f.was in
    let first = known a.first_sub a.first.now (sym (ap sub_said f) ∙ c.known_sub.ensures) in
    let good = mapped_ok First c.read_once.result c.map_err-in-Err.ensures.cases c.in_ok-map_err-in-Err.was in
    let none = unknown a.second_sub a.second.now (sym (ap sub_said c.in-Err.is) ∙ c.known_sub-2.ensures) in
    second_refused _ _ a.out.now (sym (ap head_said good) ∙ c.read_once.ensures ∙ once_handed (sub_of c.in_ok-f.f) a.first.now first) (ap without_repeats none)
