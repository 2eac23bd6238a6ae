-- `reason::request::after_the_name` meets its contract: each layout has its steps; the sizes stand right after the format byte.
use borrow.Author.Rules.{rules}
use Rattle.reason.proofs.Steps.{ok_is, seen_as}
use Rattle.reason.proofs.request.after_the_name.Goals as goal

pub returns-in_err-map_err-in-FormatAndSizes : goal.returns-in_err-map_err-in-FormatAndSizes
returns-in_err-map_err-in-FormatAndSizes c =
    let format = seen_as c.byte_at-in-FormatAndSizes.ensures (ok_is _ _ c.in_ok-at_group-in-FormatAndSizes.ensures.cases) in
    rw (c.in-FormatAndSizes.is, ← format.place.0) (search rules)
