-- `print_argument` meets its contract: a file was opened and printed, or there is none and that was told.
use Rattle.std.proofs.Common.{refl, ap}
use Rattle.streams.specs.Cases.{opened, missing}
use Rattle.streams.proofs.Cases.{on_ok}
use Rattle.streams.proofs.Case.print_argument.Goals as goal

pub returns-in-Some : goal.returns-in-Some
returns-in-Some g c =
    let as_it_was = rw c.in-Some.is at c.in_ok-file.ensures.told in
    on_ok c.print.result (λ (_, _, _, grown, shown). opened _ _ _ grown shown (ap g.E.Write.contents as_it_was)) c.print.ensures

pub returns-in-None : goal.returns-in-None
returns-in-None g c =
    let told = rw c.in-None.is at c.in_ok-file.ensures.told in
    missing _ refl told
