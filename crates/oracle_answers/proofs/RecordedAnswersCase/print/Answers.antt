-- `print` meets its contract: what was read is gone from the file, and behind `out` stands that the file goes on, or nothing.
use Rattle.std.proofs.Common.{[], true, false, refl}
use Rattle.std.proofs.KnownBytes.{Appends-nil, Consumes-trans}
use Rattle.streams.proofs.Cases.{on_ok}
use Rattle.oracle_answers.proofs.RecordedAnswersCase.print.Goals as goal

pub returns-then-branch : goal.returns-then-branch
returns-then-branch g c =
    let (pages, before) = c.in_ok-pages.ensures in
    let (rest, behind) = c.in_ok-goes_on.ensures in
    on_ok c.write_all.result (λ said. (_, _, Consumes-trans _ _ _ pages rest before behind, said, (true, refl))) c.write_all.ensures.bytes

pub returns : goal.returns
returns g c =
    let (pages, before) = c.in_ok-pages.ensures in
    let (rest, behind) = c.in_ok-goes_on.ensures in
    (_, [], Consumes-trans _ _ _ pages rest before behind, Appends-nil _, (false, refl))
