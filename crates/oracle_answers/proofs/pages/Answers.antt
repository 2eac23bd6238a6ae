-- `pages` meets its contract: one page more.
use Rattle.std.specs.Prelude.{[]}
use Rattle.std.proofs.KnownBytes.{Consumes-nil, Consumes-trans}
use Rattle.oracle_answers.proofs.pages.Goals as goal

pub loop-init : goal.loop-init
loop-init g c = ([], Consumes-nil _)

pub loop-preserved : goal.loop-preserved
loop-preserved g c =
    let (so_far, before) = c.loop.invariant in
    let (page, now) = c.in_ok-t.ensures in
    (_, Consumes-trans _ _ _ so_far page before now)
