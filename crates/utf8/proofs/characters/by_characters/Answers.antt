-- `by_characters` meets its contract: what is passed is valid, the ASCII at first too, and where no step can be made it is the longest.
use Rattle.std.proofs.Common.{arith}
use Rattle.utf8.proofs.Ascii.{ascii-valid}
use Rattle.utf8.proofs.Longest.{by_step, turn, end}
use Rattle.utf8.proofs.characters.by_characters.Goals as goal

pub loop-step-init : goal.loop-step-init
loop-step-init g c = ascii-valid c.ascii_blocks-at.ensures

pub returns-then-n-eq0 : goal.returns-then-n-eq0
returns-then-n-eq0 g c = end c.loop-step.invariant (by_step c.requires.steps _ c.step-n.ensures) c.if-n-eq0.true

pub loop-step-preserved : goal.loop-step-preserved
loop-step-preserved g c = turn c.loop-step.invariant (by_step c.requires.steps _ c.step-n.ensures)

pub overflow_add-at : goal.overflow_add-at
overflow_add-at g c = omega (arith, (turn c.loop-step.invariant (by_step c.requires.steps _ c.step-n.ensures)).within)

pub loop-step-smaller : goal.loop-step-smaller
loop-step-smaller g c = omega (arith, (turn c.loop-step.invariant (by_step c.requires.steps _ c.step-n.ensures)).within, c.if-n-eq0.false)
