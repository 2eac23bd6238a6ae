-- There is room for a letter, or none.
use Rattle.std.proofs.Common.{arith, true-eqb, false-eqb}
use Rattle.oracle_text.proofs.Added.{begins, begins_nowhere}
use Rattle.oracle_text.proofs.text.begin.Goals as goal

pub returns-then-is_empty : goal.returns-then-is_empty
returns-then-is_empty c = begins_nowhere c.args.letter c.args.out.now (true-eqb _ _ c.if-is_empty.ensures)

pub returns : goal.returns
returns c = let some = false-eqb _ _ c.if-is_empty.ensures in begins c.args.letter c.args.out.now (omega (arith, some))
