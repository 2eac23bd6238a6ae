-- `print_each` meets its contract: at each turn the files so far were printed, or told.
use Rattle.streams.specs.Cases.{Each}
use Rattle.streams.proofs.Case.print_each.Given as goal

abbrev pub invariant-loop-i : goal.invariant-loop-i
invariant-loop-i g l = Each (g.Self.Case.prints l.fn.self) (g.W.Write.contents l.fn.out) (g.E.Write.contents l.fn.error) (g.W.Write.contents l.out) (g.E.Write.contents l.error)
