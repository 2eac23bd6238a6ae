-- `all_fit` meets its contract: each byte passed fits exactly where none was found that does not.
use Rattle.std.proofs.Common.{◌-◌, ◌≤◌, ◌↔◌, IsTrue, length}
use Rattle.utf8.specs.Fit.{FitTo}
use Rattle.utf8.proofs.blocks.all_fit.Given as goal

abbrev pub invariant-loop-i : goal.invariant-loop-i
invariant-loop-i l = (IsTrue l.fit ↔ FitTo l.s l.i) × (l.i - 3 ≤ length l.s - 3)
