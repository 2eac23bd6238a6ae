-- `pages` meets its contract: what the turns so far read is gone from the file.
use Rattle.std.specs.Prelude.{ℕ, List}
use Rattle.std.specs.Io.KnownBytes.{Consumes}
use Rattle.oracle_answers.proofs.pages.Given as goal

abbrev pub invariant-loop : goal.invariant-loop
invariant-loop g l = (read : List ℕ) × Consumes (g.R.Read.remaining l.fn.file) (g.R.Read.remaining l.file) read
