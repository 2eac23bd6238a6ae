-- After so many numbers, so many codes were made.
use Rattle.std.proofs.Common.{◌≡◌}
use Rattle.oracle_codes.proofs.number.codes_of.Given as goal

abbrev pub invariant-loop-low : goal.invariant-loop-low
invariant-loop-low l = l.sums.made ≡ l.low
