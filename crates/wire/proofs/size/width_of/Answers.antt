-- `wire::size::width_of` meets its contract, by the law of leading zeros of the half that counts.
use native.Mathlib.Omega.{arith}
use borrow.Author.Rules.{rules}
use Rattle.wire.proofs.Sizes.{in_sixteen, smallest_of}
use Rattle.wire.proofs.LeadingZeros.{zeros_fit, zero_bytes, low-counts, top_counts}
use Rattle.wire.proofs.size.width_of.Goals as goal

pub overflow_cast-result : goal.overflow_cast-result
overflow_cast-result c = zeros_fit _

pub overflow_sub-result : goal.overflow_sub-result
overflow_sub-result c = zero_bytes _ (omega arith)

pub overflow_cast-result-else-x-eq0 : goal.overflow_cast-result-else-x-eq0
overflow_cast-result-else-x-eq0 c = zeros_fit _

pub overflow_sub-result-else-x-eq0 : goal.overflow_sub-result-else-x-eq0
overflow_sub-result-else-x-eq0 c = zero_bytes _ (omega arith)

pub returns-then-x-eq0 : goal.returns-then-x-eq0
returns-then-x-eq0 c = smallest_of (in_sixteen _ _ (search rules) (search rules)) (low-counts _ _ (search rules) c.if-x-eq0.true)

pub returns-else-x-eq0 : goal.returns-else-x-eq0
returns-else-x-eq0 c = smallest_of (in_sixteen _ _ (search rules) (search rules)) (top_counts _ _ (search rules) (omega (arith, c.if-x-eq0.false)) (search rules))
