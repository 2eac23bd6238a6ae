-- `reason::response::after_the_mode` meets its contract: nothing, or block length, format byte and more, one after the other; the format byte stands where the block length ends.
use borrow.Author.Rules.{rules}
use Rattle.reason.proofs.Steps.{block_read}
use Rattle.reason.proofs.response.after_the_mode.Goals as goal

pub returns-in_err-at_last : goal.returns-in_err-at_last
returns-in_err-at_last c = let end = block_read c.args.s.now _ _ _ c.counted_at.ensures c.in_ok-at_format.ensures.cases in rw c.in-Some.is (search rules)

pub returns : goal.returns
returns c = let end = block_read c.args.s.now _ _ _ c.counted_at.ensures c.in_ok-at_format.ensures.cases in rw c.in-Some.is (search rules)
