-- `reason::response::why_response` meets its contract: the first step that refuses is the first check that fails.
use borrow.Author.Rules.{rules}
use Rattle.reason.proofs.Steps.{response_steps, mode_read}
use Rattle.reason.proofs.response.why_response.Goals as goal

pub returns-in_err-mode : goal.returns-in_err-mode
returns-in_err-mode c = rw response_steps (search rules)

pub returns-in_err-kind : goal.returns-in_err-kind
returns-in_err-kind c = rw (response_steps, ← mode_read c.args.s.now _ _ _ c.byte_at.ensures c.in_ok-mode.ensures.cases) (search rules)

pub returns : goal.returns
returns c = rw (response_steps, ← mode_read c.args.s.now _ _ _ c.byte_at.ensures c.in_ok-mode.ensures.cases) (search rules)
