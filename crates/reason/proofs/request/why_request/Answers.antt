-- `reason::request::why_request` meets its contract: the first step that refuses is the first check that fails.
use borrow.Author.Rules.{rules}
use Rattle.reason.proofs.Steps.{request_steps, mode_read, name_read}
use Rattle.reason.proofs.request.why_request.Goals as goal

pub returns-in_err-mode : goal.returns-in_err-mode
returns-in_err-mode c = rw request_steps (search rules)

pub returns-in_err-at_format : goal.returns-in_err-at_format
returns-in_err-at_format c = rw request_steps (search rules)

pub returns-in_err-kind : goal.returns-in_err-kind
returns-in_err-kind c = rw (request_steps, ← mode_read c.args.s.now _ _ _ c.byte_at.ensures c.in_ok-mode.ensures.cases) (search rules)

pub returns : goal.returns
returns c =
    rw (
      request_steps,
      ← mode_read c.args.s.now _ _ _ c.byte_at.ensures c.in_ok-mode.ensures.cases,
      ← name_read c.args.s.now _ _ _ c.name_at.ensures c.in_ok-at_format.ensures.cases,
    )
    (search rules)
