-- `desk_check::desk_check` meets its contract: the reader's refusal, then what is left over, then the rule.
use mathlib.Core.Path.{sym, ◌∙◌}
use Rattle.std.proofs.lemmas.Result.{err_from_is_err_and}
use Rattle.desk_check.proofs.Judged.{unread, left_over_lem, by_rule}
use Rattle.desk_check.proofs.desk_check.Goals as goal

pub returns-in_err-q : goal.returns-in_err-q
returns-in_err-q c =
    let (y, same, made) = err_from_is_err_and c.from_residual.result c.from_residual.ensures.1 in
    rw (same, made) (unread _ c.in_err-q.ensures.paper)

pub returns-then-left-gt0 : goal.returns-then-left-gt0
returns-then-left-gt0 c = left_over_lem _ c.in_ok-q.tail c.in_ok-q.ensures.paper c.if-left-gt0.true

pub returns-then-not-passes : goal.returns-then-not-passes
returns-then-not-passes c = by_rule _ c.in_ok-q.tail c.in_ok-q.ensures.paper c.if-left-gt0.false (sym c.if-not-passes.true ∙ c.passes.ensures _)

pub returns : goal.returns
returns c = by_rule _ c.in_ok-q.tail c.in_ok-q.ensures.paper c.if-left-gt0.false (sym c.if-not-passes.false ∙ c.passes.ensures _)
