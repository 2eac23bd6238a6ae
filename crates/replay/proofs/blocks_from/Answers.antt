-- Each block leads on.
use Rattle.std.proofs.Common.{◌≡◌, ℕ, ◌+◌, ◌∙◌, Some, subst, arith, rules}
use Rattle.replay.specs.Run.{Passes}
use Rattle.replay.proofs.Rows.{all_left, end_of_end, without_first, read_there}
use Rattle.replay.proofs.Runs.{as_open, stays, one_more, so_many_more, again, new}
use Rattle.replay.proofs.blocks_from.Goals as goal

pub returns-in_default-clause-led : goal.returns-in_default-clause-led
returns-in_default-clause-led c k = (k, stays k _ _)

pub loop-bytes-init : goal.loop-bytes-init
loop-bytes-init c =
    let some : c.in-Open-Some.field-0 ≡ Some c.in-Open-Some.first = rw c.in-Open-Some.is at c.in-Open-Some.field-0-is in
    record {
      end = all_left _;
      led = λ k. (k, subst (λ st. Passes k c.args.state c.args.log.now k st c.args.log.now) (as_open c.args.state c.in-Open-Some.is some) (stays k _ _));
    }

pub overflow_add-repeats : goal.overflow_add-repeats
overflow_add-repeats c =
    let here = c.in-Some.ensures.cases.0 in
    let fits = one_more 0 _ _ _ _ _ _ _ _ _ c.from-record.result (c.loop-bytes.invariant.led 0).1 c.requires here (search (rules, read_there c.args.log.now c.told-log here)) c.if-record-ne54.false in
    omega (arith, fits)

pub overflow_add-total : goal.overflow_add-total
overflow_add-total c =
    let here = c.in-Some.ensures.cases.0 in
    let fits = so_many_more 0 _ _ _ _ _ _ _ _ _ c.from-record.result (c.loop-bytes.invariant.led 0).1 c.requires here (search (rules, read_there c.args.log.now c.told-log here)) c.if-record-ne54.false in
    omega (arith, fits, c.from-total.ensures)

pub loop-bytes-preserved-then-counter-last : goal.loop-bytes-preserved-then-counter-last
loop-bytes-preserved-then-counter-last c =
    let l = c.loop-bytes.invariant in
    let here = c.in-Some.ensures.cases.0 in
    let on = λ (k : ℕ). again k _ _ _ _ _ _ _ _ _ c.from-record.result (l.led k).1 c.requires here (search (rules, read_there c.args.log.now c.told-log here)) c.if-record-ne54.false c.if-counter-last.true in
    record { end = end_of_end _ (without_first here) l.end; led = λ k. ((l.led k).0 + 1, on k) }

pub loop-bytes-preserved : goal.loop-bytes-preserved
loop-bytes-preserved c =
    let l = c.loop-bytes.invariant in
    let here = c.in-Some.ensures.cases.0 in
    let next = c.if-counter-next_counter.true ∙ c.next_counter.ensures in
    let on = λ (k : ℕ). new k _ _ _ _ _ _ _ _ _ c.from-record.result (l.led k).1 c.requires here (search (rules, read_there c.args.log.now c.told-log here)) c.if-record-ne54.false c.if-counter-last.false next in
    record { end = end_of_end _ (without_first here) l.end; led = λ k. ((l.led k).0 + 1, rw c.from-total.ensures (on k)) }
