-- Each record leads on, or ends the run.
use Rattle.std.proofs.Common.{◌≡◌, ◌+◌, ◌-◌, ◌∙◌, subst, ap, length, arith, rules}
use Rattle.std.proofs.lemmas.Result.{err_from_is_err_and}
use Rattle.paper.specs.Replay.{run_from}
use Rattle.replay.specs.Run.{records, Passes}
use Rattle.replay.proofs.Rows.{all_left, end_of_end, without_first, read_there}
use Rattle.replay.proofs.Runs.{stays, go_on, still, first, went_on, stops, ends}
use Rattle.replay.proofs.run_records.Goals as goal

pub loop-bytes-init : goal.loop-bytes-init
loop-bytes-init c =
    let log = c.args.log.now in
    let none : 0 ≡ length log - length log = omega arith in
    record {
      end = all_left log;
      led = subst (λ at. Passes 0 c.start-state.result log at c.start-state.result log) none (stays 0 c.start-state.result log);
    }

pub returns-in_err-next : goal.returns-in_err-next
returns-in_err-next c =
    let log = c.args.log.now in
    let l = c.loop-bytes in
    let here = c.in-Some.ensures.cases.0 in
    let p = err_from_is_err_and c.from_residual.result c.from_residual.ensures.1 in
    let begun = first _ _ c.start-state.ensures c.requires in
    let told = stops 0 c.start-state.result log _ l.state l.rest.now _ _ c.from.result l.invariant.led begun here (search (rules, read_there c.args.log.now c.told-log here)) c.in_err-next.ensures in
    rw (p.1, p.2) (told ∙ ap (run_from 0 (records log)) c.start-state.ensures)

pub blocks_from-requires : goal.blocks_from-requires
blocks_from-requires c =
    let l = c.loop-bytes in
    let here = c.in-Some.ensures.cases.0 in
    let begun = first _ _ c.start-state.ensures c.requires in
    still (went_on 0 c.start-state.result c.args.log.now _ l.state l.rest.now _ _ c.from.result l.invariant.led begun here (search (rules, read_there c.args.log.now c.told-log here)) c.in_ok-next.next c.in_ok-next.ensures) begun

pub loop-bytes-smaller : goal.loop-bytes-smaller
loop-bytes-smaller c = let p = c.blocks_from.ensures.led 0 in omega (arith, p.1.within, c.in-Some.ensures.cases.1)

pub loop-bytes-preserved : goal.loop-bytes-preserved
loop-bytes-preserved c =
    let log = c.args.log.now in
    let l = c.loop-bytes in
    let here = c.in-Some.ensures.cases.0 in
    let begun = first _ _ c.start-state.ensures c.requires in
    let on = went_on 0 c.start-state.result log _ l.state l.rest.now _ _ c.from.result l.invariant.led begun here (search (rules, read_there c.args.log.now c.told-log here)) c.in_ok-next.next c.in_ok-next.ensures in
    let p = c.blocks_from.ensures.led ((length log - length l.rest.now) + 1) in
    let all = go_on on p.1 in
    let place : p.0 ≡ length log - length c.blocks_from.result.1.now = omega (arith, all.within) in
    record {
      end = end_of_end log c.blocks_from.ensures.end (end_of_end log (without_first here) l.invariant.end);
      led = subst (λ at. Passes 0 c.start-state.result log at c.blocks_from.result.0 c.blocks_from.result.1.now) place all;
    }

pub returns : goal.returns
returns c =
    let l = c.loop-bytes in
    let all = ends 0 c.start-state.result c.args.log.now _ l.state l.rest.now l.invariant.led c.in_default.ensures.cases in
    all ∙ ap (run_from 0 (records c.args.log.now)) c.start-state.ensures
