-- Too many records, a cut one, or the run.
use Rattle.std.proofs.Common.{◌≡◌, ◌≤◌, ◌/◌, ◌%◌, ◌∙◌, length, sym, ap, true-eqb, false-eqb}
use Rattle.paper.specs.Replay.{start, run_from}
use Rattle.replay.specs.Run.{records}
use Rattle.replay.proofs.Runs.{too_many_lem, cut_log, whole_log}
use Rattle.replay.proofs.run.Goals as goal

pub returns-then-whole-gt65536 : goal.returns-then-whole-gt65536
returns-then-whole-gt65536 c = rw c.start-before.ensures (too_many_lem _ (rw c.as_chunks.ensures.front_len at c.if-whole-gt65536.true))

pub returns-then-not-is_empty : goal.returns-then-not-is_empty
returns-then-not-is_empty c =
    let few : length c.args.log.now / 4 ≤ 65536 = rw c.as_chunks.ensures.front_len at c.if-whole-gt65536.false in
    rw c.start-before.ensures (cut_log _ few (λ e. false-eqb _ _ c.if-not-is_empty.ensures (c.as_chunks.ensures.back_len ∙ e)))

pub returns : goal.returns
returns c =
    let few : length c.args.log.now / 4 ≤ 65536 = rw c.as_chunks.ensures.front_len at c.if-whole-gt65536.false in
    let none : length c.args.log.now % 4 ≡ 0 = sym c.as_chunks.ensures.back_len ∙ true-eqb _ _ c.if-not-is_empty.ensures in
    c.run_records.ensures ∙ ap (λ rows. run_from 0 (records rows) start) c.as_chunks.ensures.front ∙ whole_log _ few none
