-- `tally::count_records` meets its contract: the length is refused, or a record, or all are counted.
use Prim.Native.Nat.{ℕ, ◌/◌, ◌-◌, ◌≤◌, ◌<◌}
use mathlib.Core.Path.{refl, sym, ap, ◌∙◌}
use mathlib.Core.List.{List}
use native.Mathlib.Omega.{arith}
use lib.ListN.{length}
use Rattle.std.proofs.lemmas.Result.{err_from_is_err_and}
use Rattle.paper.specs.Answer.{accepted}
use Rattle.paper.specs.Tally.{table}
use Rattle.tally.proofs.Turns.{bytes_of, judged_of, good_turn, bad_turn, no-more, length_refused, record_refused, counted, few}
use Rattle.tally.proofs.Stores.{table_none, all_taken, room_in_cell, one_more_lem}
use Rattle.tally.proofs.count_records.Goals as goal

pub returns-in_err-judge_length : goal.returns-in_err-judge_length
returns-in_err-judge_length c =
    let e = err_from_is_err_and c.from_residual.result c.from_residual.ensures.1 in
    rw (e.1, e.2) (length_refused _ c.in_err-judge_length.ensures)

pub loop-place-init : goal.loop-place-init
loop-place-init c = (refl, table_none c.args.records.now)

pub returns-then-not-in_ranges : goal.returns-then-not-in_ranges
returns-then-not-in_ranges c =
    let s = c.args.records.now in
    let l = c.loop-place in
    let more : l.place < length s / 8 = omega arith in
    let here = judged_of (bytes_of s l.place c.as_chunks.ensures.front more) in
    record_refused s c.in_ok-judge_length.ensures (bad_turn s l.place more l.invariant.0 (here ∙ sym c.in_ranges.ensures.value ∙ c.if-not-in_ranges.true))

pub overflow_add-table : goal.overflow_add-table
overflow_add-table c =
    let l = c.loop-place in
    let s : List ℕ = c.args.records.now in
    let f = c.in_ranges.ensures.bounds c.if-not-in_ranges.false in
    let room = room_in_cell s l.place (c.from-row.result - 1) c.from-cell.result (omega arith) (omega (arith, f)) (omega (arith, f)) in
    rw l.invariant.1 (omega (arith, room, few (length s) c.in_ok-judge_length.ensures))

pub loop-place-preserved : goal.loop-place-preserved
loop-place-preserved c =
    let s = c.args.records.now in
    let l = c.loop-place in
    let more : l.place < length s / 8 = omega arith in
    let bytes = bytes_of s l.place c.as_chunks.ensures.front more in
    let f = c.in_ranges.ensures.bounds c.if-not-in_ranges.false in (
      good_turn s l.place more l.invariant.0 (judged_of bytes ∙ sym c.in_ranges.ensures.value ∙ c.if-not-in_ranges.false),
      rw l.invariant.1 (one_more_lem s l.place _ _ more (omega (arith, f)) (omega (arith, f)) (bytes.month ∙ omega (arith, f)) (bytes.number ∙ omega arith)),
    )

pub returns : goal.returns
returns c =
    let s = c.args.records.now in
    let l = c.loop-place in
    let all : length s / 8 ≤ l.place = omega arith in
    ap accepted (l.invariant.1 ∙ ap table (all_taken s l.place all)) ∙ counted s c.in_ok-judge_length.ensures (no-more s l.place all l.invariant.0)
