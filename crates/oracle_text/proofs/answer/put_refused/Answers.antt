-- A turn adds one zero more.
use Rattle.std.proofs.Common.{ℕ, replicate}
use Rattle.std.proofs.lemmas.List.{get_or-replicate, length-replicate}
use Rattle.oracle_text.specs.Text.{text, add_number, add_refused}
use Rattle.oracle_text.proofs.Added.{each_none, each_more, each_all}
use Rattle.oracle_text.proofs.answer.put_refused.Goals as goal

pub loop-zero-init : goal.loop-zero-init
loop-zero-init c = each_none add_number (replicate c.args.zeros 0) c.put_numbers-end.ensures

pub loop-zero-preserved : goal.loop-zero-preserved
loop-zero-preserved c =
    let zeros = c.args.zeros in
    each_more add_number (replicate zeros 0) (text c.put_numbers-end.result c.put_numbers-end.new.out) c.loop-zero._zero
    (rw length-replicate c.loop-zero-test.true) c.loop-zero.invariant (rw (get_or-replicate {A = ℕ} zeros c.loop-zero._zero 0 0 c.loop-zero-test.true) c.put_number-end.ensures)

pub returns : goal.returns
unfolding add_refused
returns c =
    let zeros = c.args.zeros in
    rw (← c.number.ensures, ← c.first.ensures, ← c.second.ensures)
    (each_all add_number (replicate zeros 0) c.loop-zero._zero (rw length-replicate c.loop-zero-test.false) c.put_numbers-end.ensures c.loop-zero.invariant)
