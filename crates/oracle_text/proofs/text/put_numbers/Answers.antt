-- A turn adds one number more.
use Rattle.oracle_text.specs.Text.{text, add_number}
use Rattle.oracle_text.proofs.Added.{each_none, each_more}
use Rattle.oracle_text.proofs.text.put_numbers.Goals as goal

pub loop-n-init : goal.loop-n-init
loop-n-init c = each_none add_number c.args.numbers.now c.put-end.ensures

pub loop-n-preserved : goal.loop-n-preserved
loop-n-preserved c =
    each_more add_number c.args.numbers.now (text c.put-end.result c.put-end.new.out) c.loop-n.n-index c.loop-n-test.true c.loop-n.invariant c.put_number-end.ensures
