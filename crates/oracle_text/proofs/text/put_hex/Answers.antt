-- There is no byte, or a turn adds one more.
use Rattle.std.proofs.Common.{arith, true-eqb, false-eqb}
use Rattle.oracle_text.specs.Text.{text, add_byte}
use Rattle.oracle_text.proofs.Added.{each_none, each_more, each_all, no_bytes, some_bytes}
use Rattle.oracle_text.proofs.text.put_hex.Goals as goal

pub returns-then-is_empty : goal.returns-then-is_empty
returns-then-is_empty c = no_bytes c.args.bytes.now (text c.args.at c.args.out.now) (true-eqb _ _ c.if-is_empty.ensures) c.put.ensures

pub loop-b-init : goal.loop-b-init
loop-b-init c = each_none add_byte c.args.bytes.now c.put-end.ensures

pub loop-b-preserved : goal.loop-b-preserved
loop-b-preserved c =
    each_more add_byte c.args.bytes.now (text c.put-end.result c.put-end.new.out) c.loop-b.b-index c.loop-b-test.true c.loop-b.invariant c.put_byte-end.ensures

pub returns : goal.returns
returns c =
    let some = false-eqb _ _ c.if-is_empty.ensures in
    some_bytes c.args.bytes.now (text c.args.at c.args.out.now) (omega (arith, some))
    (each_all add_byte c.args.bytes.now c.loop-b.b-index c.loop-b-test.false c.put-end.ensures c.loop-b.invariant)
