-- `form::put` meets its contract: a letter more, and all letters.
use native.Mathlib.Omega.{arith}
use Rattle.form.proofs.Grown.{letter_more, all-put}
use Rattle.form.proofs.put.Goals as goal

pub loop-byte-preserved : goal.loop-byte-preserved
loop-byte-preserved c =
    let put = c.put_letter-end.ensures in
    (omega (arith, put.bound), letter_more c.args.bytes.now _ c.loop-byte-test.true c.loop-byte.invariant.1 put)

pub returns : goal.returns
returns c =
    let l = c.loop-byte in
    record { right = all-put c.args.bytes.now _ c.loop-byte-test.false l.invariant.1; bound = omega arith }
