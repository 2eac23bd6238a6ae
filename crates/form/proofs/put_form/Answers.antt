-- `form::put_form` meets its contract: a letter, a number or nothing in a blank, and the end of the form.
use Rattle.std.proofs.Common.{◌≡◌, ◌∷◌, length, ap}
use native.Mathlib.Omega.{arith}
use Rattle.std.proofs.lemmas.Grind.{common_steps}
use Rattle.form.proofs.Grown.{number_more, nothing_more, sign_more, form-put}
use Rattle.form.proofs.put_form.Goals as goal
use Rattle.form.proofs.put_form.Goals.{then-letter-ne-BLANK, else-letter-ne-BLANK+in-Some, else-letter-ne-BLANK+in_default}

pub loop-letter-preserved : goal.loop-letter-preserved
loop-letter-preserved c =
    let l = c.loop-letter in
    let form = c.args.form.now in
    let more = c.loop-letter-test.true in
    let so_far = l.invariant.goes_on in
    elim c.if-letter-ne-BLANK.branch [
      | then-letter-ne-BLANK w ↦ rw (w.out-is, w.end-is, w.left-is) (record {
        bound = omega (arith, w.put_letter-end.ensures.bound);
        goes_on = sign_more form _ more _ w.if-letter-ne-BLANK.true so_far w.put_letter-end.ensures;
      })
      | else-letter-ne-BLANK+in-Some w ↦
          let first : l.left.now ≡ w.in-Some.n.now ∷ w.in-Some.others.now = grind (arith, common_steps) in
          rw (w.out-is, w.end-is, w.left-is) (record {
            bound = omega (arith, w.put_number-end.ensures.bound, ap length first);
            goes_on = number_more form _ more (omega (arith, w.if-letter-ne-BLANK.false)) first so_far w.put_number-end.ensures (grind (arith, common_steps));
          })
      | else-letter-ne-BLANK+in_default w ↦ rw (w.out-is, w.end-is, w.left-is) (record {
        bound = omega arith;
        goes_on = nothing_more form _ _ _ more (omega (arith, w.if-letter-ne-BLANK.false)) (grind (arith, common_steps)) so_far;
      })
    ]

pub returns : goal.returns
returns c =
    let l = c.loop-letter in
    record { right = form-put c.args.form.now _ _ c.loop-letter-test.false l.invariant.goes_on; bound = omega arith }
