-- `changes_text::put_compared` meets its contract: what the comparison answers is what is said of the two listings.
use native.Mathlib.Omega.{arith}
use borrow.Author.Rules.{rules}
use lib.Dec.{lit≤}
use Rattle.form.proofs.Grown.{put_as}
use Rattle.changes_text.proofs.Compared.{compared-said}
use Rattle.changes_text.proofs.put_compared.Goals as goal

pub put_changes-requires : goal.put_changes-requires
put_changes-requires c =
    (rw c.in-Ok.is at (compared-said _ _ _ _ _ _ (search rules) c.listing_changes.ensures)).1

pub returns-in-Ok : goal.returns-in-Ok
returns-in-Ok c =
    let is = rw (c.in-Ok.is, c.sub_function_said-new.ensures, c.sub_function_said-old.ensures) at (compared-said _ _ _ _ _ _ (search rules) c.listing_changes.ensures) in
    put_as c.put_changes.ensures is.2 (omega (arith, is.0))

pub returns-in-Err : goal.returns-in-Err
returns-in-Err c =
    let is = rw (c.in-Err.is, c.sub_function_said-new.ensures, c.sub_function_said-old.ensures) at (compared-said _ _ _ _ _ _ (search rules) c.listing_changes.ensures) in
    put_as c.put_refused.ensures is (lit≤ tt)
