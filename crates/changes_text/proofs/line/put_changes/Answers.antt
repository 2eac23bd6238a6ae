-- `changes_text::line::put_changes` meets its contract: no entry, or the lines of all.
use mathlib.Core.Path.{refl}
use native.Mathlib.Omega.{arith}
use borrow.Author.Tests.{ne_eqb}
use Rattle.form.proofs.Grown.{put_as}
use Rattle.changes_text.proofs.line.put_changes.Goals as goal

pub returns-then-n-eq0 : goal.returns-then-n-eq0
returns-then-n-eq0 c = rw c.if-n-eq0.true (put_as c.put.ensures refl (omega arith))

pub returns : goal.returns
returns c = rw (ne_eqb _ _ c.if-n-eq0.false) (put_as c.put_lines.ensures refl (omega arith))
