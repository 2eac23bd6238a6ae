-- `changes_text::line::put_entry` meets its contract: one of the three lines, by the entry's number.
use mathlib.Core.Path.{refl}
use borrow.Author.Tests.{ne_eqb}
use borrow.Author.Rules.{rules}
use lib.Dec.{lit≤}
use Rattle.form.proofs.Grown.{put_as}
use Rattle.changes_text.proofs.line.put_entry.Goals as goal

pub returns-in-1 : goal.returns-in-1
returns-in-1 c = rw c.in-1.is (put_as c.put_one.ensures refl (lit≤ tt))

pub returns-in-2 : goal.returns-in-2
returns-in-2 c = rw c.in-2.is c.put_both.ensures

pub returns-in_default : goal.returns-in_default
returns-in_default c =
    rw (ne_eqb c.args.kind 1 (search rules), ne_eqb c.args.kind 2 (search rules)) (put_as c.put_one-in_default.ensures refl (lit≤ tt))
