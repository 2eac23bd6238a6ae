-- `unfinished` meets its contract: the same tests in the same order.
use borrow.Author.Tests.{le-leb, lt-leb}
use Rattle.utf8.specs.Fit.{unfinished_of}
use Rattle.utf8.proofs.blocks.unfinished.Goals as goal

pub returns-then-c-ge192-clause-value : goal.returns-then-c-ge192-clause-value
unfolding unfinished_of
returns-then-c-ge192-clause-value c = simp (le-leb 0xC0 _ c.if-c-ge192.true)

pub returns-then-b-ge224-clause-value : goal.returns-then-b-ge224-clause-value
unfolding unfinished_of
returns-then-b-ge224-clause-value c = simp (lt-leb 0xC0 _ c.if-c-ge192.false, le-leb 0xE0 _ c.if-b-ge224.true)

pub returns-then-a-ge240-clause-value : goal.returns-then-a-ge240-clause-value
unfolding unfinished_of
returns-then-a-ge240-clause-value c = simp (lt-leb 0xC0 _ c.if-c-ge192.false, lt-leb 0xE0 _ c.if-b-ge224.false, le-leb 0xF0 _ c.if-a-ge240.true)

pub returns-clause-value : goal.returns-clause-value
unfolding unfinished_of
returns-clause-value c = simp (lt-leb 0xC0 _ c.if-c-ge192.false, lt-leb 0xE0 _ c.if-b-ge224.false, lt-leb 0xF0 _ c.if-a-ge240.false)
