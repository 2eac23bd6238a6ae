-- `form::hex_digit` meets its contract: the test is the paper's.
use borrow.Author.Tests.{lt-ltb, le-ltb}
use Rattle.form.proofs.hex_digit.Goals as goal

pub returns-then-n-lt10 : goal.returns-then-n-lt10
returns-then-n-lt10 c = rw (lt-ltb _ 10 c.if-n-lt10.true)

pub returns-else-n-lt10 : goal.returns-else-n-lt10
returns-else-n-lt10 c = rw (le-ltb _ 10 c.if-n-lt10.false)
