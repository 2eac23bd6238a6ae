-- `ends_in_ascii` meets its contract: what is asked of the last bytes is asked of s.
use Rattle.std.proofs.Common.{arith}
use Rattle.utf8.proofs.Ascii.{ascii_end}
use Rattle.utf8.proofs.blocks.ends_in_ascii.Goals as goal

pub returns : goal.returns
returns c = let x = c.args in λ e. ascii_end x.s.now x.size (omega arith) (c.all_ascii.ensures.0 e)
