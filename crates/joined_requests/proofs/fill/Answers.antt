-- `joined_requests::fill` meets its contract: the length of a piece more, and all lengths.
use native.Mathlib.Omega.{arith}
use lib.ListN.{drop}
use Rattle.joined_requests.proofs.Fills.{fill_begins, fill_ends, fill_never, fill_on, is_length}
use Rattle.joined_requests.proofs.fill.Goals as goal

pub loop-i-init : goal.loop-i-init
loop-i-init c = let a = c.args in fill_begins a.buffer.now a.lengths.now

pub unwrap-length-requires : goal.unwrap-length-requires
unwrap-length-requires c =
    is_length (drop c.loop-i.start c.args.buffer.now) c.piece_at.result c.piece_at.ensures (fill_never c.requires.fits c.loop-i.invariant (omega (arith, c.requires.all)))

pub loop-i-preserved : goal.loop-i-preserved
loop-i-preserved c = fill_on c.requires.fits c.loop-i.invariant (omega (arith, c.requires.all)) (rw c.unwrap-length.ensures at c.piece_at.ensures)

pub returns : goal.returns
returns c = fill_ends c.requires.fits c.loop-i.invariant (omega arith)
