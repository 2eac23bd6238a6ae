-- `joined_requests::count_pieces` meets its contract: all pieces were found, one is refused, or one more was found.
use mathlib.Core.Path.{◌≡◌}
use native.Mathlib.Omega.{arith}
use lib.ListN.{length-drop}
use Rattle.joined_requests.proofs.Pieces.{walk_begins, walk_on, counted-all, counted-most, counted-refused}
use Rattle.joined_requests.proofs.count_pieces.Goals as goal

pub loop-found-init : goal.loop-found-init
loop-found-init c = walk_begins c.args.buffer.now

pub returns-then-at-buffer : goal.returns-then-at-buffer
returns-then-at-buffer c = counted-all c.loop-found.invariant (omega arith)

pub overflow_add-at : goal.overflow_add-at
overflow_add-at c = let piece = c.in-Ok.ensures in omega (arith, piece.within, length-drop c.loop-found.at c.args.buffer.now)

pub returns-in-Err : goal.returns-in-Err
returns-in-Err c = counted-refused c.loop-found.invariant _ (omega arith) (omega arith) c.in-Err.ensures

pub loop-found-preserved : goal.loop-found-preserved
loop-found-preserved c = walk_on c.loop-found.invariant (omega arith) (omega arith) c.in-Ok.ensures

pub returns-then-at-buffer-2 : goal.returns-then-at-buffer-2
returns-then-at-buffer-2 c = let all : c.loop-found.found ≡ 4096 = omega arith in rw all at (counted-most c.loop-found.invariant c.if-at-buffer-2.true all)

pub returns : goal.returns
returns c = let all : c.loop-found.found ≡ 4096 = omega arith in rw all at (counted-all c.loop-found.invariant c.if-at-buffer-2.false)
