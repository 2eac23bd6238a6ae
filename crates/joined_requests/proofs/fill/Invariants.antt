-- `joined_requests::fill` meets its contract. The loop's invariant: so many pieces end at the place, and their lengths stand at the front of the list.
use Rattle.joined_requests.proofs.Fills.{Filling}
use Rattle.joined_requests.proofs.fill.Given as goal

abbrev pub invariant-loop-i : goal.invariant-loop-i
invariant-loop-i l = Filling l.buffer l.initial.lengths l.lengths l.start l.i
