-- `joined_requests::count_pieces` meets its contract. The loop's invariant: so many pieces end at the place, and the rest has the others.
use Rattle.joined_requests.proofs.Pieces.{Walk}
use Rattle.joined_requests.proofs.count_pieces.Given as goal

abbrev pub invariant-loop-found : goal.invariant-loop-found
invariant-loop-found l = Walk l.buffer l.at l.found
