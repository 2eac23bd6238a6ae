-- `first_wrong` meets its contract: every character before place i can stand where it is.
use Prim.Native.Nat.{ℕ, ◌<◌}
use Rattle.paper.proofs.TextPlaces.{Stands}
use Rattle.code_text.specs.CodeText.{sort_of}
use Rattle.code_text.proofs.place.first_wrong.Given as goal

abbrev pub invariant-loop-i : goal.invariant-loop-i
invariant-loop-i l = (k : ℕ) → k < l.i → Stands (sort_of l.sort) l.text k
