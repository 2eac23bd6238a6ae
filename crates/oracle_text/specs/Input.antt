-- Numbers in the input of a recorded call.
use Rattle.std.specs.Prelude.{◌≡◌, ℕ, ◌^◌, ◌<◌, List, drop}
use Rattle.paper.specs.Answer.{Answer, accepted, refused, Read, ◌leaving◌}
use Rattle.wire.specs.Group.{uint}
use Rattle.wire.specs.Size.{value}
use Rattle.wire.specs.declared.size.Size.{Size}

-- the number that was read, 0 where none was
abbrev pub number_in : Answer (Read ℕ) → ℕ
number_in (accepted (n leaving tail)) = n
number_in (refused r) = 0

-- the number in w bytes from a position of the input on, high byte first; 0 where they are not there, or no size has so many
abbrev pub number_at : ℕ → ℕ → List ℕ → ℕ
number_at w at input = number_in (uint w (drop at input))

-- two halves that hold the number
pub record SizeIs (n : ℕ) (r : Size) : Type 0 where
  pub number : value r ≡ n
  pub half : r.low < 2 ^ 64
