-- What the writers of a text promise.
use Rattle.std.specs.Prelude.{◌≡◌, ℕ, ◌≤◌, List, [], ◌++◌, leb, length}
use Rattle.paper.specs.Choice.{pick}
use Rattle.paper.specs.Answer.{accepted, written}
use Rattle.paper.specs.ReadingProgram.{decimal}
use Rattle.wire.specs.Writing.{Filled}

-- the text has n bytes, and stands over the front of the room where it fits; where it does not, nothing changes
pub record Laid (bytes : List ℕ) (n : ℕ) (old new : List ℕ) : Type 0 where
  pub counted : n ≡ length bytes
  pub contents : new ≡ (written (accepted bytes) old).contents

-- what a caller that lends room enough needs of it: the bytes stand at the start; they are n, at most `most`
abbrev pub Put : (bytes : List ℕ) (n most : ℕ) (old new : List ℕ) → Type 0
Put bytes n most old new = (n ≡ length bytes) × (n ≤ most) × Filled bytes old new

-- a word of at most 64 letters, and a number in decimal after it
abbrev pub field : List ℕ → ℕ → List ℕ
field word n = pick (leb (length word) 64) (word ++ decimal n) []
