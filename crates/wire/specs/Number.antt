-- Fields of one byte and of eight.
use Rattle.std.specs.Prelude.{ℕ, List}
use Rattle.paper.specs.Answer.{Reader}
use Rattle.paper.specs.Field.{byte, number}
use Rattle.wire.specs.Reading.{Seen, Right, Onwards}

-- a number that means itself, in k bytes
abbrev pub PlainNumberRight : Reader ℕ → ℕ → List ℕ → ℕ → Seen ℕ → Type 0
PlainNumberRight field k s at r = Right ℕ ℕ (λ (n : ℕ). n) field (λ (n next : ℕ). Onwards s at k next) s at r

abbrev pub ByteRight : List ℕ → ℕ → Seen ℕ → Type 0
ByteRight s at r = PlainNumberRight byte 1 s at r

abbrev pub EightRight : List ℕ → ℕ → Seen ℕ → Type 0
EightRight s at r = PlainNumberRight (number 8) 8 s at r
