-- Bytes, and numbers in bytes, high first.
use Rattle.std.specs.Prelude.{ℕ, zero, suc, ◌+◌, ◌*◌, ◌/◌, ◌%◌, ◌^◌, ◌<◌, List, [], ◌∷◌, length}

-- each element is a byte, as in every slice of the code
abbrev pub Bytes : List ℕ → Type 0
Bytes [] = Unit {0}
Bytes (b ∷ s) = (b < 256) × Bytes s

-- the number that some bytes stand for, high first
unfoldable pub of_bytes : List ℕ → ℕ
of_bytes [] = 0
of_bytes (b ∷ s) = b * 256 ^ length s + of_bytes s

-- a number in w bytes, high first
unfoldable pub to_bytes : ℕ → ℕ → List ℕ
to_bytes zero n = []
to_bytes (suc w) n = n / 256 ^ w ∷ to_bytes w (n % 256 ^ w)
