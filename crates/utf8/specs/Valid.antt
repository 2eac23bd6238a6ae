-- What is promised of the bytes that are passed: a valid beginning of the text.
use Rattle.std.specs.Prelude.{ℕ, ◌≤◌, ◌≡◌, List, length, take}
use Rattle.paper.specs.Utf8.{Utf8, char_length}

-- the first n bytes of s are UTF-8
pub record Valid (s : List ℕ) (n : ℕ) : Type 0 where
  pub within : n ≤ length s
  pub good : Utf8 (take n s)

-- they are, and there are some where a character begins s
pub record Step (s : List ℕ) (n : ℕ) : Type 0 where
  pub valid : Valid s n
  pub stuck : n ≡ 0 → char_length s ≡ 0

-- whatever a step of this kind passes of a text is such a step
abbrev pub MakesSteps : (List ℕ → ℕ → Type 0) → Type 0
MakesSteps passes = (s : List ℕ) (n : ℕ) → passes s n → Step s n
