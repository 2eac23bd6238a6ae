-- A single character of more than one byte.
use Rattle.std.specs.Prelude.{ℕ, suc, ◌<◌, ◌≡◌, List, length, get_or, drop}
use Rattle.paper.specs.Choice.{pick}
use Rattle.paper.specs.Utf8.{begins}

-- s begins with the byte a
pub record Lead (a : ℕ) (s : List ℕ) : Type 0 where
  pub some : 0 < length s
  pub is : a ≡ get_or s 0 0

-- the length of a character whose bytes after the first are in these ranges, where they are so in s, else 0
abbrev pub sized : List (ℕ × ℕ) → List ℕ → ℕ
sized rs s = pick (begins rs (drop 1 s)) (suc (length rs)) 0
