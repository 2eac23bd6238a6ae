-- A text that grows from left to right in a lent buffer, letter by letter. A letter for which there is no room is left out.
use Rattle.std.specs.Prelude.{◌≡◌, ℕ, suc, ◌+◌, ◌≤◌, List, [], ◌∷◌, length, set, ltb}
use Rattle.paper.specs.Choice.{pick}

-- how many bytes the text has, and what the buffer holds, at whose front it stands
pub record Text : Type 0 where
  pub long : ℕ
  pub held : List ℕ

abbrev pub text : ℕ → List ℕ → Text
text n held = record { long = n; held = held }

-- one letter after the text, where the buffer goes on
unfoldable pub with : ℕ → Text → Text
with letter t = pick (ltb t.long (length t.held)) (text (suc t.long) (set t.held t.long letter)) t

-- the bytes after the text, one by one
unfoldable pub grown : List ℕ → Text → Text
grown [] t = t
grown (b ∷ others) t = grown others (with b t)

-- what a function that was lent the buffer promises: after the first `at` bytes of it the bytes were added, at most `most`; it answers how long the text is then
pub record Grew (bytes : List ℕ) (most at : ℕ) (old : List ℕ) (r : ℕ) (new : List ℕ) : Type 0 where
  pub right : text r new ≡ grown bytes (text at old)
  pub bound : r ≤ at + most
