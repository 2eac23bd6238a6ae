-- A text that grows from left to right in a lent buffer.
use Rattle.std.specs.Prelude.{◌≡◌, ℕ, ◌+◌, List, [], ◌∷◌, ◌++◌, length, take, replicate, leb}
use Rattle.io.specs.Counts.{IsPrefixLen}
use Rattle.io.specs.Digits.{last_digits}
use Rattle.paper.specs.Choice.{pick, both}
use Rattle.paper.specs.Answer.{Refusal, Answer, accepted, refused, over}
use Rattle.paper.specs.ReadingProgram.{ascii, decimal}

-- how many bytes the text has, and what the buffer holds, at whose front it stands
pub record Text : Type 0 where
  pub long : ℕ
  pub held : List ℕ

abbrev pub text : ℕ → List ℕ → Text
text n held = record { long = n; held = held }

-- what a function that was lent the buffer promises: it answers how long the text is, and leaves it in the buffer, inside which it ends
pub record Stands (t : Text) (r : ℕ) (new : List ℕ) : Type 0 where
  pub right : text r new ≡ t
  pub counts : IsPrefixLen r new

-- a text of one letter, where the buffer has room for it
unfoldable pub begun : ℕ → List ℕ → Text
begun letter held = pick (leb 1 (length held)) (text 1 (over (letter ∷ []) held)) (text 0 held)

-- the bytes after the text; where there is no room for them the text is given up, and so it stays
unfoldable pub add : List ℕ → Text → Text
add bytes t =
    pick (both (leb 1 t.long) (leb (t.long + length bytes) (length t.held)))
    (text (t.long + length bytes) (over (take t.long t.held ++ bytes) t.held))
    (text 0 t.held)

-- one after the other, the first one first
unfoldable pub each : (ℕ → Text → Text) → List ℕ → Text → Text
each f [] t = t
each f (n ∷ others) t = each f others (f n t)

-- a number in decimal, after a space
unfoldable pub add_number : ℕ → Text → Text
add_number n t = add (decimal n) (add (ascii " ") t)

-- numbers in decimal, each after a space; a text that is longer than its buffer is given up
abbrev pub add_numbers : List ℕ → Text → Text
add_numbers ns t = each add_number ns (add [] t)

-- a byte in two hexadecimal digits
unfoldable pub add_byte : ℕ → Text → Text
add_byte b t = add (last_digits 16 2 b) t

-- bytes in hexadecimal, after a space; a dash where there are none
unfoldable pub add_hex : List ℕ → Text → Text
add_hex [] t = add (ascii " -") t
add_hex (b ∷ others) t = each add_byte (b ∷ others) (add (ascii " ") t)

-- a refusal, and so many zeros for what was not read
unfoldable pub add_refused : Refusal → ℕ → Text → Text
add_refused e zeros t = each add_number (replicate zeros 0) (add_numbers (e.number ∷ e.first ∷ e.second ∷ []) t)

-- what a writer answers: no refusal and how many bytes it wrote, or the refusal
abbrev pub add_written : Answer ℕ → Text → Text
add_written (accepted n) t = add_numbers (0 ∷ 0 ∷ 0 ∷ n ∷ []) t
add_written (refused e) t = add_refused e 1 t
