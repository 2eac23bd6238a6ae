-- The text about an accepted request, put together from its fields.
-- Assumes nothing.
use mathlib.Core.Path.{◌≡◌}
use Prim.Native.Nat.{ℕ}
use mathlib.Core.List.{List, ◌++◌, append_assoc}
use Rattle.paper.specs.ReadingProgram.{Shown, decimal, ascii, shown_text, text_of, good}
use Rattle.request_line.specs.Text.{front}

-- eleven parts, regrouped
eleven : (a b c d e f g h i j k : List ℕ)
    → ((((((a ++ b) ++ (c ++ d)) ++ e) ++ f) ++ (g ++ h)) ++ (i ++ j)) ++ k ≡ a ++ (b ++ (c ++ (d ++ (e ++ (f ++ (g ++ (h ++ (i ++ (j ++ k)))))))))
eleven a b c d e f g h i j k = simp append_assoc

-- the fields of an accepted request are its text
pub good-is : (k n : ℕ) (f : Shown) (m l : ℕ)
    → ((front k n f ++ (ascii " normal " ++ decimal m)) ++ (ascii " left " ++ decimal l)) ++ ascii "\n" ≡ text_of (good k n f m l)
unfolding text_of
good-is k n f m l = eleven (ascii "accepted kind ") (decimal k) (ascii " name ") (decimal n) (ascii " format ") (shown_text f) (ascii " normal ") (decimal m) (ascii " left ") (decimal l) (ascii "\n")
