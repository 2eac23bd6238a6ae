-- The two halves of what is said after the refusal.
use Rattle.std.specs.Prelude.{ℕ, List, ◌++◌}
use Rattle.paper.specs.ReadingProgram.{decimal, ascii}
use Rattle.paper.specs.Reason.{Field, Fault}
use Rattle.paper.specs.WhyProgram.{called, sentence}

-- `: FIELD at `
abbrev pub place_words : Field → List ℕ
place_words f = ascii ": " ++ (ascii (called f) ++ ascii " at ")

-- `: FIELD at OFFSET`
abbrev pub place_text : Field → ℕ → List ℕ
place_text f o = place_words f ++ decimal o

-- `: SENTENCE` and the line feed
abbrev pub end_text : Fault → List ℕ
end_text f = ascii ": " ++ (ascii (sentence f) ++ ascii "\n")
