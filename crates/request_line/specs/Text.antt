-- The front half of the text about an accepted request.
use Rattle.std.specs.Prelude.{ℕ, List, ◌++◌}
use Rattle.paper.specs.ReadingProgram.{Shown, decimal, ascii, shown_text}

-- `accepted kind K name N format F`
abbrev pub front : ℕ → ℕ → Shown → List ℕ
front k n f = (((ascii "accepted kind " ++ decimal k) ++ (ascii " name " ++ decimal n)) ++ ascii " format ") ++ shown_text f
