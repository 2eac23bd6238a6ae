-- What is told of a file that can't be opened.
use Rattle.std.specs.Prelude.{ℕ, Option, List, [], ◌∷◌, ◌++◌, codes}
use Rattle.std.specs.Io.KnownBytes.{Appends}

-- a line: the path, a colon and words
abbrev pub Tells : (old new : Option (List ℕ)) → List ℕ → Type 0
Tells old new path = (said : List ℕ) × Appends old new (path ++ (codes ": " ++ (said ++ 10 ∷ [])))
