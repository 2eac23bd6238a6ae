-- What is printed of an import: the stream's name, and what goes there.
use Rattle.std.specs.Prelude.{ℕ, List, ◌++◌, codes}
use Rattle.paper.specs.ListingProgram.{Printed, to_output, to_error}

abbrev pub shown : Printed → List ℕ
shown (to_output s) = codes " to standard output:\n" ++ (s ++ codes "\n")
shown (to_error s) = codes " to standard error:\n" ++ s
