-- The paper's sort for each of the code's, and what an answer about a word says.
use Rattle.std.specs.Prelude.{◌≡◌, ℕ, List, Option, Some, None}
use Rattle.paper.specs.ReadingProgram.{ascii}
use Rattle.paper.specs.WhyProgram as paper
use Rattle.paper.specs.WhyProgram.{request, response, word_of}
use Rattle.reason_line.specs.declared.sort.Sort.{Sort}

abbrev pub sort_said : Sort → paper.Sort
sort_said Sort.Request = request
sort_said Sort.Response = response

-- the word is that of the sort; or it is no sort's
abbrev pub NamedRight : List ℕ → Option Sort → Type 0
NamedRight word (Some sort) = word ≡ ascii (word_of (sort_said sort))
NamedRight word None = (sort : paper.Sort) → word ≡ ascii (word_of sort) → ⊥
