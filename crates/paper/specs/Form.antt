-- Forms: how the texts of document 02's programs are said where they hold many numbers. A form is a text with blanks, each a `_`; filled in, each
-- blank is a number in decimal, the numbers in their order.
use Rattle.std.specs.Prelude.{ℕ, List, [], ◌∷◌, ◌++◌, drop, eqb}
use Prim.Native.Char.{code}
use Rattle.paper.specs.Choice.{pick}
use Rattle.paper.specs.ReadingProgram.{decimal}

-- the first of some numbers, in decimal; nothing where there is none
abbrev pub first_of : List ℕ → List ℕ
first_of [] = []
first_of (n ∷ others) = decimal n

-- what a letter of a form stands for: a blank for the next number, any other for itself
abbrev pub shown_as : (letter : ℕ) → (numbers : List ℕ) → List ℕ
shown_as letter numbers = pick (eqb letter (code "_")) (first_of numbers) (letter ∷ [])

-- the numbers that are left after it
abbrev pub left_after : (letter : ℕ) → (numbers : List ℕ) → List ℕ
left_after letter numbers = pick (eqb letter (code "_")) (drop 1 numbers) numbers

unfoldable pub filled_in : (form numbers : List ℕ) → List ℕ
filled_in [] numbers = []
filled_in (letter ∷ others) numbers = shown_as letter numbers ++ filled_in others (left_after letter numbers)
