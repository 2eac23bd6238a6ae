-- `code_text::character::hex_place` meets its contract: the digits stand ten in a row in ASCII, and the letters six.
use borrow.Author.Rules.{rules}
use native.Mathlib.Omega.{arith}
use Rattle.code_text.proofs.Rows.{digit-place, letter_place, no_hex}
use Rattle.code_text.proofs.character.hex_place.Goals as goal

pub returns-then-c-lt48 : goal.returns-then-c-lt48
returns-then-c-lt48 c = no_hex _ (λ j h e. omega arith) (λ j h e. omega arith)

pub returns-then-c-le57 : goal.returns-then-c-le57
returns-then-c-le57 c = digit-place _ (search rules) (search rules)

pub returns-then-c-lt65 : goal.returns-then-c-lt65
returns-then-c-lt65 c = no_hex _ (λ j h e. omega arith) (λ j h e. omega arith)

pub returns-then-c-le70 : goal.returns-then-c-le70
returns-then-c-le70 c = letter_place _ (search rules) (search rules)

pub returns : goal.returns
returns c = no_hex _ (λ j h e. omega arith) (λ j h e. omega arith)
