-- `letter_value` meets its contract: the letters one by one.
use borrow.Author.Tests.{ne_eqb}
use native.Mathlib.Omega.{arith}
use mathlib.Core.Path.{refl}
use Rattle.paper.specs.Listing.{first_place, numbers_from}
use Rattle.paper.specs.CodeText.{code_places, line_places}
use Rattle.code_text.proofs.character.letter_value.Goals as goal

pub returns-in-80 : goal.returns-in-80
unfolding first_place numbers_from code_places line_places
returns-in-80 c = rw c.in-80.is refl

pub returns-in-67 : goal.returns-in-67
unfolding first_place numbers_from code_places line_places
returns-in-67 c = rw c.in-67.is refl

pub returns-in-66 : goal.returns-in-66
unfolding first_place numbers_from code_places line_places
returns-in-66 c = rw c.in-66.is refl

pub returns-in-85 : goal.returns-in-85
unfolding first_place numbers_from code_places line_places
returns-in-85 c = rw c.in-85.is refl

pub returns-in_default : goal.returns-in_default
unfolding first_place numbers_from code_places line_places
returns-in_default c = rw (ne_eqb c.args.c 80 (λ e. omega arith), ne_eqb c.args.c 67 (λ e. omega arith), ne_eqb c.args.c 66 (λ e. omega arith), ne_eqb c.args.c 85 (λ e. omega arith)) refl
