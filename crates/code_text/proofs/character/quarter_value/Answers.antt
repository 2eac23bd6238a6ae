-- `quarter_value` meets its contract: the digits one by one.
use borrow.Author.Tests.{ne_eqb}
use native.Mathlib.Omega.{arith}
use mathlib.Core.Path.{refl}
use Rattle.paper.specs.Listing.{first_place, numbers_from}
use Rattle.paper.specs.CodeText.{code_places, line_places}
use Rattle.code_text.proofs.character.quarter_value.Goals as goal

pub returns-in-48 : goal.returns-in-48
unfolding first_place numbers_from code_places line_places
returns-in-48 c = rw c.in-48.is refl

pub returns-in-49 : goal.returns-in-49
unfolding first_place numbers_from code_places line_places
returns-in-49 c = rw c.in-49.is refl

pub returns-in-50 : goal.returns-in-50
unfolding first_place numbers_from code_places line_places
returns-in-50 c = rw c.in-50.is refl

pub returns-in-51 : goal.returns-in-51
unfolding first_place numbers_from code_places line_places
returns-in-51 c = rw c.in-51.is refl

pub returns-in_default : goal.returns-in_default
unfolding first_place numbers_from code_places line_places
returns-in_default c = rw (ne_eqb c.args.c 48 (λ e. omega arith), ne_eqb c.args.c 49 (λ e. omega arith), ne_eqb c.args.c 50 (λ e. omega arith), ne_eqb c.args.c 51 (λ e. omega arith)) refl
