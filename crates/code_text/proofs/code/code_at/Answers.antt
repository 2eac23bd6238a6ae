-- `code_at` meets its contract: each number where it stands in a code.
use mathlib.Core.Path.{refl, ◌∙◌}
use native.Mathlib.Omega.{arith}
use Rattle.code_text.proofs.Texts.{shorter}
use Rattle.code_text.proofs.code.code_at.Goals as goal

pub digit-requires : goal.digit-requires
digit-requires c = shorter c.requires 1 (omega arith)

pub digit-requires-2 : goal.digit-requires-2
digit-requires-2 c = shorter c.requires 2 (omega arith)

pub digit-requires-3 : goal.digit-requires-3
digit-requires-3 c = shorter c.requires 3 (omega arith)

pub digit-requires-4 : goal.digit-requires-4
digit-requires-4 c = shorter c.requires 4 (omega arith)

pub digit-requires-5 : goal.digit-requires-5
digit-requires-5 c = shorter c.requires 5 (omega arith)

pub digit-requires-6 : goal.digit-requires-6
digit-requires-6 c = shorter c.requires 7 (omega arith)

pub digit-requires-7 : goal.digit-requires-7
digit-requires-7 c = shorter c.requires 8 (omega arith)

pub returns : goal.returns
returns c = c.new.ensures ∙ rw (c.digit.ensures.value, c.digit-2.ensures.value, c.digit-3.ensures.value, c.digit-4.ensures.value, c.digit-5.ensures.value, c.digit-6.ensures.value, c.digit-7.ensures.value) refl
