-- `line_at` meets its contract: the code, and the status behind the space.
use mathlib.Core.Path.{refl}
use native.Mathlib.Omega.{arith}
use Rattle.code_text.proofs.Texts.{shorter}
use Rattle.code_text.proofs.lines.line_at.Goals as goal

pub code_at-requires : goal.code_at-requires
code_at-requires c = shorter c.requires 8 (omega arith)

pub digit-requires : goal.digit-requires
digit-requires c = shorter c.requires 10 (omega arith)

pub digit-requires-2 : goal.digit-requires-2
digit-requires-2 c = shorter c.requires 11 (omega arith)

pub returns : goal.returns
returns c = rw (c.from_bits.ensures, c.code_at.ensures, c.from_bits-2.ensures, c.digit.ensures.value, c.digit-2.ensures.value) refl
