-- `read_code_text` meets its contract: the place at which something can't stand, or the code.
use mathlib.Core.Path.{sym, ap, ◌∙◌}
use Rattle.paper.specs.Answer.{accepted}
use Rattle.paper.proofs.CodeText.{bad-code, whole_code}
use Rattle.code_text.proofs.Texts.{whole-stands}
use Rattle.code_text.proofs.code.read_code_text.Goals as goal

pub code_at-requires : goal.code_at-requires
code_at-requires c = whole-stands c.args.text.now c.in-None.ensures

pub returns-in-Some : goal.returns-in-Some
returns-in-Some c = sym ((bad-code c.args.text.now _).1 c.in-Some.ensures)

pub returns-in-None : goal.returns-in-None
returns-in-None c = ap accepted c.code_at.ensures ∙ sym (whole_code c.args.text.now c.in-None.ensures).1
