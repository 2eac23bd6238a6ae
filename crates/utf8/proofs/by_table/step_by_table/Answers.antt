-- `step_by_table` meets its contract: ASCII is valid, or a character is, as long as its lead byte's class says, and a run of such ones.
use Rattle.utf8.proofs.Character.{led}
use Rattle.utf8.proofs.Longest.{nothing_left, run_step, character_step}
use Rattle.utf8.proofs.LeadBytes.{first_character, begins-with}
use Rattle.utf8.proofs.by_table.step_by_table.Goals as goal

pub returns-in_default : goal.returns-in_default
returns-in_default c = nothing_left _ c.in_default.ensures.value

pub returns-then-lead-lt128 : goal.returns-then-lead-lt128
returns-then-lead-lt128 c = run_step (led _ c.in-Some.ensures.value) c.if-lead-lt128.true c.ascii_run.ensures

pub returns-in_default-class_of : goal.returns-in_default-class_of
returns-in_default-class_of c = character_step (first_character _ (begins-with (led _ c.in-Some.ensures.value) c.class_of.ensures) c.of_class.ensures)
