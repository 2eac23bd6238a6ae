-- `step_by_ranges` meets its contract: ASCII is valid, or a character is, by the law of each first byte.
use Rattle.std.proofs.Common.{◌∙◌, arith}
use Rattle.paper.proofs.Utf8.{lead_none_low, lead_2, lead-E0, lead-ED, lead-F0, lead_f1, lead-F4, lead_none_high}
use Rattle.utf8.proofs.Character.{led, by_lead, lead_3}
use Rattle.utf8.proofs.Longest.{nothing_left, run_step, character_step}
use Rattle.utf8.proofs.by_ranges.step_by_ranges.Goals as goal

pub returns-in_default : goal.returns-in_default
returns-in_default c = nothing_left _ c.in_default.ensures.value

pub returns-in-0-to-127 : goal.returns-in-0-to-127
returns-in-0-to-127 c = run_step (led _ c.in-Some.ensures.value) (omega arith) c.ascii_run.ensures

pub returns-in-194-to-223 : goal.returns-in-194-to-223
returns-in-194-to-223 c = character_step (c.sized-in-194-to-223.ensures ∙ by_lead _ (led _ c.in-Some.ensures.value) (lead_2 (omega arith, omega arith) _))

pub returns-in-224 : goal.returns-in-224
returns-in-224 c = character_step (c.sized.ensures ∙ by_lead _ (led _ c.in-Some.ensures.value) (lead-E0 (omega arith, omega arith) _))

pub returns-in-237 : goal.returns-in-237
returns-in-237 c = character_step (c.sized-in-237.ensures ∙ by_lead _ (led _ c.in-Some.ensures.value) (lead-ED (omega arith, omega arith) _))

pub returns-in-225-to-239 : goal.returns-in-225-to-239
returns-in-225-to-239 c = character_step (c.sized-in-225-to-239.ensures ∙ by_lead _ (led _ c.in-Some.ensures.value) (lead_3 (omega arith, omega arith) (λ e. absurd (omega arith)) _))

pub returns-in-240 : goal.returns-in-240
returns-in-240 c = character_step (c.sized-in-240.ensures ∙ by_lead _ (led _ c.in-Some.ensures.value) (lead-F0 (omega arith, omega arith) _))

pub returns-in-241-to-243 : goal.returns-in-241-to-243
returns-in-241-to-243 c = character_step (c.sized-in-241-to-243.ensures ∙ by_lead _ (led _ c.in-Some.ensures.value) (lead_f1 (omega arith, omega arith) _))

pub returns-in-244 : goal.returns-in-244
returns-in-244 c = character_step (c.sized-in-244.ensures ∙ by_lead _ (led _ c.in-Some.ensures.value) (lead-F4 (omega arith, omega arith) _))

pub returns-in_default-lead : goal.returns-in_default-lead
returns-in_default-lead c = character_step (by_lead _ (led _ c.in-Some.ensures.value) (lead_none_low (omega arith, omega arith) _))

pub returns-in_default-lead-2 : goal.returns-in_default-lead-2
returns-in_default-lead-2 c = character_step (by_lead _ (led _ c.in-Some.ensures.value) (lead_none_high (omega arith) _))
