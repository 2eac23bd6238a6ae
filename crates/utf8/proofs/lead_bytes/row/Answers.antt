-- `row` meets its contract: no entry of its sixteen rows is mistyped, which is computed over all 256. Where one is, the refusal of its row's `tt` ends
-- in `Mistyped` and the lead byte, as `Mistyped 242` for F2.
use Rattle.paper.specs.Utf8.{in_range}
use Rattle.paper.specs.LeadBytes.{class_in, class_of}
use Rattle.utf8.proofs.LeadBytes.{at_row, no_row}
use Rattle.utf8.proofs.lead_bytes.row.Goals as goal

pub returns-in-0 : goal.returns-in-0
unfolding class_of class_in in_range
returns-in-0 c = at_row 0x0 c.in-0.is tt

pub returns-in-1 : goal.returns-in-1
unfolding class_of class_in in_range
returns-in-1 c = at_row 0x1 c.in-1.is tt

pub returns-in-2 : goal.returns-in-2
unfolding class_of class_in in_range
returns-in-2 c = at_row 0x2 c.in-2.is tt

pub returns-in-3 : goal.returns-in-3
unfolding class_of class_in in_range
returns-in-3 c = at_row 0x3 c.in-3.is tt

pub returns-in-4 : goal.returns-in-4
unfolding class_of class_in in_range
returns-in-4 c = at_row 0x4 c.in-4.is tt

pub returns-in-5 : goal.returns-in-5
unfolding class_of class_in in_range
returns-in-5 c = at_row 0x5 c.in-5.is tt

pub returns-in-6 : goal.returns-in-6
unfolding class_of class_in in_range
returns-in-6 c = at_row 0x6 c.in-6.is tt

pub returns-in-7 : goal.returns-in-7
unfolding class_of class_in in_range
returns-in-7 c = at_row 0x7 c.in-7.is tt

pub returns-in-8 : goal.returns-in-8
unfolding class_of class_in in_range
returns-in-8 c = at_row 0x8 c.in-8.is tt

pub returns-in-9 : goal.returns-in-9
unfolding class_of class_in in_range
returns-in-9 c = at_row 0x9 c.in-9.is tt

pub returns-in-10 : goal.returns-in-10
unfolding class_of class_in in_range
returns-in-10 c = at_row 0xA c.in-10.is tt

pub returns-in-11 : goal.returns-in-11
unfolding class_of class_in in_range
returns-in-11 c = at_row 0xB c.in-11.is tt

pub returns-in-12 : goal.returns-in-12
unfolding class_of class_in in_range
returns-in-12 c = at_row 0xC c.in-12.is tt

pub returns-in-13 : goal.returns-in-13
unfolding class_of class_in in_range
returns-in-13 c = at_row 0xD c.in-13.is tt

pub returns-in-14 : goal.returns-in-14
unfolding class_of class_in in_range
returns-in-14 c = at_row 0xE c.in-14.is tt

pub returns-in-15 : goal.returns-in-15
unfolding class_of class_in in_range
returns-in-15 c = at_row 0xF c.in-15.is tt

pub returns-in_default : goal.returns-in_default
returns-in_default c = λ h. absurd (no_row c.args.high c.in_default.in_default-own.rest h)
