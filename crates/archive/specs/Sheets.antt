-- What the record of a sheet of refusals holds: number, first and second of a refusal, else 0, 0, 0, and the cells, all 0 beside a refusal.
use Rattle.std.specs.Prelude.{ℕ, List, replicate, Result, Ok, Err}
use Rattle.paper.specs.Answer.{Answer, accepted, refused}
use Rattle.wire.specs.Refusals.{row}
use Rattle.wire.specs.declared.refusal.Refusal.{Refusal}
use Rattle.tally.specs.Sheet.{cells_of}
use Rattle.tally.specs.declared.sheet.Sheet.{Sheet}
use Rattle.archive.specs.declared.sheet.TallyRecord.{TallyRecord}

abbrev pub tally_record : Answer (List (List ℕ)) → TallyRecord
tally_record (accepted t) = record { number = 0; first = 0; second = 0; cells = cells_of t }
tally_record (refused e) = record { number = e.number; first = e.first; second = e.second; cells = replicate 120 0 }

-- ---- the record of the code's sheet
-- the cells beside a verdict
abbrev pub flat_verdict : Result (Unit {0}) Refusal → List ℕ → TallyRecord
flat_verdict (Ok counted) cells = record { number = 0; first = 0; second = 0; cells = cells }
flat_verdict (Err e) cells = record { number = (row e).number; first = (row e).first; second = (row e).second; cells = cells }

abbrev pub flat_sheet : Sheet → TallyRecord
flat_sheet a = flat_verdict a.verdict a.cells
