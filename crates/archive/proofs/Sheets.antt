-- The record of a sheet that is right.
-- Assumes nothing.
use mathlib.Core.Path.{◌≡◌, refl, sym, ap, ◌∙◌}
use Prim.Native.Nat.{ℕ}
use mathlib.Core.List.{List}
use lib.ListN.{replicate}
use Rattle.std.specs.Prelude.{Result, Ok, Err}
use Rattle.paper.specs.Answer.{Refusal, Answer, accepted, refused}
use Rattle.paper.specs.Tally.{table_of, verdict}
use Rattle.paper.proofs.Choice.{never}
use Rattle.wire.specs.Refusals.{row}
use Rattle.tally.specs.Judged.{judged}
use Rattle.tally.specs.Sheet.{cells_of, SheetRight}
use Rattle.wire.specs.declared.refusal.Refusal as wire
use Rattle.tally.specs.declared.sheet.Sheet.{Sheet}
use Rattle.archive.specs.Sheets.{tally_record}
use Rattle.archive.specs.Sheets.{flat_verdict, flat_sheet}

-- the cells of a refused sheet are 0
zeros : (e : Refusal) → cells_of (table_of (refused e)) ≡ replicate 120 0
unfolding cells_of
zeros e = refl

by_verdict : (a : Answer (List (List ℕ))) (v : Result (Unit {0}) wire.Refusal) {cells : List ℕ} → judged v ≡ verdict a → cells ≡ cells_of (table_of a) → flat_verdict v cells ≡ tally_record a
by_verdict (accepted t) (Ok u) h e = ap (flat_verdict (Ok u)) e
by_verdict (accepted t) (Err q) h e = absurd (never h)
by_verdict (refused r) (Ok u) h e = absurd (never (sym h))
by_verdict (refused r) (Err q) {cells} h e = let same : row q ≡ r = cc in rw (e ∙ zeros r, same) refl

pub sheet_flat : (a : Answer (List (List ℕ))) (r : Sheet) → SheetRight a r → flat_sheet r ≡ tally_record a
sheet_flat a r h = by_verdict a r.verdict h.verdict h.cells
