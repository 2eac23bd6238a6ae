-- The record of the next trouble code.
-- Assumes nothing.
use mathlib.Core.Path.{◌≡◌, sym, ap, ◌∙◌}
use Prim.Native.Nat.{ℕ}
use mathlib.Core.List.{List}
use lib.ListN.{length}
use Rattle.std.specs.Prelude.{Option, Some, None, Result, Ok, Err}
use Rattle.paper.specs.TroubleCode.{next_trouble_code}
use Rattle.wire.specs.Refusals.{row}
use Rattle.wire.proofs.Unique.{tail_back}
use Rattle.dtc.specs.Status.{NextRight}
use Rattle.dtc.specs.declared.status.DtcRecord.{DtcRecord}
use Rattle.wire.specs.declared.refusal.Refusal.{Refusal}
use Rattle.station.specs.Records.{next_record, refused_next}
use Rattle.station.specs.Flat.{RecordOf, found_next, accepted_next}
use Rattle.station.specs.declared.records.NextTroubleCodeRecord.{NextTroubleCodeRecord}

-- the record of an answer at the start of the buffer that is right is that of the paper's
pub next_flat : (s : List ℕ) (a : Result (Option (DtcRecord × ℕ)) Refusal) {r : NextTroubleCodeRecord}
    → NextRight s 0 a → RecordOf (λ n r. r ≡ accepted_next n) (λ e r. r ≡ refused_next (row e)) a r → r ≡ next_record (length s) (next_trouble_code s)
next_flat s (Ok None) right is = is ∙ ap (next_record (length s)) right.paper
next_flat s (Ok (Some (c, tail))) right is = is ∙ sym (ap (found_next c) (tail_back s tail right.place.1)) ∙ ap (next_record (length s)) right.paper
next_flat s (Err e) right is = is ∙ ap (next_record (length s)) right.paper
