-- What is known of a written record, whatever the message: where the byte was known, and where it was not.
-- Assumes nothing.
use Prim.Native.Nat.{ℕ}
use mathlib.Core.Path.{◌≡◌, refl}
use mathlib.Core.List.{List}
use Rattle.std.specs.Prelude.{Result}
use Rattle.paper.specs.Answer.{Refusal, Answer, accepted, refused}
use Rattle.wire.specs.Refusals.{row}
use Rattle.wire.specs.Writing.{told, Wrote}
use Rattle.wire.specs.declared.refusal.Refusal as wire
use Rattle.station.specs.Records.{written_record, WroteRecord}
use Rattle.station.specs.Flat.{RecordOf}
use Rattle.station.proofs.Flats.{flat_said}
use Rattle.station.specs.declared.records.WrittenRecord.{WrittenRecord}

-- the record of a writer's answer
abbrev pub IsWritten : Result ℕ wire.Refusal → WrittenRecord → Type 0
IsWritten = RecordOf (λ n r. r ≡ written_record (accepted n)) (λ e r. r ≡ written_record (refused (row e)))

-- the byte was known, and the message was written
pub wrote_known : {m message : Answer (List ℕ)} {old new : List ℕ} {w : Result ℕ wire.Refusal} {r : WrittenRecord}
    → m ≡ message → Wrote message old w new → IsWritten w r → WroteRecord m old r new
wrote_known {w = w} e h f = rw e (flat_said written_record told w h.answer f, h.contents)

-- the byte was not known, and the buffer was left alone
pub not_known : {m : Answer (List ℕ)} {old : List ℕ} {e : Refusal} {r : WrittenRecord} → m ≡ refused e → r ≡ written_record (refused e) → WroteRecord m old r old
not_known e f = rw e (f, refl)
