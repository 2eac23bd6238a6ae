-- What the reader of a trouble code answers at a place of a message, and the reader of the next one, by cases.
-- Assumes nothing.
use mathlib.Core.Path.{◌≡◌, ap, ◌∙◌}
use Prim.Native.Nat.{ℕ, ◌+◌, ◌-◌, ◌≤◌, ◌<◌}
use mathlib.Core.List.{List}
use native.Mathlib.Nat.{add-zero}
use native.Mathlib.Omega.{arith}
use lib.ListN.{length, get_or, take, drop}
use lib.Seq.{drop-cons, get_or-drop, get_or-take}
use Rattle.std.specs.Prelude.{Some, Ok, Err}
use Rattle.paper.specs.Answer.{accepted, refused, too_short, ◌leaving◌, give}
use Rattle.paper.specs.Field.{part}
use Rattle.paper.specs.TroubleCode.{trouble_code, wire_size, read_trouble_code, as_next, next_trouble_code}
use Rattle.paper.proofs.Places.{on, off, part-short, part_there}
use Rattle.wire.specs.declared.refusal.Refusal.{Refusal}
use Rattle.dtc.specs.Status.{RecordRight, NextRight}
use Rattle.dtc.specs.declared.status.DtcRecord.{DtcRecord}

module _ (s : List ℕ) (at : ℕ) where
  -- fewer than three bytes are left
  pub record_short : (room : ℕ) → room ≡ length s - at → room < wire_size → refused (too_short wire_size room) ≡ read_trouble_code (drop at s)
  unfolding read_trouble_code
  record_short room e h = off (part wire_size) _ (drop at s) (part-short s at wire_size room e h)

  -- byte i of the part
  nth : (i : ℕ) → i < wire_size → get_or (take wire_size (drop at s)) i 0 ≡ get_or s (at + i) 0
  nth i h = get_or-take wire_size (drop at s) i 0 h ∙ get_or-drop at s i 0

  -- all three are there
  pub record_there : wire_size ≤ length s - at
      → accepted (trouble_code (get_or s at 0) (get_or s (at + 1) 0) (get_or s (at + 2) 0) leaving drop (at + wire_size) s) ≡ read_trouble_code (drop at s)
  unfolding read_trouble_code give
  record_there h = on (part wire_size) _ (drop at s) (part_there s at wire_size h) (rw (nth 0 (omega arith), add-zero at, nth 1 (omega arith), nth 2 (omega arith)))

  -- ---- the next one
  -- the message has not ended: the next one is as the reader of a record has it
  next-read : at < length s → as_next (read_trouble_code (drop at s)) ≡ next_trouble_code (drop at s)
  next-read h = rw (drop-cons s at 0 h)

  module _ (there : at < length s) where
    -- a record
    pub next_there : {c : DtcRecord} {after : ℕ} → RecordRight s at (Ok (c, after)) → NextRight s at (Ok (Some (c, after)))
    next_there right = record { paper = ap as_next right.paper ∙ next-read there; place = right.place }

    -- a refusal, with which the caller leaves
    pub next-refused : {e : Refusal} → RecordRight s at (Err e) → NextRight s at (Err e)
    next-refused right = record { paper = ap as_next right.paper ∙ next-read there; place = tt }
