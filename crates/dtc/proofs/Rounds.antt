-- There and back: numbers and trouble codes, bytes and groups, bytes and formats, and the questions of a mask and its byte.
-- Assumes nothing.
use mathlib.Core.Path.{◌≡◌, refl, sym, ap, ap₂, ◌∙◌}
use Prim.Native.Nat.{ℕ, ◌≤◌, ◌<◌}
use borrow.Author.Tests.{lt-leb}
use Rattle.std.specs.Prelude.{Result, Ok, Err}
use Rattle.paper.specs.Answer.{Answer, accepted, refused}
use Rattle.paper.specs.Bytes.{Bytes}
use Rattle.paper.specs.TroubleCode.{TroubleCode, number_of, from_number, trouble_code_bytes}
use Rattle.paper.specs.TroubleCode.{test_failed, test_failed_this_operation_cycle, pending_dtc, confirmed_dtc}
use Rattle.paper.specs.TroubleCode.{test_not_completed_since_last_clear, test_failed_since_last_clear, test_not_completed_this_operation_cycle, warning_indicator_requested}
use Rattle.paper.specs.TroubleCode.{dtc_class, maintenance_only, check_at_next_halt, check_immediately}
use Rattle.paper.specs.TroubleCode.{FunctionalGroup, group_of, emissions, safety, legislative, vobd, reserved_group}
use Rattle.paper.specs.TroubleCode.{Format, format_of, sae_j2012_da_format00, iso14229_1, sae_j1939_73, iso11992_4, sae_j2012_da_format04, reserved_format}
use Rattle.paper.proofs.TroubleCode.{number_there, number_back}
use Rattle.wire.proofs.Refusals.{refusal_back, refusal-back}
use Rattle.wire.specs.declared.refusal.Refusal.{Refusal}
use Rattle.dtc.specs.Status.{code_of, number_said, group_byte, group_name, GroupOf, format_byte, format_name, FormatOf}
use Rattle.dtc.specs.declared.status.DtcRecord.{DtcRecord}
use Rattle.dtc.specs.declared.status.FunctionalGroupIdentifier.{FunctionalGroupIdentifier}
use Rattle.dtc.specs.declared.status.DtcFormatIdentifier.{DtcFormatIdentifier}
use Rattle.dtc.proofs.Bits.{bits_determine}

-- ---- numbers and trouble codes
-- the record of a code, and the answer to the paper's
abbrev pub record_of : TroubleCode → DtcRecord
record_of c = record { high_byte = c.high; middle_byte = c.middle; low_byte = c.low }

abbrev pub number_answer : Answer TroubleCode → Result DtcRecord Refusal
number_answer (accepted c) = Ok (record_of c)
number_answer (refused e) = Err (refusal_back e)

-- an answer is found again from what it says
pub answer-again : (r : Result DtcRecord Refusal) → number_answer (number_said r) ≡ r
answer-again (Ok c) = refl
answer-again (Err e) = ap Err (refusal-back e)

-- a number of up to three bytes: what keeps the promise of `from_u32` is a record, and that record has the number
pub from-number : (n : ℕ) (r : Result DtcRecord Refusal) → number_said r ≡ from_number n → n ≤ 0x00FFFFFF → (c : DtcRecord) × (r ≡ Ok c) × (number_of (code_of c) ≡ n)
from-number n r e h =
    let (c, is, has) = number_there n h in
    (record_of c, sym (answer-again r) ∙ ap number_answer (e ∙ is), has)

-- a larger one: it is the refusal with the number
pub above_number : (n : ℕ) (r : Result DtcRecord Refusal) → number_said r ≡ from_number n → 0x00FFFFFF < n → r ≡ Err (Refusal.NoTroubleCode n)
unfolding from_number
above_number n r e h = sym (answer-again r) ∙ ap number_answer e ∙ rw (lt-leb n 0x00FFFFFF h)

-- the number of a record: what keeps the promise of `from_u32` at it is the record
pub back_to_record : (c : DtcRecord) → Bytes (trouble_code_bytes (code_of c)) → (r : Result DtcRecord Refusal) → number_said r ≡ from_number (number_of (code_of c)) → r ≡ Ok c
back_to_record c h r e = sym (answer-again r) ∙ ap number_answer (e ∙ number_back (code_of c) h)

-- ---- bytes and groups
-- the group of a name and a byte
abbrev pub group_at : FunctionalGroup → ℕ → FunctionalGroupIdentifier
group_at emissions b = FunctionalGroupIdentifier.EmissionsSystemGroup
group_at safety b = FunctionalGroupIdentifier.SafetySystemGroup
group_at legislative b = FunctionalGroupIdentifier.LegislativeSystemGroup (record { 0 = b })
group_at vobd b = FunctionalGroupIdentifier.VobdSystem
group_at reserved_group b = FunctionalGroupIdentifier.IsoSaeReserved (record { 0 = b })

pub group_again : (g : FunctionalGroupIdentifier) → group_at (group_name g) (group_byte g) ≡ g
group_again FunctionalGroupIdentifier.EmissionsSystemGroup = refl
group_again FunctionalGroupIdentifier.SafetySystemGroup = refl
group_again (FunctionalGroupIdentifier.LegislativeSystemGroup c) = refl
group_again FunctionalGroupIdentifier.VobdSystem = refl
group_again (FunctionalGroupIdentifier.IsoSaeReserved c) = refl

-- two groups with the same byte and the same name are the same
pub group_once : (g h : FunctionalGroupIdentifier) → group_byte g ≡ group_byte h → group_name g ≡ group_name h → g ≡ h
group_once g h e n = sym (group_again g) ∙ ap₂ group_at n e ∙ group_again h

-- byte to group to byte: the value of b's group is b
pub group_value : (b : ℕ) (g : FunctionalGroupIdentifier) → GroupOf b g → (v : ℕ) → v ≡ group_byte g → v ≡ b
group_value b g p v e = e ∙ p.0

-- group to byte to group: the group of a value whose name is its byte's is the group itself
pub value_group : (g h : FunctionalGroupIdentifier) → group_name g ≡ group_of (group_byte g) → GroupOf (group_byte g) h → h ≡ g
value_group g h n p = group_once h g p.0 (p.1 ∙ sym n)

-- ---- bytes and formats
abbrev format_at : Format → ℕ → DtcFormatIdentifier
format_at sae_j2012_da_format00 b = DtcFormatIdentifier.SaeJ2012DaDtcFormat00
format_at iso14229_1 b = DtcFormatIdentifier.Iso14229_1DtcFormat
format_at sae_j1939_73 b = DtcFormatIdentifier.SaeJ1939_73DtcFormat
format_at iso11992_4 b = DtcFormatIdentifier.Iso11992_4DtcFormat
format_at sae_j2012_da_format04 b = DtcFormatIdentifier.SaeJ2012DaDtcFormat04
format_at reserved_format b = DtcFormatIdentifier.IsoSaeReserved (record { 0 = b })

format-again : (f : DtcFormatIdentifier) → format_at (format_name f) (format_byte f) ≡ f
format-again DtcFormatIdentifier.SaeJ2012DaDtcFormat00 = refl
format-again DtcFormatIdentifier.Iso14229_1DtcFormat = refl
format-again DtcFormatIdentifier.SaeJ1939_73DtcFormat = refl
format-again DtcFormatIdentifier.Iso11992_4DtcFormat = refl
format-again DtcFormatIdentifier.SaeJ2012DaDtcFormat04 = refl
format-again (DtcFormatIdentifier.IsoSaeReserved c) = refl

-- two formats with the same byte and the same name are the same
pub format_once : (f g : DtcFormatIdentifier) → format_byte f ≡ format_byte g → format_name f ≡ format_name g → f ≡ g
format_once f g e n = sym (format-again f) ∙ ap₂ format_at n e ∙ format-again g

-- byte to format to byte: the value of b's format is b
pub format-value : (b : ℕ) (f : DtcFormatIdentifier) → FormatOf b f → (v : ℕ) → v ≡ format_byte f → v ≡ b
format-value b f p v e = e ∙ p.0

-- format to byte to format: the format of a value whose name is its byte's is the format itself
pub value-format : (f g : DtcFormatIdentifier) → format_name f ≡ format_of (format_byte f) → FormatOf (format_byte f) g → g ≡ f
value-format f g n p = format_once g f p.0 (p.1 ∙ sym n)

-- ---- masks and their questions
module _ (a b : ℕ) (a_byte : a < 256) (b-byte : b < 256) where
  -- two bytes of which the eight status questions have the same answers are the same
  pub status_determines : test_failed a ≡ test_failed b
      → test_failed_this_operation_cycle a ≡ test_failed_this_operation_cycle b
      → pending_dtc a ≡ pending_dtc b
      → confirmed_dtc a ≡ confirmed_dtc b
      → test_not_completed_since_last_clear a ≡ test_not_completed_since_last_clear b
      → test_failed_since_last_clear a ≡ test_failed_since_last_clear b
      → test_not_completed_this_operation_cycle a ≡ test_not_completed_this_operation_cycle b
      → warning_indicator_requested a ≡ warning_indicator_requested b
      → a ≡ b
  status_determines e0 e1 e2 e3 e4 e5 e6 e7 = bits_determine 8 a b a_byte b-byte (e7, (e6, (e5, (e4, (e3, (e2, (e1, (e0, tt))))))))

  -- and so are two of which the five classes and the three severity questions have the same answers
  pub severity_determines : dtc_class 0 a ≡ dtc_class 0 b
      → dtc_class 1 a ≡ dtc_class 1 b
      → dtc_class 2 a ≡ dtc_class 2 b
      → dtc_class 3 a ≡ dtc_class 3 b
      → dtc_class 4 a ≡ dtc_class 4 b
      → maintenance_only a ≡ maintenance_only b
      → check_at_next_halt a ≡ check_at_next_halt b
      → check_immediately a ≡ check_immediately b
      → a ≡ b
  severity_determines = status_determines
