-- No second answer meets the promise of a public function of this crate; and of a writer, no second final contents.
-- Each is stated of the contract as the check reads it. Assumes nothing.
use mathlib.Core.Path.{◌≡◌, refl, sym, ap, ◌∙◌}
use Prim.Native.Nat.{ℕ, ◌-◌}
use mathlib.Core.List.{List}
use denote.RattleType.{RattleType}
use denote.Param.Laws.{Laws}
use lib.ListN.{length}
use Rattle.std.specs.Prelude.{Some, None, Ok, Err}
use Rattle.paper.specs.Answer.{Answer, accepted, refused, ◌leaving◌}
use Rattle.paper.specs.TroubleCode.{Next, none, next, group_of}
use Rattle.wire.proofs.Refusals.{refusal_back, refusal-back}
use Rattle.wire.proofs.Unique.{Determined, tail_back, once}
use Rattle.wire.proofs.UniqueWriting.{WritesOnce, wrote_once}
use Rattle.dtc.specs.Status.{SeenNext, next_said, next_place, group_byte, group_name}
use Rattle.dtc.specs.declared.status.Mask.{Mask}
use Rattle.dtc.specs.declared.status.FunctionalGroupIdentifier.{FunctionalGroupIdentifier}
use Rattle.dtc.specs.declared.status.DtcStoredDataRecordNumber.{DtcStoredDataRecordNumber}
use Rattle.dtc.proofs.Rounds.{record_of, number_answer, answer-again, group_at, group_again, group_once, format_once}
use Rattle.dtc.proofs.status.DtcRecord as code
use Rattle.dtc.proofs.status.DtcRecordTryFromU32 as of_number
use Rattle.dtc.proofs.status.U32FromDtcRecord as as_number
use Rattle.dtc.proofs.status.Mask as mask
use Rattle.dtc.proofs.status.Mask+Status as status
use Rattle.dtc.proofs.status.Mask+Severity as severity
use Rattle.dtc.proofs.status.FunctionalGroupIdentifier as group
use Rattle.dtc.proofs.status.FunctionalGroupIdentifierFromU8 as group_of_byte
use Rattle.dtc.proofs.status.U8FromFunctionalGroupIdentifier as byte_of_group
use Rattle.dtc.proofs.status.DtcFormatIdentifier as format
use Rattle.dtc.proofs.status.DtcFormatIdentifierFromU8 as format_of_byte
use Rattle.dtc.proofs.status.U8FromDtcFormatIdentifier as byte_of_format
use Rattle.dtc.proofs.status.DtcStoredDataRecordNumber as number

-- ---- trouble codes
pub code_new_determined : Determined 0 code.new.Kinds.ps code.new.Kinds.r code.new.Reads.Post
code_new_determined κs a x y r₁ r₂ p q = ap record_of (p ∙ sym q)

pub code_high_byte_determined : Determined 0 code.high_byte.Kinds.ps code.high_byte.Kinds.r code.high_byte.Reads.Post
code_high_byte_determined κs a x y r₁ r₂ p q = p ∙ sym q

pub code_middle_byte_determined : Determined 0 code.middle_byte.Kinds.ps code.middle_byte.Kinds.r code.middle_byte.Reads.Post
code_middle_byte_determined κs a x y r₁ r₂ p q = p ∙ sym q

pub code_low_byte_determined : Determined 0 code.low_byte.Kinds.ps code.low_byte.Kinds.r code.low_byte.Reads.Post
code_low_byte_determined κs a x y r₁ r₂ p q = p ∙ sym q

pub code_equals_determined : Determined 0 code.equals.Kinds.ps code.equals.Kinds.r code.equals.Reads.Post
code_equals_determined κs a x y r₁ r₂ p q = p ∙ sym q

pub code_to_u32_determined : Determined 0 code.to_u32.Kinds.ps code.to_u32.Kinds.r code.to_u32.Reads.Post
code_to_u32_determined κs a x y r₁ r₂ p q = p ∙ sym q

pub code_from_u32_determined : Determined 0 code.from_u32.Kinds.ps code.from_u32.Kinds.r code.from_u32.Reads.Post
code_from_u32_determined κs a x y r₁ r₂ p q = sym (answer-again r₁) ∙ ap number_answer (p ∙ sym q) ∙ answer-again r₂

pub code_try_from_determined : Determined 0 of_number.try_from.Kinds.ps of_number.try_from.Kinds.r of_number.try_from.Reads.Post
code_try_from_determined κs a x y r₁ r₂ p q = sym (answer-again r₁) ∙ ap number_answer (p ∙ sym q) ∙ answer-again r₂

pub code_into_u32_determined : Determined 0 as_number.from.Kinds.ps as_number.from.Kinds.r as_number.from.Reads.Post
code_into_u32_determined κs a x y r₁ r₂ p q = p ∙ sym q

pub code_decode_determined : Determined 1 code.decode.Kinds.ps code.decode.Kinds.r code.decode.Reads.Post
code_decode_determined κs a x y r₁ r₂ = once record_of (λ c after h. (refl, h.1))

-- the next record, from the paper's answer to a message of n bytes
abbrev next_back : ℕ → Answer Next → SeenNext
next_back n (accepted none) = Ok None
next_back n (accepted (next (c leaving t))) = Ok (Some (record_of c, n - length t))
next_back n (refused e) = Err (refusal_back e)

next-again : (s : List ℕ) (at : ℕ) (r : SeenNext) → next_place s at r → next_back (length s) (next_said s r) ≡ r
next-again s at (Ok None) h = refl
next-again s at (Ok (Some (c, after))) h = ap (λ (n : ℕ). Ok (Some (c, n))) (tail_back s after h.1)
next-again s at (Err e) h = ap Err (refusal-back e)

pub code_decode_next_determined : Determined 1 code.decode_next.Kinds.ps code.decode_next.Kinds.r code.decode_next.Reads.Post
code_decode_next_determined κs a x y r₁ r₂ p q =
    let (s, (at, _)) = a in
    sym (next-again s.now at r₁ p.place) ∙ ap (next_back (length s.now)) (p.paper ∙ sym q.paper) ∙ next-again s.now at r₂ q.place

pub code_encode_determined : WritesOnce 1 code.encode.Kinds.ps code.encode.Kinds.r (λ κs x. x.1.0) code.encode.Reads.Post
code_encode_determined κs a x y r₁ r₂ p q = wrote_once p q

-- ---- masks, whatever their names are
abbrev mask_holding : {K : Type 0} → ℕ → Mask K
mask_holding b = record { bits = b; names = record {} }

module _ (T : RattleType) (laws : Laws T) where
  pub mask_from_bits_determined : Determined 1 (mask.from_bits.Kinds.ps T laws) (mask.from_bits.Kinds.r T laws) (mask.from_bits.Reads.Post T laws)
  mask_from_bits_determined κs a x y r₁ r₂ p q = ap mask_holding (p ∙ sym q)

  pub mask_union_determined : Determined 1 (mask.union.Kinds.ps T laws) (mask.union.Kinds.r T laws) (mask.union.Reads.Post T laws)
  mask_union_determined κs a x y r₁ r₂ p q = ap mask_holding (p ∙ sym q)

  pub mask_intersection_determined : Determined 1 (mask.intersection.Kinds.ps T laws) (mask.intersection.Kinds.r T laws) (mask.intersection.Reads.Post T laws)
  mask_intersection_determined κs a x y r₁ r₂ p q = ap mask_holding (p ∙ sym q)

  pub mask_bits_determined : Determined 1 (mask.bits.Kinds.ps T laws) (mask.bits.Kinds.r T laws) (mask.bits.Reads.Post T laws)
  mask_bits_determined κs a x y r₁ r₂ p q = p ∙ sym q

  pub mask_decode_determined : Determined 2 (mask.decode.Kinds.ps T laws) (mask.decode.Kinds.r T laws) (mask.decode.Reads.Post T laws)
  mask_decode_determined κs a x y r₁ r₂ = once mask_holding (λ m after h. (refl, h.1))

  pub mask_encode_determined : WritesOnce 2 (mask.encode.Kinds.ps T laws) (mask.encode.Kinds.r T laws) (λ κs x. x.1.0) (mask.encode.Reads.Post T laws)
  mask_encode_determined κs a x y r₁ r₂ p q = wrote_once p q

-- ---- the status mask
pub status_test_failed_determined : Determined 0 status.test_failed.Kinds.ps status.test_failed.Kinds.r status.test_failed.Reads.Post
status_test_failed_determined κs a x y r₁ r₂ p q = p ∙ sym q

pub status-test-failed-this-operation-cycle-determined :
    Determined 0 status.test_failed_this_operation_cycle.Kinds.ps status.test_failed_this_operation_cycle.Kinds.r status.test_failed_this_operation_cycle.Reads.Post
status-test-failed-this-operation-cycle-determined κs a x y r₁ r₂ p q = p ∙ sym q

pub status_pending_dtc_determined : Determined 0 status.pending_dtc.Kinds.ps status.pending_dtc.Kinds.r status.pending_dtc.Reads.Post
status_pending_dtc_determined κs a x y r₁ r₂ p q = p ∙ sym q

pub status_confirmed_dtc_determined : Determined 0 status.confirmed_dtc.Kinds.ps status.confirmed_dtc.Kinds.r status.confirmed_dtc.Reads.Post
status_confirmed_dtc_determined κs a x y r₁ r₂ p q = p ∙ sym q

pub status-test-not-completed-since-last-clear-determined :
    Determined 0 status.test_not_completed_since_last_clear.Kinds.ps status.test_not_completed_since_last_clear.Kinds.r status.test_not_completed_since_last_clear.Reads.Post
status-test-not-completed-since-last-clear-determined κs a x y r₁ r₂ p q = p ∙ sym q

pub status-test-failed-since-last-clear-determined :
    Determined 0 status.test_failed_since_last_clear.Kinds.ps status.test_failed_since_last_clear.Kinds.r status.test_failed_since_last_clear.Reads.Post
status-test-failed-since-last-clear-determined κs a x y r₁ r₂ p q = p ∙ sym q

pub status-test-not-completed-this-operation-cycle-determined :
    Determined 0 status.test_not_completed_this_operation_cycle.Kinds.ps status.test_not_completed_this_operation_cycle.Kinds.r status.test_not_completed_this_operation_cycle.Reads.Post
status-test-not-completed-this-operation-cycle-determined κs a x y r₁ r₂ p q = p ∙ sym q

pub status-warning-indicator-requested-determined :
    Determined 0 status.warning_indicator_requested.Kinds.ps status.warning_indicator_requested.Kinds.r status.warning_indicator_requested.Reads.Post
status-warning-indicator-requested-determined κs a x y r₁ r₂ p q = p ∙ sym q

pub status_matches_determined : Determined 0 status.matches.Kinds.ps status.matches.Kinds.r status.matches.Reads.Post
status_matches_determined κs a x y r₁ r₂ p q = p ∙ sym q

-- ---- the severity mask
pub severity_dtc_class_0_determined : Determined 0 severity.dtc_class_0.Kinds.ps severity.dtc_class_0.Kinds.r severity.dtc_class_0.Reads.Post
severity_dtc_class_0_determined κs a x y r₁ r₂ p q = p ∙ sym q

pub severity_dtc_class_1_determined : Determined 0 severity.dtc_class_1.Kinds.ps severity.dtc_class_1.Kinds.r severity.dtc_class_1.Reads.Post
severity_dtc_class_1_determined κs a x y r₁ r₂ p q = p ∙ sym q

pub severity_dtc_class_2_determined : Determined 0 severity.dtc_class_2.Kinds.ps severity.dtc_class_2.Kinds.r severity.dtc_class_2.Reads.Post
severity_dtc_class_2_determined κs a x y r₁ r₂ p q = p ∙ sym q

pub severity_dtc_class_3_determined : Determined 0 severity.dtc_class_3.Kinds.ps severity.dtc_class_3.Kinds.r severity.dtc_class_3.Reads.Post
severity_dtc_class_3_determined κs a x y r₁ r₂ p q = p ∙ sym q

pub severity_dtc_class_4_determined : Determined 0 severity.dtc_class_4.Kinds.ps severity.dtc_class_4.Kinds.r severity.dtc_class_4.Reads.Post
severity_dtc_class_4_determined κs a x y r₁ r₂ p q = p ∙ sym q

pub severity_maintenance_only_determined : Determined 0 severity.maintenance_only.Kinds.ps severity.maintenance_only.Kinds.r severity.maintenance_only.Reads.Post
severity_maintenance_only_determined κs a x y r₁ r₂ p q = p ∙ sym q

pub severity_check_at_next_halt_determined : Determined 0 severity.check_at_next_halt.Kinds.ps severity.check_at_next_halt.Kinds.r severity.check_at_next_halt.Reads.Post
severity_check_at_next_halt_determined κs a x y r₁ r₂ p q = p ∙ sym q

pub severity_check_immediately_determined : Determined 0 severity.check_immediately.Kinds.ps severity.check_immediately.Kinds.r severity.check_immediately.Reads.Post
severity_check_immediately_determined κs a x y r₁ r₂ p q = p ∙ sym q

pub severity_is_valid_determined : Determined 0 severity.is_valid.Kinds.ps severity.is_valid.Kinds.r severity.is_valid.Reads.Post
severity_is_valid_determined κs a x y r₁ r₂ p q = p ∙ sym q

-- ---- the functional group
pub group_from_byte_determined : Determined 0 group.from_byte.Kinds.ps group.from_byte.Kinds.r group.from_byte.Reads.Post
group_from_byte_determined κs a x y r₁ r₂ p q = group_once r₁ r₂ (p.0 ∙ sym q.0) (p.1 ∙ sym q.1)

pub group_from_determined : Determined 0 group_of_byte.from.Kinds.ps group_of_byte.from.Kinds.r group_of_byte.from.Reads.Post
group_from_determined κs a x y r₁ r₂ p q = group_once r₁ r₂ (p.0 ∙ sym q.0) (p.1 ∙ sym q.1)

pub group_into_byte_determined : Determined 0 byte_of_group.from.Kinds.ps byte_of_group.from.Kinds.r byte_of_group.from.Reads.Post
group_into_byte_determined κs a x y r₁ r₂ p q = p ∙ sym q

pub group_value_determined : Determined 0 group.value.Kinds.ps group.value.Kinds.r group.value.Reads.Post
group_value_determined κs a x y r₁ r₂ p q = p ∙ sym q

-- a group whose name is its byte's is found again from the byte
group_back : (g : FunctionalGroupIdentifier) → group_name g ≡ group_of (group_byte g) → group_at (group_of (group_byte g)) (group_byte g) ≡ g
group_back g e = rw (← e) (group_again g)

pub group_decode_determined : Determined 1 group.decode.Kinds.ps group.decode.Kinds.r group.decode.Reads.Post
group_decode_determined κs a x y r₁ r₂ = once (λ b. group_at (group_of b) b) (λ g after h. (group_back g h.0, h.1.1))

pub group_encode_determined : WritesOnce 1 group.encode.Kinds.ps group.encode.Kinds.r (λ κs x. x.1.0) group.encode.Reads.Post
group_encode_determined κs a x y r₁ r₂ p q = wrote_once p q

-- ---- the format
pub format_from_byte_determined : Determined 0 format.from_byte.Kinds.ps format.from_byte.Kinds.r format.from_byte.Reads.Post
format_from_byte_determined κs a x y r₁ r₂ p q = format_once r₁ r₂ (p.0 ∙ sym q.0) (p.1 ∙ sym q.1)

pub format_from_determined : Determined 0 format_of_byte.from.Kinds.ps format_of_byte.from.Kinds.r format_of_byte.from.Reads.Post
format_from_determined κs a x y r₁ r₂ p q = format_once r₁ r₂ (p.0 ∙ sym q.0) (p.1 ∙ sym q.1)

pub format_into_byte_determined : Determined 0 byte_of_format.from.Kinds.ps byte_of_format.from.Kinds.r byte_of_format.from.Reads.Post
format_into_byte_determined κs a x y r₁ r₂ p q = p ∙ sym q

pub format_value_determined : Determined 0 format.value.Kinds.ps format.value.Kinds.r format.value.Reads.Post
format_value_determined κs a x y r₁ r₂ p q = p ∙ sym q

-- ---- the stored-data record number
abbrev stored_number : ℕ → DtcStoredDataRecordNumber
stored_number b = record { 0 = b }

pub number_new_determined : Determined 0 number.new.Kinds.ps number.new.Kinds.r number.new.Reads.Post
number_new_determined κs a x y r₁ r₂ p q = ap stored_number (p ∙ sym q)

pub number_value_determined : Determined 0 number.value.Kinds.ps number.value.Kinds.r number.value.Reads.Post
number_value_determined κs a x y r₁ r₂ p q = p ∙ sym q

pub number_is_reserved_determined : Determined 0 number.is_reserved.Kinds.ps number.is_reserved.Kinds.r number.is_reserved.Reads.Post
number_is_reserved_determined κs a x y r₁ r₂ p q = p ∙ sym q

pub number_decode_determined : Determined 1 number.decode.Kinds.ps number.decode.Kinds.r number.decode.Reads.Post
number_decode_determined κs a x y r₁ r₂ = once stored_number (λ m after h. (refl, h.1))

pub number_encode_determined : WritesOnce 1 number.encode.Kinds.ps number.encode.Kinds.r (λ κs x. x.1.0) number.encode.Reads.Post
number_encode_determined κs a x y r₁ r₂ p q = wrote_once p q
