-- No second answer meets the contract of a function of this crate.
-- Assumes nothing.
use mathlib.Core.Path.{◌≡◌, refl, sym, ap, ap₂, ◌∙◌}
use Rattle.std.specs.Prelude.{Ok, Err}
use Rattle.paper.specs.Reason as paper
use Rattle.paper.specs.Reason.{mode, name, format_byte, size_group, block_length, position, no_mode, no_name_length, cut_name, not_utf8, no_such_mode, no_format}
use Rattle.paper.specs.Reason.{no_width, cut_sizes, wrong_width, no_count, cut_block, cut_position, Verdict, all_pass, stops}
use Rattle.wire.specs.declared.refusal.Refusal.{Refusal}
use Rattle.wire.proofs.Refusals.{refusal_back, refusal-back}
use Rattle.wire.proofs.Unique.{Determined}
use Rattle.reason.specs.Reason.{field_said, fault_said, Why, why_said, reason_of}
use Rattle.reason.specs.declared.reason.Field.{Field}
use Rattle.reason.specs.declared.reason.Fault.{Fault}
use Rattle.reason.proofs.reason.Fault.field.Kinds as field-kinds
use Rattle.reason.proofs.reason.Fault.field.Reads as field
use Rattle.reason.proofs.request.why_request.Kinds as why-request-kinds
use Rattle.reason.proofs.request.why_request.Reads as why-request
use Rattle.reason.proofs.response.why_response.Kinds as why-response-kinds
use Rattle.reason.proofs.response.why_response.Reads as why-response

-- ---- fields and faults come back from the paper's
abbrev field_back : paper.Field → Field
field_back mode = Field.Mode
field_back name = Field.Name
field_back format_byte = Field.FormatByte
field_back size_group = Field.SizeGroup
field_back block_length = Field.BlockLength
field_back position = Field.Position

field_back_lem : (f : Field) → field_back (field_said f) ≡ f
field_back_lem Field.Mode = refl
field_back_lem Field.Name = refl
field_back_lem Field.FormatByte = refl
field_back_lem Field.SizeGroup = refl
field_back_lem Field.BlockLength = refl
field_back_lem Field.Position = refl

abbrev fault_back : paper.Fault → Fault
fault_back no_mode = Fault.NoMode
fault_back no_name_length = Fault.NoNameLength
fault_back cut_name = Fault.CutName
fault_back not_utf8 = Fault.NotUtf8
fault_back no_such_mode = Fault.NoSuchMode
fault_back no_format = Fault.NoFormat
fault_back no_width = Fault.NoWidth
fault_back cut_sizes = Fault.CutSizes
fault_back wrong_width = Fault.WrongWidth
fault_back no_count = Fault.NoCount
fault_back cut_block = Fault.CutBlock
fault_back cut_position = Fault.CutPosition

fault-back : (f : Fault) → fault_back (fault_said f) ≡ f
fault-back Fault.NoMode = refl
fault-back Fault.NoNameLength = refl
fault-back Fault.CutName = refl
fault-back Fault.NotUtf8 = refl
fault-back Fault.NoSuchMode = refl
fault-back Fault.NoFormat = refl
fault-back Fault.NoWidth = refl
fault-back Fault.CutSizes = refl
fault-back Fault.WrongWidth = refl
fault-back Fault.NoCount = refl
fault-back Fault.CutBlock = refl
fault-back Fault.CutPosition = refl

-- ---- so do answers
abbrev answer_back : Verdict → Why
answer_back all_pass = Ok tt
answer_back (stops f o r) = Err (reason_of (fault_back f) o (refusal_back r))

answer_back_lem : (r : Why) → answer_back (why_said r) ≡ r
answer_back_lem (Ok none) = refl
answer_back_lem (Err x) = ap₂ (λ (e : Refusal) (f : Fault). Err (reason_of f x.offset e)) (refusal-back x.refusal) (fault-back x.fault)

-- two answers that say the same are the same
pub answer_once : {r₁ r₂ : Why} → why_said r₁ ≡ why_said r₂ → r₁ ≡ r₂
answer_once {r₁} {r₂} e = sym (answer_back_lem r₁) ∙ ap answer_back e ∙ answer_back_lem r₂

pub field_determined : Determined 0 field-kinds.ps field-kinds.r field.Post
field_determined κs a x y r₁ r₂ p q = sym (field_back_lem r₁) ∙ ap field_back (p ∙ sym q) ∙ field_back_lem r₂

pub why_request_determined : Determined 1 why-request-kinds.ps why-request-kinds.r why-request.Post
why_request_determined κs a x y r₁ r₂ p q = answer_once (p ∙ sym q)

pub why_response_determined : Determined 1 why-response-kinds.ps why-response-kinds.r why-response.Post
why_response_determined κs a x y r₁ r₂ p q = answer_once (p ∙ sym q)
