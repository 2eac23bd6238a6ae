-- What the answers of trouble-code fields say, in the paper's terms.
use Rattle.std.specs.Prelude.{◌≡◌, Bool, ℕ, List, eqb, drop, Option, Some, None, Result, Ok, Err}
use Rattle.paper.specs.Choice.{both}
use Rattle.paper.specs.Answer.{Answer, accepted, refused, ◌leaving◌}
use Rattle.paper.specs.TroubleCode.{TroubleCode, trouble_code, read_trouble_code, wire_size, Next, none, next, next_trouble_code, one_byte_field, mask_of}
use Rattle.paper.specs.TroubleCode.{FunctionalGroup, group_of, emissions, safety, legislative, vobd, reserved_group}
use Rattle.paper.specs.TroubleCode.{Format, format_of, sae_j2012_da_format00, iso14229_1, sae_j1939_73, iso11992_4, sae_j2012_da_format04, reserved_format}
use Rattle.wire.specs.Refusals.{row}
use Rattle.wire.specs.Reading.{Seen, Right, Onwards}
use Rattle.wire.specs.declared.refusal.Refusal.{Refusal}
use Rattle.dtc.specs.declared.status.DtcRecord.{DtcRecord}
use Rattle.dtc.specs.declared.status.Mask.{Mask}
use Rattle.dtc.specs.declared.status.FunctionalGroupIdentifier.{FunctionalGroupIdentifier}
use Rattle.dtc.specs.declared.status.FunctionalGroupIdentifier.TheVariants as group
use Rattle.dtc.specs.declared.status.DtcFormatIdentifier.{DtcFormatIdentifier}
use Rattle.dtc.specs.declared.status.DtcFormatIdentifier.TheVariants as format
use Rattle.dtc.specs.declared.status.DtcStoredDataRecordNumber.{DtcStoredDataRecordNumber}

-- ---- the trouble code
-- the code that a record holds
abbrev pub code_of : DtcRecord → TroubleCode
code_of c = trouble_code c.high_byte c.middle_byte c.low_byte

-- all three bytes agree
abbrev pub same_code : TroubleCode → TroubleCode → Bool
same_code a b = both (eqb a.high b.high) (both (eqb a.middle b.middle) (eqb a.low b.low))

-- what the answer to a number says
abbrev pub number_said : Result DtcRecord Refusal → Answer TroubleCode
number_said (Ok c) = accepted (code_of c)
number_said (Err e) = refused (row e)

-- the answer r at a position of the message s is the paper's; the next field begins three bytes on
abbrev pub RecordRight : List ℕ → ℕ → Seen DtcRecord → Type 0
RecordRight s at r = Right DtcRecord TroubleCode code_of read_trouble_code (λ (c : DtcRecord) (after : ℕ). Onwards s at wire_size after) s at r

-- the answer about the next of a list of records: the record and where the one after it begins, nothing where the message has ended, or the refusal
abbrev pub SeenNext : Type 0
SeenNext = Result (Option (DtcRecord × ℕ)) Refusal

-- what it says of the message s
abbrev pub next_said : List ℕ → SeenNext → Answer Next
next_said s (Ok None) = accepted none
next_said s (Ok (Some (c, after))) = accepted (next (code_of c leaving drop after s))
next_said s (Err e) = refused (row e)

-- where the field after a record begins
abbrev pub next_place : List ℕ → ℕ → SeenNext → Type 0
next_place s at (Ok None) = Unit {0}
next_place s at (Ok (Some (c, after))) = Onwards s at wire_size after
next_place s at (Err e) = Unit {0}

-- the answer r at a position of the message s is the paper's about the rest from there
pub record NextRight (s : List ℕ) (at : ℕ) (r : SeenNext) : Type 0 where
  pub paper : next_said s r ≡ next_trouble_code (drop at s)
  pub place : next_place s at r

-- ---- fields of one byte
-- the answer r at a position of the message s is a value with the byte that stands there; the next field begins one byte on
abbrev pub OneByte : (A : Type 0) → (A → ℕ) → List ℕ → ℕ → Seen A → Type 0
OneByte A byte_of s at r = Right A ℕ byte_of one_byte_field (λ (a : A) (after : ℕ). Onwards s at 1 after) s at r

abbrev pub MaskRight : {K : Type 0} → List ℕ → ℕ → Seen (Mask K) → Type 0
MaskRight {K} s at r = OneByte (Mask K) (λ (m : Mask K). m.bits) s at r

-- the mask by which a question is asked
abbrev pub named : {K : Type 0} → (ℕ → Bool) → Mask K
named question = record { bits = mask_of question; names = record {} }

abbrev pub RecordNumberRight : List ℕ → ℕ → Seen DtcStoredDataRecordNumber → Type 0
RecordNumberRight s at r = OneByte DtcStoredDataRecordNumber (λ (n : DtcStoredDataRecordNumber). n.0) s at r

-- ---- the functional group
abbrev pub group_byte : FunctionalGroupIdentifier → ℕ
group_byte group.EmissionsSystemGroup = 0x33
group_byte group.SafetySystemGroup = 0xD0
group_byte (group.LegislativeSystemGroup c) = c.0
group_byte group.VobdSystem = 0xFE
group_byte (group.IsoSaeReserved c) = c.0

abbrev pub group_name : FunctionalGroupIdentifier → FunctionalGroup
group_name group.EmissionsSystemGroup = emissions
group_name group.SafetySystemGroup = safety
group_name (group.LegislativeSystemGroup c) = legislative
group_name group.VobdSystem = vobd
group_name (group.IsoSaeReserved c) = reserved_group

-- the group has the byte b, and the name that b has
abbrev pub GroupOf : ℕ → FunctionalGroupIdentifier → Type 0
GroupOf b g = (group_byte g ≡ b) × (group_name g ≡ group_of b)

-- the group has the byte that was read, and the name that the byte has
abbrev pub GroupRight : List ℕ → ℕ → Seen FunctionalGroupIdentifier → Type 0
GroupRight s at r =
    Right FunctionalGroupIdentifier ℕ group_byte one_byte_field
    (λ (g : FunctionalGroupIdentifier) (after : ℕ). (group_name g ≡ group_of (group_byte g)) × Onwards s at 1 after) s at r

-- ---- the format
abbrev pub format_byte : DtcFormatIdentifier → ℕ
format_byte format.SaeJ2012DaDtcFormat00 = 0x00
format_byte format.Iso14229_1DtcFormat = 0x01
format_byte format.SaeJ1939_73DtcFormat = 0x02
format_byte format.Iso11992_4DtcFormat = 0x03
format_byte format.SaeJ2012DaDtcFormat04 = 0x04
format_byte (format.IsoSaeReserved c) = c.0

abbrev pub format_name : DtcFormatIdentifier → Format
format_name format.SaeJ2012DaDtcFormat00 = sae_j2012_da_format00
format_name format.Iso14229_1DtcFormat = iso14229_1
format_name format.SaeJ1939_73DtcFormat = sae_j1939_73
format_name format.Iso11992_4DtcFormat = iso11992_4
format_name format.SaeJ2012DaDtcFormat04 = sae_j2012_da_format04
format_name (format.IsoSaeReserved c) = reserved_format

-- the format has the byte b, and the name that b has
abbrev pub FormatOf : ℕ → DtcFormatIdentifier → Type 0
FormatOf b f = (format_byte f ≡ b) × (format_name f ≡ format_of b)
