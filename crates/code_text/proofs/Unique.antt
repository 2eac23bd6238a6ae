-- No second answer, and no second final contents, meets the contract of a public function of this crate.
-- Assumes nothing.
use mathlib.Core.Path.{◌≡◌, refl, sym, ap, ◌∙◌}
use Rattle.paper.specs.Answer.{Answer, accepted, refused}
use Rattle.paper.specs.TroubleCode.{TroubleCode}
use Rattle.wire.proofs.Refusals.{refusal_back, refusal-back}
use Rattle.wire.proofs.Unique.{Determined}
use Rattle.wire.proofs.UniqueWriting.{WritesOnce, wrote_once}
use Rattle.dtc.proofs.Rounds.{record_of}
use Rattle.code_text.specs.CodeText.{code_said}
use Rattle.std.specs.Prelude.{Result, Ok, Err}
use Rattle.wire.specs.declared.refusal.Refusal.{Refusal}
use Rattle.dtc.specs.declared.status.DtcRecord.{DtcRecord}
use Rattle.code_text.proofs.character.hex_value.Kinds as hex-value-kinds
use Rattle.code_text.proofs.character.hex_value.Reads as hex-value
use Rattle.code_text.proofs.code.put_code_text.Kinds as put-code-text-kinds
use Rattle.code_text.proofs.code.put_code_text.Reads as put-code-text
use Rattle.code_text.proofs.code.read_code_text.Kinds as read-code-text-kinds
use Rattle.code_text.proofs.code.read_code_text.Reads as read-code-text
use Rattle.code_text.proofs.lines.export_listing.Kinds as export-listing-kinds
use Rattle.code_text.proofs.lines.export_listing.Reads as export-listing
use Rattle.code_text.proofs.lines.import_listing.Kinds as import-listing-kinds
use Rattle.code_text.proofs.lines.import_listing.Reads as import-listing

pub hex_value_determined : Determined 0 hex-value-kinds.ps hex-value-kinds.r hex-value.Post
hex_value_determined κs a x y r₁ r₂ p q = p ∙ sym q

-- ---- reading a code
-- the answer that the paper's stands for
abbrev pub code_back : Answer TroubleCode → Result DtcRecord Refusal
code_back (accepted c) = Ok (record_of c)
code_back (refused e) = Err (refusal_back e)

pub code-back : (r : Result DtcRecord Refusal) → code_back (code_said r) ≡ r
code-back (Ok c) = refl
code-back (Err e) = ap Err (refusal-back e)

pub read_code_text_determined : Determined 1 read-code-text-kinds.ps read-code-text-kinds.r read-code-text.Post
read_code_text_determined κs a x y r₁ r₂ p q = sym (code-back r₁) ∙ ap code_back (p ∙ sym q) ∙ code-back r₂

-- ---- writing: the buffer too
pub put_code_text_determined : WritesOnce 1 put-code-text-kinds.ps put-code-text-kinds.r (λ κs x. x.1.0) put-code-text.Post
put_code_text_determined κs a x y r₁ r₂ p q = wrote_once p q

pub export_listing_determined : WritesOnce 2 export-listing-kinds.ps export-listing-kinds.r (λ κs x. x.1.1.0) export-listing.Post
export_listing_determined κs a x y r₁ r₂ p q = wrote_once p q

pub import_listing_determined : WritesOnce 2 import-listing-kinds.ps import-listing-kinds.r (λ κs x. x.1.1.0) import-listing.Post
import_listing_determined κs a x y r₁ r₂ p q = wrote_once p q
