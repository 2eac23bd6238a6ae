-- No second answer meets the contract of a function of this crate: at the same arguments the message, and for a writer also the buffer, settles it.
-- Assumes nothing.
use Prim.Native.Nat.{ℕ, ◌≤◌}
use mathlib.Core.Path.{◌≡◌, refl, sym, ap, ◌∙◌}
use mathlib.Core.List.{List}
use contract.Lifetimes.{Lfts}
use denote.Ref.{Bor}
use denote.Triple.Clauses.{AtExit}
use borrow.Fn.Kinds.{Dens, ended_of}
use borrow.Fn.World.{ArgsD}
use lib.ListN.{length}
use Rattle.std.specs.Prelude.{Result, Ok, Err, Option, Some, None}
use Rattle.paper.specs.Response as paper
use Rattle.paper.specs.Response.{Response, nothing, two_sizes, one_size, one_position, ended, block_and_format, after_mode}
use Rattle.wire.specs.Reading.{Seen}
use Rattle.wire.specs.declared.refusal.Refusal.{Refusal}
use Rattle.wire.specs.declared.size.Size.{Size}
use Rattle.paper.proofs.Choice.{never}
use Rattle.wire.specs.Refusals.{row}
use Rattle.wire.proofs.Refusals.{refusal_back, refusal-back}
use Rattle.wire.proofs.Unique.{Determined, once, place_of, place_back}
use Rattle.wire.proofs.UniqueHeld.{Alike, alike, Settled, settled}
use Rattle.wire.proofs.UniqueWriting.{answer_back, answer_back_lem, wrote_once}
use Rattle.file_operation.specs.declared.payload.DirSizePayload.{DirSizePayload}
use Rattle.file_operation.proofs.Unique.{kind_back, kind-back, format_of, file_sizes_back, file-sizes-back, part_back, part-back}
use Rattle.file_operation.proofs.UniqueRewriting.{rewrote_once}
use Rattle.request_file_transfer_response.specs.Layout.{more_of, layout_of}
use Rattle.request_file_transfer_response.specs.BlockLength.{HoldsGood}
use Rattle.request_file_transfer_response.specs.Reading.{block_start, meant, Placed}
use Rattle.request_file_transfer_response.specs.declared.layout.AfterFormat.{AfterFormat}
use Rattle.request_file_transfer_response.specs.declared.read.RequestFileTransferResponse.{RequestFileTransferResponse}
use Rattle.request_file_transfer_response.specs.declared.sent_data.SentDataPayload.{SentDataPayload}
use Rattle.request_file_transfer_response.proofs.layout.after_mode.Kinds as after-mode-kinds
use Rattle.request_file_transfer_response.proofs.layout.after_mode.Reads as after-mode
use Rattle.request_file_transfer_response.proofs.read.RequestFileTransferResponse.dir_size.Kinds as dir-size-kinds
use Rattle.request_file_transfer_response.proofs.read.RequestFileTransferResponse.dir_size.Reads as dir-size
use Rattle.request_file_transfer_response.proofs.read.read_response.Kinds as read-response-kinds
use Rattle.request_file_transfer_response.proofs.read.read_response.Reads as read-response
use Rattle.request_file_transfer_response.proofs.sent_data.block_length_place.Kinds as block-length-place-kinds
use Rattle.request_file_transfer_response.proofs.sent_data.block_length_place.Reads as block-length-place
use Rattle.request_file_transfer_response.proofs.sent_data.good_block_length.Kinds as good-block-length-kinds
use Rattle.request_file_transfer_response.proofs.sent_data.good_block_length.Reads as good-block-length
use Rattle.request_file_transfer_response.specs.contracts.sent_data.SentDataPayload.of_response as of-response
use Rattle.request_file_transfer_response.specs.contracts.sent_data.SentDataPayload.new as new
use Rattle.request_file_transfer_response.specs.contracts.sent_data.SentDataPayloadTryFromRefSliceU8.try_from as try-from
use Rattle.request_file_transfer_response.specs.contracts.sent_data.SentDataPayload.max_number_of_block_length as max-number-of-block-length
use Rattle.request_file_transfer_response.specs.contracts.sent_data.SentDataPayload.held as held
use Rattle.request_file_transfer_response.proofs.sent_data.response_block_length.Kinds as response-block-length-kinds
use Rattle.request_file_transfer_response.proofs.sent_data.response_block_length.Reads as response-block-length
use Rattle.request_file_transfer_response.proofs.write.needed.Kinds as needed-kinds
use Rattle.request_file_transfer_response.proofs.write.needed.Reads as needed
use Rattle.request_file_transfer_response.specs.contracts.write.write_response as write-response
use Rattle.request_file_transfer_response.proofs.write.write_response.Kinds as write-response-kinds
use Rattle.request_file_transfer_response.proofs.write.write_response.Reads as write-response-reads
use Rattle.request_file_transfer_response.specs.contracts.rewrite.rewrite_response as rewrite-response
use Rattle.request_file_transfer_response.proofs.rewrite.rewrite_response.Kinds as rewrite-response-kinds
use Rattle.request_file_transfer_response.proofs.rewrite.rewrite_response.Reads as rewrite-response-reads

-- ---- the table of kinds
-- the code's table entry for the paper's, after the format byte
abbrev more_back : paper.AfterFormat → AfterFormat
more_back nothing = AfterFormat.Nothing
more_back two_sizes = AfterFormat.TwoSizes
more_back one_size = AfterFormat.OneSize
more_back one_position = AfterFormat.Position

-- it comes back from the paper's
more-back : (h : AfterFormat) → more_back (more_of h) ≡ h
more-back AfterFormat.Nothing = refl
more-back AfterFormat.TwoSizes = refl
more-back AfterFormat.OneSize = refl
more-back AfterFormat.Position = refl

-- the code's table entry for the paper's, after the mode
abbrev layout_back : paper.AfterMode → Option AfterFormat
layout_back ended = None
layout_back (block_and_format h) = Some (more_back h)

-- it comes back from the paper's
layout-back : (h : Option AfterFormat) → layout_back (layout_of h) ≡ h
layout-back None = refl
layout-back (Some h) = ap Some (more-back h)

-- what stands after the mode
pub after_mode_determined : Determined 0 after-mode-kinds.ps after-mode-kinds.r after-mode.Post
after_mode_determined κs a x y r₁ r₂ p q = sym (layout-back r₁) ∙ ap layout_back (p ∙ sym q) ∙ layout-back r₂

-- ---- reading
-- the response that the paper's stands for: its block length begins where its kind says
abbrev response_back : Response → RequestFileTransferResponse
response_back m = record {
  kind = kind_back m.kind;
  max_number_of_block_length = place_of (block_start (after_mode m.kind) 1) (length m.block);
  data_format_identifier = format_of m.format;
  file_size = file_sizes_back m.uncompressed m.compressed;
  position = record { file_position = m.position };
}

-- a response comes back from what it means, and its tail begins within the message
response-back : (s : List ℕ) (q : RequestFileTransferResponse) (tail : ℕ) → Placed s q tail → (response_back (meant s q) ≡ q) × (tail ≤ length s)
response-back s q tail h = (
  rw (kind-back q.kind, place_back s q.max_number_of_block_length h.begins h.ends, file-sizes-back q.file_size h.halves.0 h.halves.1),
  h.within,
)

-- the response and where the tail begins, or the refusal
pub read_response_determined : Determined 1 read-response-kinds.ps read-response-kinds.r read-response.Post
read_response_determined κs a x y r₁ r₂ = once response_back (response-back a.0.now)

-- the payload of a size
abbrev dir_size_of : Size → DirSizePayload
dir_size_of z = record { dir_info_length = z }

-- the size of the directory information
pub dir_size_determined : Determined 0 dir-size-kinds.ps dir-size-kinds.r dir-size.Post
dir_size_determined κs a x y r₁ r₂ p q = ap dir_size_of (p ∙ sym q)

-- ---- the block length record
-- where the block length of a response stands, or the refusal
pub block_length_place_determined : Determined 1 block-length-place-kinds.ps block-length-place-kinds.r block-length-place.Post
block_length_place_determined κs a x y r₁ r₂ p q = sym (part-back r₁) ∙ ap part_back (p ∙ sym q) ∙ part-back r₂

-- the block length of a response
pub response_block_length_determined : (κs : Lfts 1) (a : Dens κs response-block-length-kinds.ps) (x y : AtExit (ended_of 1 response-block-length-kinds.ps response-block-length-kinds.r) κs) (r₁ r₂ : Bor (List ℕ))
    → response-block-length.Post κs a r₁ x → response-block-length.Post κs a r₂ y → Alike r₁ r₂
response_block_length_determined κs a x y r₁ r₂ p q = alike r₁ r₂ p q

-- how many bytes a good block length has, or the refusal
pub good_block_length_determined : Determined 1 good-block-length-kinds.ps good-block-length-kinds.r good-block-length.Post
good_block_length_determined κs a x y r₁ r₂ p q = sym (answer_back_lem r₁) ∙ ap answer_back (p ∙ sym q) ∙ answer_back_lem r₂

-- of two records of a response's block length, and of a slice, what they hold
pub of_response_determined : Settled of-response.ended (λ M 𝓤 𝓛. of-response.clauses 𝓛) (λ κs r₁ r₂. Alike r₁.max_number_of_block_length r₂.max_number_of_block_length)
of_response_determined M 𝓤 𝓛 mem run κs a g x y r₁ r₂ = settled 𝓤 (alike r₁.max_number_of_block_length r₂.max_number_of_block_length)

pub new_determined : Settled new.ended (λ M 𝓤 𝓛. new.clauses 𝓛) (λ κs r₁ r₂. Alike r₁.max_number_of_block_length r₂.max_number_of_block_length)
new_determined M 𝓤 𝓛 mem run κs a g x y r₁ r₂ = settled 𝓤 (alike r₁.max_number_of_block_length r₂.max_number_of_block_length)

-- the record of a slice, or the refusal
abbrev record_of : Bor (List ℕ) → SentDataPayload
record_of b = record { max_number_of_block_length = b }

held-once : (block : Bor (List ℕ)) (r₁ r₂ : Result SentDataPayload Refusal) → HoldsGood block r₁ → HoldsGood block r₂ → r₁ ≡ r₂
held-once block (Ok x) (Ok y) p q = ap (λ (b : Bor (List ℕ)). Ok (record_of b)) (p.0 ∙ sym q.0)
held-once block (Ok x) (Err e) p q = absurd (never (sym q ∙ p.1))
held-once block (Err e) (Ok x) p q = absurd (never (sym p ∙ q.1))
held-once block (Err d) (Err e) p q = let same : row d ≡ row e = cc in ap Err (sym (refusal-back d) ∙ ap refusal_back same ∙ refusal-back e)

pub try_from_determined : Settled try-from.ended (λ M 𝓤 𝓛. try-from.clauses 𝓛) (λ κs r₁ r₂. r₁ ≡ r₂)
try_from_determined M 𝓤 𝓛 mem run κs a g x y r₁ r₂ = settled 𝓤 (held-once a.0 r₁ r₂)

-- the slice of a record
pub max_number_of_block_length_determined : Settled max-number-of-block-length.ended (λ M 𝓤 𝓛. max-number-of-block-length.clauses 𝓛) (λ κs r₁ r₂. r₁ ≡ r₂)
max_number_of_block_length_determined M 𝓤 𝓛 mem run κs a g x y r₁ r₂ = settled 𝓤 (λ p q. p ∙ sym q)

-- the slice of a record that is lent
pub held_determined : Settled held.ended (λ M 𝓤 𝓛. held.clauses 𝓛) (λ κs r₁ r₂. r₁ ≡ r₂)
held_determined M 𝓤 𝓛 mem run κs a g x y r₁ r₂ = settled 𝓤 (λ p q. p ∙ sym q)

-- ---- writing
-- how many bytes the response takes, or the refusal
pub needed_determined : Determined 1 needed-kinds.ps needed-kinds.r needed.Post
needed_determined κs a x y r₁ r₂ p q = sym (answer_back_lem r₁) ∙ ap answer_back (p ∙ sym q) ∙ answer_back_lem r₂

-- the answer, and what the buffer, the sixth parameter, holds at the exit
pub write_response_determined : (κs : Lfts 2) (a : ArgsD write-response.signature κs) (x y : AtExit (ended_of 2 write-response-kinds.ps write-response-kinds.r) κs) (r s : Result ℕ Refusal)
    → write-response-reads.Post κs a r x → write-response-reads.Post κs a s y → (r ≡ s) × (x.1.1.1.1.1.0.now ≡ y.1.1.1.1.1.0.now)
write_response_determined κs a x y r s p q = wrote_once p q

-- ---- rewriting
-- the answer, and what the buffer, the second parameter, holds at the exit
pub rewrite_response_determined : (κs : Lfts 2) (a : ArgsD rewrite-response.signature κs) (x y : AtExit (ended_of 2 rewrite-response-kinds.ps rewrite-response-kinds.r) κs) (r s : Seen ℕ)
    → rewrite-response-reads.Post κs a r x → rewrite-response-reads.Post κs a s y → (r ≡ s) × (x.1.0.now ≡ y.1.0.now)
rewrite_response_determined κs a x y r s p q = rewrote_once p q
