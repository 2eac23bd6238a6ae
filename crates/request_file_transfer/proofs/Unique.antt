-- No second answer meets the contract of a function of this crate: at the same arguments the message, and for a writer also the buffer, settles it.
-- Assumes nothing.
use Prim.Native.Nat.{ℕ, ◌+◌}
use mathlib.Core.Path.{◌≡◌, refl, sym, ap, ◌∙◌}
use mathlib.Core.List.{List}
use native.Mathlib.Omega.{arith}
use contract.Lifetimes.{Lfts}
use denote.Ref.{Bor}
use denote.Triple.Clauses.{AtExit}
use borrow.Fn.Kinds.{Dens, ended_of}
use borrow.Fn.World.{ArgsD}
use lib.ListN.{length}
use Rattle.std.specs.Prelude.{Result, Ok, Err}
use Rattle.paper.specs.Request as paper
use Rattle.paper.specs.Request.{Request, format_and_sizes, nothing, format_only}
use Rattle.wire.specs.Reading.{Seen}
use Rattle.wire.specs.declared.refusal.Refusal.{Refusal}
use Rattle.paper.proofs.Choice.{never}
use Rattle.wire.specs.Refusals.{row}
use Rattle.wire.proofs.Refusals.{refusal_back, refusal-back}
use Rattle.wire.proofs.Unique.{Determined, Settles, once, place_of, place_back}
use Rattle.wire.proofs.UniqueHeld.{Alike, alike, Settled, settled}
use Rattle.wire.proofs.UniqueWriting.{answer_back, answer_back_lem, wrote_once}
use Rattle.file_operation.proofs.Unique.{kind_back, kind-back, format_of, sizes_back, sizes-back, part_back, part-back}
use Rattle.file_operation.proofs.UniqueRewriting.{rewrote_once}
use Rattle.request_file_transfer.specs.Layout.{layout_of}
use Rattle.request_file_transfer.specs.Name.{HoldsGood}
use Rattle.request_file_transfer.specs.declared.name_payload.NamePayload.{NamePayload}
use Rattle.request_file_transfer.specs.Reading.{meant, Placed}
use Rattle.request_file_transfer.specs.declared.layout.AfterName.{AfterName}
use Rattle.request_file_transfer.specs.declared.layout.AfterName.TheVariants.{FormatAndSizes, Nothing, FormatOnly}
use Rattle.request_file_transfer.specs.declared.read.RequestFileTransferRequest.{RequestFileTransferRequest}
use Rattle.request_file_transfer.proofs.layout.after_name.Kinds as after-name-kinds
use Rattle.request_file_transfer.proofs.layout.after_name.Reads as after-name
use Rattle.request_file_transfer.proofs.name.name_at.Kinds as name-at-kinds
use Rattle.request_file_transfer.proofs.name.name_at.Reads as name-at
use Rattle.request_file_transfer.proofs.name.good_name.Kinds as good-name-kinds
use Rattle.request_file_transfer.proofs.name.good_name.Reads as good-name
use Rattle.request_file_transfer.proofs.name_payload.name_place.Kinds as name-place-kinds
use Rattle.request_file_transfer.proofs.name_payload.name_place.Reads as name-place
use Rattle.request_file_transfer.specs.contracts.name_payload.NamePayload.of_request as of-request
use Rattle.request_file_transfer.specs.contracts.name_payload.NamePayload.new as new
use Rattle.request_file_transfer.specs.contracts.name_payload.NamePayloadTryFromRefSliceU8.try_from as try-from
use Rattle.request_file_transfer.specs.contracts.name_payload.NamePayload.file_path_and_name as file-path-and-name
use Rattle.request_file_transfer.specs.contracts.name_payload.NamePayload.held as held
use Rattle.request_file_transfer.proofs.name_payload.request_name.Kinds as request-name-kinds
use Rattle.request_file_transfer.proofs.name_payload.request_name.Reads as request-name
use Rattle.request_file_transfer.proofs.read.RequestFileTransferRequest.mode_of_operation.Kinds as mode-kinds
use Rattle.request_file_transfer.proofs.read.RequestFileTransferRequest.mode_of_operation.Reads as mode
use Rattle.request_file_transfer.proofs.read.read_request.Kinds as read-request-kinds
use Rattle.request_file_transfer.proofs.read.read_request.Reads as read-request
use Rattle.request_file_transfer.proofs.write.needed.Kinds as needed-kinds
use Rattle.request_file_transfer.proofs.write.needed.Reads as needed
use Rattle.request_file_transfer.specs.contracts.write.write_request as write-request
use Rattle.request_file_transfer.proofs.write.write_request.Kinds as write-request-kinds
use Rattle.request_file_transfer.proofs.write.write_request.Reads as write-request-reads
use Rattle.request_file_transfer.specs.contracts.rewrite.rewrite_request as rewrite-request
use Rattle.request_file_transfer.proofs.rewrite.rewrite_request.Kinds as rewrite-request-kinds
use Rattle.request_file_transfer.proofs.rewrite.rewrite_request.Reads as rewrite-request-reads

-- ---- the table of kinds
-- the code's table entry for the paper's
abbrev layout_back : paper.AfterName → AfterName
layout_back format_and_sizes = FormatAndSizes
layout_back nothing = Nothing
layout_back format_only = FormatOnly

-- an entry comes back from the paper's
layout-back : (x : AfterName) → layout_back (layout_of x) ≡ x
layout-back FormatAndSizes = refl
layout-back Nothing = refl
layout-back FormatOnly = refl

-- what stands after the name
pub after_name_determined : Determined 0 after-name-kinds.ps after-name-kinds.r after-name.Post
after_name_determined κs a x y r₁ r₂ p q = sym (layout-back r₁) ∙ ap layout_back (p ∙ sym q) ∙ layout-back r₂

-- ---- names
-- the place of a name, or the refusal
pub name_at_determined : Determined 1 name-at-kinds.ps name-at-kinds.r name-at.Post
name_at_determined κs a x y r₁ r₂ =
    let (s, (at, _)) = a in
    once (λ b. place_of (at + 2) (length b)) (λ p next h. (place_back s.now p h.0 (omega (arith, h.1, h.2)), h.2))

-- the length of a good name, or the refusal
pub good_name_determined : Determined 1 good-name-kinds.ps good-name-kinds.r good-name.Post
good_name_determined κs a x y r₁ r₂ p q = sym (answer_back_lem r₁) ∙ ap answer_back (p ∙ sym q) ∙ answer_back_lem r₂

-- ---- the name record
-- where the name of a request stands, or the refusal
pub name_place_determined : Determined 1 name-place-kinds.ps name-place-kinds.r name-place.Post
name_place_determined κs a x y r₁ r₂ p q = sym (part-back r₁) ∙ ap part_back (p ∙ sym q) ∙ part-back r₂

-- the name of a request
pub request_name_determined : (κs : Lfts 1) (a : Dens κs request-name-kinds.ps) (x y : AtExit (ended_of 1 request-name-kinds.ps request-name-kinds.r) κs) (r₁ r₂ : Bor (List ℕ))
    → request-name.Post κs a r₁ x → request-name.Post κs a r₂ y → Alike r₁ r₂
request_name_determined κs a x y r₁ r₂ p q = alike r₁ r₂ p q

-- of two records of a request's name, and of a slice, what they hold
pub of_request_determined : Settled of-request.ended (λ M 𝓤 𝓛. of-request.clauses 𝓛) (λ κs r₁ r₂. Alike r₁.file_path_and_name r₂.file_path_and_name)
of_request_determined M 𝓤 𝓛 mem run κs a g x y r₁ r₂ = settled 𝓤 (alike r₁.file_path_and_name r₂.file_path_and_name)

pub new_determined : Settled new.ended (λ M 𝓤 𝓛. new.clauses 𝓛) (λ κs r₁ r₂. Alike r₁.file_path_and_name r₂.file_path_and_name)
new_determined M 𝓤 𝓛 mem run κs a g x y r₁ r₂ = settled 𝓤 (alike r₁.file_path_and_name r₂.file_path_and_name)

-- a record of a slice, or the checks' refusal
held-once : (name : Bor (List ℕ)) (r₁ r₂ : Result NamePayload Refusal) → HoldsGood name r₁ → HoldsGood name r₂ → r₁ ≡ r₂
held-once name (Ok x) (Ok y) p q = ap (λ (n : Bor (List ℕ)). Ok (record { file_path_and_name = n })) (p.0 ∙ sym q.0)
held-once name (Ok x) (Err e) p q = absurd (never (sym q ∙ p.1))
held-once name (Err e) (Ok x) p q = absurd (never (sym p ∙ q.1))
held-once name (Err d) (Err e) p q = let same : row d ≡ row e = cc in ap Err (sym (refusal-back d) ∙ ap refusal_back same ∙ refusal-back e)

pub try_from_determined : Settled try-from.ended (λ M 𝓤 𝓛. try-from.clauses 𝓛) (λ κs r₁ r₂. r₁ ≡ r₂)
try_from_determined M 𝓤 𝓛 mem run κs a g x y r₁ r₂ = settled 𝓤 (held-once a.0 r₁ r₂)

-- the slice of a record
pub file_path_and_name_determined : Settled file-path-and-name.ended (λ M 𝓤 𝓛. file-path-and-name.clauses 𝓛) (λ κs r₁ r₂. r₁ ≡ r₂)
file_path_and_name_determined M 𝓤 𝓛 mem run κs a g x y r₁ r₂ = settled 𝓤 (λ p q. p ∙ sym q)

-- the slice of a record that is lent
pub held_determined : Settled held.ended (λ M 𝓤 𝓛. held.clauses 𝓛) (λ κs r₁ r₂. r₁ ≡ r₂)
held_determined M 𝓤 𝓛 mem run κs a g x y r₁ r₂ = settled 𝓤 (λ p q. p ∙ sym q)

-- ---- requests
-- the code's request for the paper's
abbrev request_back : Request → RequestFileTransferRequest
request_back m = record {
  kind = kind_back m.kind;
  file_path_and_name = place_of 3 (length m.name);
  data_format_identifier = format_of m.format;
  size = sizes_back m.uncompressed m.compressed;
}

-- a request comes back from what it means
request-back : (s : List ℕ) → Settles (meant s) (Placed s) s request_back
request-back s q tail h = (
  rw (kind-back q.kind, place_back s q.file_path_and_name h.begins (omega (arith, h.begins, h.ends)), sizes-back q.size h.halves.0 h.halves.1),
  h.within,
)

-- the request and where the tail begins, or the refusal
pub read_request_determined : Determined 1 read-request-kinds.ps read-request-kinds.r read-request.Post
read_request_determined κs a x y r₁ r₂ = once request_back (request-back a.0.now)

-- what the request asks for
pub mode_of_operation_determined : Determined 0 mode-kinds.ps mode-kinds.r mode.Post
mode_of_operation_determined κs a x y r₁ r₂ p q = p ∙ sym q

-- ---- writing
-- how many bytes a request takes, or the refusal
pub needed_determined : Determined 1 needed-kinds.ps needed-kinds.r needed.Post
needed_determined κs a x y r₁ r₂ p q = sym (answer_back_lem r₁) ∙ ap answer_back (p ∙ sym q) ∙ answer_back_lem r₂

-- the answer, and what the buffer, the fifth parameter, holds at the exit
pub write_request_determined : (κs : Lfts 2) (a : ArgsD write-request.signature κs) (x y : AtExit (ended_of 2 write-request-kinds.ps write-request-kinds.r) κs) (r s : Result ℕ Refusal)
    → write-request-reads.Post κs a r x → write-request-reads.Post κs a s y → (r ≡ s) × (x.1.1.1.1.0.now ≡ y.1.1.1.1.0.now)
write_request_determined κs a x y r s p q = wrote_once p q

-- ---- rewriting
-- the answer, and what the buffer, the second parameter, holds at the exit
pub rewrite_request_determined : (κs : Lfts 2) (a : ArgsD rewrite-request.signature κs) (x y : AtExit (ended_of 2 rewrite-request-kinds.ps rewrite-request-kinds.r) κs) (r s : Seen ℕ)
    → rewrite-request-reads.Post κs a r x → rewrite-request-reads.Post κs a s y → (r ≡ s) × (x.1.0.now ≡ y.1.0.now)
rewrite_request_determined κs a x y r s p q = rewrote_once p q
