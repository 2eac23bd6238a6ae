-- The flat form of an answer that is right is the flat form of the paper's, and a message handed over is written where its byte is a kind.
-- Assumes nothing.
use Prim.Native.Nat.{ℕ, ◌+◌, ◌≤◌}
use mathlib.Core.Path.{◌≡◌, refl, sym, ap, ap₂, ◌∙◌}
use mathlib.Core.List.{List}
use native.Mathlib.Omega.{arith}
use lib.ListN.{length, drop}
use lib.Arith.{digits_div, digits_mod}
use Rattle.std.specs.Prelude.{Ok, Err}
use Rattle.paper.specs.Answer.{Refusal, Answer, accepted, refused, ◌leaving◌, Reader}
use Rattle.paper.specs.Kind.{Kind, known}
use Rattle.paper.specs.Request.{request, read_request, write_request}
use Rattle.paper.specs.Response.{response, AfterMode, ended, block_and_format, after_mode, read_response, write_response}
use Rattle.wire.specs.Refusals.{row}
use Rattle.wire.specs.Reading.{Seen}
use Rattle.wire.specs.Place.{bytes_at}
use Rattle.wire.specs.declared.place.Place.{Place}
use Rattle.wire.specs.Size.{value}
use Rattle.wire.proofs.Unique.{tail_back, place_back}
use Rattle.file_operation.specs.Mode.{kind_of}
use Rattle.file_operation.specs.declared.payload.SizePayload.{SizePayload}
use Rattle.file_operation.specs.declared.payload.FileSizePayload.{FileSizePayload}
use Rattle.file_operation.specs.Rewriting.{retold, tail_within, Rewrote}
use Rattle.request_file_transfer.specs.Reading as requests
use Rattle.request_file_transfer.specs.Reading.{RequestRight}
use Rattle.request_file_transfer.specs.declared.read.RequestFileTransferRequest.{RequestFileTransferRequest}
use Rattle.request_file_transfer_response.specs.Reading as responses
use Rattle.request_file_transfer_response.specs.Reading.{block_start, ResponseRight}
use Rattle.request_file_transfer_response.specs.declared.read.RequestFileTransferResponse.{RequestFileTransferResponse}
use Rattle.station.specs.Records.{refused_transfer, request_record, block_begins, response_record, refused_rewriting, rewritten_record, RewroteRecord}
use Rattle.station.specs.Flat.{RecordOf, accepted_request, accepted_response, accepted_rewriting}
use Rattle.station.specs.declared.records.FileTransferRecord.{FileTransferRecord}
use Rattle.station.specs.Handed.{where_known, halves, request_sizes, response_sizes, request_handed, response_handed}
use Rattle.station.specs.declared.records.RewrittenRecord.{RewrittenRecord}

-- ---- reading
-- how many bytes stand at a place within the message
place_length : (s : List ℕ) (p : Place) → p.start + p.len ≤ length s → length (bytes_at s p) ≡ p.len
place_length s p h = ap (λ (x : Place). x.len) (place_back s p refl h)

-- the record of a request that was accepted
accepted-request : (s : List ℕ) (q : RequestFileTransferRequest) (tail : ℕ) → requests.Placed s q tail
    → accepted_request q tail ≡ request_record (length s) (accepted (requests.meant s q leaving drop tail s))
accepted-request s q tail h =
    let u = q.size.file_size_uncompressed in
    let c = q.size.file_size_compressed in
    rw (
      place_length s q.file_path_and_name (omega (arith, h.begins, h.ends)),
      h.begins,
      digits_div u.high h.halves.0,
      digits_mod u.high h.halves.0,
      digits_div c.high h.halves.1,
      digits_mod c.high h.halves.1,
      tail_back s tail h.within,
    )

-- the record of an answer to a request
pub request_flat : (s : List ℕ) (a : Seen RequestFileTransferRequest) {r : FileTransferRecord}
    → RequestRight s a → RecordOf (λ x r. r ≡ accepted_request x.0 x.1) (λ e r. r ≡ refused_transfer (row e)) a r → r ≡ request_record (length s) (read_request s)
request_flat s (Ok (q, tail)) right is = is ∙ accepted-request s q tail right.place ∙ ap (request_record (length s)) right.paper
request_flat s (Err e) right is = is ∙ ap (request_record (length s)) right.paper

-- where the block length begins
block-begins : (h : AfterMode) → block_start h 1 ≡ block_begins h
block-begins ended = refl
block-begins (block_and_format more) = refl

-- the record of a response that was accepted
accepted-response : (s : List ℕ) (q : RequestFileTransferResponse) (tail : ℕ) → responses.Placed s q tail
    → accepted_response q tail ≡ response_record (length s) (accepted (responses.meant s q leaving drop tail s))
accepted-response s q tail h =
    let u = q.file_size.file_size_uncompressed in
    let c = q.file_size.file_size_compressed in
    rw (
      place_length s q.max_number_of_block_length h.ends,
      h.begins,
      block-begins (after_mode (kind_of q.kind)),
      digits_div u.high h.halves.0,
      digits_mod u.high h.halves.0,
      digits_div c.high h.halves.1,
      digits_mod c.high h.halves.1,
      tail_back s tail h.within,
    )

-- the record of an answer to a response
pub response_flat : (s : List ℕ) (a : Seen RequestFileTransferResponse) {r : FileTransferRecord}
    → ResponseRight s a → RecordOf (λ x r. r ≡ accepted_response x.0 x.1) (λ e r. r ≡ refused_transfer (row e)) a r → r ≡ response_record (length s) (read_response s)
response_flat s (Ok (q, tail)) right is = is ∙ accepted-response s q tail right.place ∙ ap (response_record (length s)) right.paper
response_flat s (Err e) right is = is ∙ ap (response_record (length s)) right.paper

-- ---- writing
-- a request of a byte that is a kind, with a format and sizes that are those handed over
pub request-known : (b : ℕ) {k : Kind} {f g xh xl yh yl : ℕ} {size : SizePayload} → accepted k ≡ known b → g ≡ f → size ≡ request_sizes xh xl yh yl → (n : List ℕ)
    → request_handed b n f xh xl yh yl ≡ write_request (request k n g (value size.file_size_uncompressed) (value size.file_size_compressed))
unfolding request_handed
request-known b {xh = xh} {xl = xl} {yh = yh} {yl = yl} e same sized n =
    rw sized (sym (ap₂ (λ (a : Answer Kind) (f : ℕ). where_known a (λ (k : Kind). write_request (request k n f (halves xh xl) (halves yh yl)))) e same))

-- a request of a byte that is none
pub request-unknown : (b : ℕ) {e : Refusal} → refused e ≡ known b → (n : List ℕ) (f xh xl yh yl : ℕ) → request_handed b n f xh xl yh yl ≡ refused e
unfolding request_handed
request-unknown b e n f xh xl yh yl = sym (ap (λ (a : Answer Kind). where_known a (λ (k : Kind). write_request (request k n f (halves xh xl) (halves yh yl)))) e)

-- a response of a byte that is a kind, with a format and sizes that are those handed over
pub response-known : (b : ℕ) {k : Kind} {f g xh xl yh yl : ℕ} {size : FileSizePayload} → accepted k ≡ known b → g ≡ f → size ≡ response_sizes xh xl yh yl → (n : List ℕ) (p : ℕ)
    → response_handed b n f xh xl yh yl p ≡ write_response (response k n g (value size.file_size_uncompressed) (value size.file_size_compressed) p)
unfolding response_handed
response-known b {xh = xh} {xl = xl} {yh = yh} {yl = yl} e same sized n p =
    rw sized (sym (ap₂ (λ (a : Answer Kind) (f : ℕ). where_known a (λ (k : Kind). write_response (response k n f (halves xh xl) (halves yh yl) p))) e same))

-- a response of a byte that is none
pub response-unknown : (b : ℕ) {e : Refusal} → refused e ≡ known b → (n : List ℕ) (f xh xl yh yl p : ℕ) → response_handed b n f xh xl yh yl p ≡ refused e
unfolding response_handed
response-unknown b e n f xh xl yh yl p = sym (ap (λ (a : Answer Kind). where_known a (λ (k : Kind). write_response (response k n f (halves xh xl) (halves yh yl) p))) e)

-- ---- rewriting
-- the record of a rewriter's answer
abbrev IsRewritten : Seen ℕ → RewrittenRecord → Type 0
IsRewritten = RecordOf (λ x r. r ≡ accepted_rewriting x.0 x.1) (λ e r. r ≡ refused_rewriting (row e))

-- its tail begins within the message
rewrite_flat : (s : List ℕ) (a : Seen ℕ) {r : RewrittenRecord} → tail_within s a → IsRewritten a r → r ≡ rewritten_record (length s) (retold s a)
rewrite_flat s (Ok (n, tail)) within is = is ∙ rw (tail_back s tail within)
rewrite_flat s (Err e) within is = is

-- what was rewritten, as a record
pub rewrote_flat : {rewrite : Reader (List ℕ)} {s old new : List ℕ} {a : Seen ℕ} {r : RewrittenRecord}
    → Rewrote rewrite s old a new → IsRewritten a r → RewroteRecord (length s) (rewrite s) old r new
rewrote_flat {s = s} {a = a} h is = (rewrite_flat s a h.place is ∙ ap (rewritten_record (length s)) h.answer, h.contents)
