-- Every record that a public maker makes holds a block length: at most 255 bytes; and that of a response holds the bytes that were read. Said of the makers' contracts, as the check reads them.
-- Assumes nothing.
use mathlib.Core.Path.{◌≡◌, refl, ap, ◌∙◌}
use Prim.Native.Nat.{ℕ, ◌≤◌}
use mathlib.Core.List.{List, ◌∷◌, ◌++◌, append_assoc}
use native.Mathlib.Omega.{arith}
use lib.ListN.{length, take, drop}
use lib.Seq.{take_at}
use Rattle.std.specs.Prelude.{Result, Ok, Err, IfOk}
use Rattle.wire.specs.declared.refusal.Refusal.{Refusal}
use Rattle.request_file_transfer_response.specs.declared.sent_data.SentDataPayload.{SentDataPayload}
use denote.Ref.{Bor}
use Rattle.paper.specs.Answer.{Answer, accepted, refused, Read, ◌leaving◌}
use Rattle.paper.specs.Bytes.{Bytes, to_bytes}
use Rattle.paper.specs.Field.{with_count}
use Rattle.paper.specs.Response.{Response, AfterMode, ended, block_and_format, after_mode, read_response, write_after_format, write_after_mode, response_at, kept_after_mode, as_read, good_block_length}
use Rattle.paper.proofs.Response.{good-block-length, response_layout, response-block-length}
use Rattle.wire.specs.Place.{bytes_at}
use Rattle.wire.proofs.UniqueHeld.{Says, says}
use Rattle.file_operation.specs.Part.{or_empty, or_none}
use Rattle.request_file_transfer_response.specs.Reading.{block_start}
use Rattle.request_file_transfer_response.specs.BlockLength.{place_in, HoldsGood}
use Rattle.request_file_transfer_response.specs.contracts.sent_data.SentDataPayload.of_response as of-response
use Rattle.request_file_transfer_response.specs.contracts.sent_data.SentDataPayload.new as new
use Rattle.request_file_transfer_response.specs.contracts.sent_data.SentDataPayloadTryFromRefSliceU8.try_from as try-from

-- ---- of a slice
-- what the check of a block length hands on, or nothing
kept-is-short : (b : List ℕ) (x : Answer (List ℕ)) → good_block_length b ≡ x → length (or_none x) ≤ 255
kept-is-short b (accepted x) e = let (same, short) = (good-block-length b x).0 e in rw same short
kept-is-short b (refused r) e = omega arith

pub new_short : Says new.ended (λ M 𝓤 𝓛. new.clauses 𝓛) (λ κs a r. length r.max_number_of_block_length.now ≤ 255)
new_short M 𝓤 𝓛 mem run κs a g x r = says 𝓤 (λ is. rw is.1 (kept-is-short a.0.now (good_block_length a.0.now) refl))

-- what a conversion hands on
held-is-short : (block : Bor (List ℕ)) (r : Result SentDataPayload Refusal) → HoldsGood block r → IfOk r (λ (x : SentDataPayload). length x.max_number_of_block_length.now ≤ 255)
held-is-short block (Ok x) h = rw (ap (λ (b : Bor (List ℕ)). b.now) h.0) ((good-block-length block.now block.now).0 h.1).1
held-is-short block (Err e) h = tt

pub try_from_short : Says try-from.ended (λ M 𝓤 𝓛. try-from.clauses 𝓛) (λ κs a r. IfOk r (λ (x : SentDataPayload). length x.max_number_of_block_length.now ≤ 255))
try_from_short M 𝓤 𝓛 mem run κs a g x r = says 𝓤 (λ is. held-is-short a.0 r is)

-- ---- of a response, whose elements are bytes, as those of every slice of `u8` are
-- what stands in it where the answer says
abbrev at : List ℕ → Answer (Read Response) → List ℕ
at s x = bytes_at s (or_empty (place_in x))

-- by the kind's row: the block length right after its count, or none
by_row : (h : AfterMode) (mode w : ℕ) (m : Response) (t : List ℕ) → kept_after_mode h m ≡ m → take (length m.block) (drop (block_start h 1) ((mode ∷ write_after_mode w h m) ++ t)) ≡ m.block
unfolding with_count to_bytes
by_row ended mode w m t plain = rw (← ap Response.block plain)
by_row (block_and_format h) mode w m t plain = let rest = m.format ∷ write_after_format w h m in rw (append_assoc m.block rest t) (take_at m.block (rest ++ t) (length m.block) refl)

part-is-block : (s : List ℕ) {m : Response} {t : List ℕ} → Bytes s → read_response s ≡ accepted (m leaving t) → at s (accepted (m leaving t)) ≡ m.block
unfolding response_at as_read
part-is-block s {m} {t} bytes e =
    let (u, way, joined) = (response_layout s m t bytes).0 e in
    rw (joined, way.is) (by_row (after_mode m.kind) _ way.width m t way.plain)

part-is-short : (s : List ℕ) (x : Answer (Read Response)) → Bytes s → read_response s ≡ x → length (at s x) ≤ 255
part-is-short s (accepted (m leaving t)) bytes e = rw (part-is-block s bytes e) (response-block-length s bytes e)
part-is-short s (refused r) bytes e = omega arith

pub of_response_short : Says of-response.ended (λ M 𝓤 𝓛. of-response.clauses 𝓛) (λ κs a r. Bytes a.0.now → length r.max_number_of_block_length.now ≤ 255)
of_response_short M 𝓤 𝓛 mem run κs a g x r = says 𝓤 (λ is bytes. rw is.1 (part-is-short a.0.now (read_response a.0.now) bytes refl))

-- of one that is accepted
pub of_response_holds : Says of-response.ended (λ M 𝓤 𝓛. of-response.clauses 𝓛)
    (λ κs a r. (m : Response) (t : List ℕ) → Bytes a.0.now → read_response a.0.now ≡ accepted (m leaving t) → r.max_number_of_block_length.now ≡ m.block)
of_response_holds M 𝓤 𝓛 mem run κs a g x r = says 𝓤 (λ is m t bytes e. is.1 ∙ ap (at a.0.now) e ∙ part-is-block a.0.now bytes e)
