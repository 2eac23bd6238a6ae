-- The longest response, of the calls of this crate: none answers that it wrote more than 292 bytes, and there is one that answers just that.
-- Assumes nothing.
use Prim.Native.Nat.{ℕ, ◌≤◌}
use mathlib.Core.Path.{◌≡◌, refl}
use mathlib.Core.List.{List, []}
use contract.Lifetimes.{Lfts}
use denote.Triple.Clauses.{AtExit}
use borrow.Fn.Kinds.{Dens, ended_of}
use Rattle.std.specs.Prelude.{Result, Ok}
use Rattle.paper.specs.Answer.{over}
use Rattle.paper.specs.Response.{Response, read_response, response_bytes, write_response, rewrite_response, WritableResponse, as_read}
use Rattle.paper.proofs.Response.{write_read, written-longest, response_longest_reached}
use Rattle.wire.specs.Writing.{Wrote}
use Rattle.wire.specs.declared.refusal.Refusal.{Refusal}
use Rattle.file_operation.proofs.Calls.{slice, buffer}
use Rattle.file_operation.proofs.Longest.{wrote_at_most, rewrote_at_most, wrote_all}
use Rattle.file_operation.proofs.Unique.{kind_back, kind-again, format_of, file_sizes_back, size-again}
use Rattle.request_file_transfer_response.specs.Writing.{response_of}
use Rattle.request_file_transfer_response.proofs.DemandThree.{position_of, RewriteResponseCall}
use Rattle.request_file_transfer_response.proofs.write.write_response.Kinds as kinds
use Rattle.request_file_transfer_response.proofs.write.write_response.Reads as write-response

-- a call of `write_response` that kept its contract: it was handed the response m and lent a buffer that held `room`, answered r and left the buffer holding `after`
pub record WriteResponseCall (m : Response) (room : List ℕ) (r : Result ℕ Refusal) (after : List ℕ) : Type 0 where
  pub lifetimes : Lfts 2
  pub args : Dens lifetimes kinds.ps
  pub exit : AtExit (ended_of 2 kinds.ps kinds.r) lifetimes
  pub handed : response_of args.0 args.1.0.now args.1.1.0.0 args.1.1.1.0 args.1.1.1.1.0.file_position ≡ m
  pub before : args.1.1.1.1.1.0.now ≡ room
  pub left : exit.1.1.1.1.1.0.now ≡ after
  pub met : write-response.Post lifetimes args r exit

pub write-response-longest : {m : Response} {room after : List ℕ} {n : ℕ} → WriteResponseCall m room (Ok n) after → n ≤ 292
write-response-longest c = wrote_at_most written-longest c.met

pub rewrite-response-longest : {s room after : List ℕ} {n tail : ℕ} → RewriteResponseCall s room (Ok (n, tail)) after → n ≤ 292
unfolding rewrite_response
rewrite-response-longest c = rewrote_at_most written-longest read_response c.met

-- whatever the contract has of a response, there is a call that does it
write_call : (m : Response) {room after : List ℕ} {r : Result ℕ Refusal} → Wrote (write_response m) room r after → WriteResponseCall m room r after
write_call m {room} {after} h =
    let kind = kind_back m.kind in
    let format = format_of m.format in
    let size = file_sizes_back m.uncompressed m.compressed in
    let position = position_of m.position in
    let same : response_of kind m.block m.format size m.position ≡ m = rw (kind-again m.kind, size-again m.uncompressed, size-again m.compressed) in
    record {
      lifetimes = ([], ([], tt));
      args = (kind, (slice m.block, (format, (size, (position, (buffer room, tt))))));
      exit = (kind, (slice m.block, (format, (size, (position, (buffer after, tt))))));
      handed = same;
      before = refl;
      left = refl;
      met = rw same h;
    }

pub longest-response-written : (m : Response) × WritableResponse (as_read m) × (room : List ℕ) × (after : List ℕ) × WriteResponseCall m room (Ok 292) after
longest-response-written =
    let (m, writable, long) = response_longest_reached in
    (m, writable, response_bytes m, over (response_bytes m) (response_bytes m), write_call m (wrote_all (write_read m writable).0 long))
