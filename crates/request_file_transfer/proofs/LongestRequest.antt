-- The longest request, of the calls of this crate: none answers that it wrote more than 65,572 bytes, and there is one that answers just that.
-- Assumes nothing.
use Prim.Native.Nat.{ℕ, ◌≤◌}
use mathlib.Core.Path.{◌≡◌, refl}
use mathlib.Core.List.{List, []}
use contract.Lifetimes.{Lfts}
use denote.Triple.Clauses.{AtExit}
use borrow.Fn.Kinds.{Dens, ended_of}
use Rattle.std.specs.Prelude.{Result, Ok}
use Rattle.paper.specs.Answer.{over}
use Rattle.paper.specs.Request.{Request, read_request, request_bytes, write_request, rewrite_request, WritableRequest, as_read}
use Rattle.paper.proofs.Request.{write_read, written-longest, request_longest_reached}
use Rattle.wire.specs.Writing.{Wrote}
use Rattle.wire.specs.declared.refusal.Refusal.{Refusal}
use Rattle.file_operation.proofs.Calls.{slice, buffer}
use Rattle.file_operation.proofs.Longest.{wrote_at_most, rewrote_at_most, wrote_all}
use Rattle.file_operation.proofs.Unique.{kind_back, kind-again, format_of, sizes_back, size-again}
use Rattle.request_file_transfer.specs.Writing.{request_of}
use Rattle.request_file_transfer.proofs.DemandThree.{RewriteRequestCall}
use Rattle.request_file_transfer.proofs.write.write_request.Kinds as kinds
use Rattle.request_file_transfer.proofs.write.write_request.Reads as write-request

-- a call of `write_request` that kept its contract: it was handed the request m and lent a buffer that held `room`, answered r and left the buffer holding `after`
pub record WriteRequestCall (m : Request) (room : List ℕ) (r : Result ℕ Refusal) (after : List ℕ) : Type 0 where
  pub lifetimes : Lfts 2
  pub args : Dens lifetimes kinds.ps
  pub exit : AtExit (ended_of 2 kinds.ps kinds.r) lifetimes
  pub handed : request_of args.0 args.1.0.now args.1.1.0.0 args.1.1.1.0 ≡ m
  pub before : args.1.1.1.1.0.now ≡ room
  pub left : exit.1.1.1.1.0.now ≡ after
  pub met : write-request.Post lifetimes args r exit

pub write-request-longest : {m : Request} {room after : List ℕ} {n : ℕ} → WriteRequestCall m room (Ok n) after → n ≤ 65572
write-request-longest c = wrote_at_most written-longest c.met

pub rewrite-request-longest : {s room after : List ℕ} {n tail : ℕ} → RewriteRequestCall s room (Ok (n, tail)) after → n ≤ 65572
unfolding rewrite_request
rewrite-request-longest c = rewrote_at_most written-longest read_request c.met

-- whatever the contract has of a request, there is a call that does it
write_call : (m : Request) {room after : List ℕ} {r : Result ℕ Refusal} → Wrote (write_request m) room r after → WriteRequestCall m room r after
write_call m {room} {after} h =
    let kind = kind_back m.kind in
    let format = format_of m.format in
    let size = sizes_back m.uncompressed m.compressed in
    let same : request_of kind m.name m.format size ≡ m = rw (kind-again m.kind, size-again m.uncompressed, size-again m.compressed) in
    record {
      lifetimes = ([], ([], tt));
      args = (kind, (slice m.name, (format, (size, (buffer room, tt)))));
      exit = (kind, (slice m.name, (format, (size, (buffer after, tt)))));
      handed = same;
      before = refl;
      left = refl;
      met = rw same h;
    }

pub longest-request-written : (m : Request) × WritableRequest (as_read m) × (room : List ℕ) × (after : List ℕ) × WriteRequestCall m room (Ok 65572) after
longest-request-written =
    let (m, writable, long) = request_longest_reached in
    (m, writable, request_bytes m, over (request_bytes m) (request_bytes m), write_call m (wrote_all (write_read m writable).0 long))
