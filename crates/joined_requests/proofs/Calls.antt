-- Document 02, Req 13, of the calls: what `read_request`, `rewrite_request` and `split_joined` promise together.
-- Assumes nothing.
use Prim.Native.Nat.{ℕ, ◌≤◌}
use mathlib.Core.Path.{◌≡◌, refl, sym, ap, ◌∙◌}
use mathlib.Core.List.{List, map}
use native.Mathlib.Omega.{arith}
use borrow.Author.Tests.{le-leb}
use lib.ListN.{length, replicate, take, drop, length-map}
use lib.Seq.{take_at, drop_at}
use Rattle.std.specs.Prelude.{Result, Ok, Err}
use Rattle.paper.specs.Answer.{accepted, over}
use Rattle.paper.specs.Bytes.{Bytes}
use Rattle.paper.specs.Batch.{joined, batch_numbers}
use Rattle.paper.specs.Joined.{Each, pieces_of, piece_lengths, taken_apart, TakenApartTo}
use Rattle.paper.proofs.Choice.{then_passed}
use Rattle.paper.proofs.Batch.{wrote_is, refused-is}
use Rattle.paper.proofs.Joined.{WholeRequests, pieces-of-joined, taken_apart_to, apart_numbers}
use Rattle.file_operation.specs.Joined.{WasWhole, WasRewritten}
use Rattle.file_operation.proofs.Joined.{each, on_paper_whole, on_paper_kept}
use Rattle.request_file_transfer.specs.declared.read.RequestFileTransferRequest.{RequestFileTransferRequest}
use Rattle.request_file_transfer.proofs.DemandThree.{ReadRequestCall, RewriteRequestCall, requests-keep}
use Rattle.joined_requests.specs.Split.{Split}
use Rattle.joined_requests.specs.Calls.{SplitCall}
use Rattle.joined_requests.specs.declared.SplitError.{SplitError}
use Rattle.joined_requests.proofs.Unique.{split_once}
use Rattle.joined_requests.proofs.split_joined.Reads as split-joined

-- the calls of `split_joined` that kept their contract
abbrev pub SplitJoinedCall : List ℕ → List ℕ → Result ℕ SplitError → List ℕ → Type 0
SplitJoinedCall = SplitCall split-joined.Post

-- what they were lent, answered and left is the paper's
kept : {s list after : List ℕ} {r : Result ℕ SplitError} → SplitJoinedCall s list r after → Split s list r after
kept c = rw (← c.lent, ← c.before, ← c.left) c.met

-- ---- joined and taken apart
lengths_are : (s ls : List ℕ) → piece_lengths s ≡ accepted ls → (pieces_of s).lengths ≡ ls
unfolding piece_lengths
lengths_are s ls e = let (x, ended, lengths) = then_passed (pieces_of s).ended (accepted (pieces_of s).lengths) e in cc

right : (s list ls : List ℕ) → piece_lengths s ≡ accepted ls → length ls ≤ length list → Split s list (Ok (length ls)) (over ls list)
unfolding taken_apart
right s list ls e room = record { answer = rw (e, le-leb _ _ room); found = sym (ap length (lengths_are s ls e)); contents = rw (e, le-leb _ _ room) }

-- a join of whole requests is taken apart to their lengths, where there are at most 4,096 and the list is long enough
from_whole : (ms : List (List ℕ)) {list after : List ℕ} {r : Result ℕ SplitError} → WholeRequests ms → length ms ≤ 4096 → length ms ≤ length list
    → SplitJoinedCall (joined ms) list r after → (r ≡ Ok (length ms)) × (after ≡ over (map length ms) list)
from_whole ms {list} w few room c =
    let many : length (map length ms) ≡ length ms = length-map ms length in
    let (answer, contents) = split_once (kept c) (right (joined ms) list (map length ms) (pieces-of-joined ms w few) (omega arith)) in
    (answer ∙ ap Ok many, contents)

-- of requests that were read with nothing left over
pub joined-split : (ms : List (List ℕ)) {list after : List ℕ} {r : Result ℕ SplitError} → Each (WasWhole RequestFileTransferRequest ReadRequestCall) ms → length ms ≤ 4096 → length ms ≤ length list
    → SplitJoinedCall (joined ms) list r after → (r ≡ Ok (length ms)) × (after ≡ over (map length ms) list)
joined-split ms w = from_whole ms (each (on_paper_whole requests-keep) ms w)

-- and of what was rewritten, as the archive joins it
pub rewritten-split : (us : List (List ℕ)) {list after : List ℕ} {r : Result ℕ SplitError} → Each (WasRewritten RequestFileTransferRequest ReadRequestCall RewriteRequestCall) us → length us ≤ 4096
    → length us ≤ length list → SplitJoinedCall (joined us) list r after → (r ≡ Ok (length us)) × (after ≡ over (map length us) list)
rewritten-split us w = from_whole us (each (on_paper_kept requests-keep) us w)

-- ---- taken apart, whatever the buffer
module _ (s list after : List ℕ) {n : ℕ} where
  front_and_rest : (ls : List ℕ) → n ≡ length ls → after ≡ over ls list → (take n after ≡ ls) × (length (take n after) ≡ n) × (drop n after ≡ drop n list)
  unfolding over
  front_and_rest ls e f =
      let front : take n after ≡ ls = rw (e, f) (take_at ls (drop (length ls) list) (length ls) refl) in
      (front, ap length front ∙ sym e, rw (e, f) (drop_at ls (drop (length ls) list) (length ls) refl))

  answered-lengths : SplitJoinedCall s list (Ok n) after → (piece_lengths s ≡ accepted (take n after)) × (length (take n after) ≡ n) × (drop n after ≡ drop n list)
  unfolding taken_apart
  answered-lengths c =
      let h = kept c in
      let (ls, lengths, many, room, full) = wrote_is (piece_lengths s) list (sym h.answer) in
      let (front, long, rest) = front_and_rest ls many (h.contents ∙ full) in
      (lengths ∙ ap accepted (sym front), long, rest)

module _ {s list after : List ℕ} {n : ℕ} (b : Bytes s) (c : SplitJoinedCall s list (Ok n) after) where
  -- where n pieces are answered, the first n entries of the list are the lengths of whole requests whose join is the buffer, and the others are as before
  pub split-accepted : TakenApartTo s (take n after) × (drop n after ≡ drop n list)
  split-accepted = let (lengths, many, rest) = answered-lengths s list after c in (taken_apart_to s (take n after) b lengths, rest)

  -- so to read them all in one call, with these lengths, gives 0 for each
  pub split_and_read : batch_numbers s (take n after) ≡ accepted (replicate n 0)
  split_and_read = let (lengths, many, rest) = answered-lengths s list after c in apart_numbers s (take n after) b lengths ∙ ap (λ (k : ℕ). accepted (replicate k 0)) many

-- refused, the list is as it was
pub refused-untouched : {s list after : List ℕ} {e : SplitError} → SplitJoinedCall s list (Err e) after → after ≡ list
unfolding taken_apart
refused-untouched {s} {list} c = let h = kept c in h.contents ∙ refused-is (piece_lengths s) list (sym h.answer)
