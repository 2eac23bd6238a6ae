-- What the paper says of an input, by cases: too long, and read.
-- Assumes nothing.
use mathlib.Core.Path.{◌≡◌, refl, sym, ap, ◌∙◌}
use Prim.Native.Nat.{ℕ, ◌-◌, ◌≤◌, ◌<◌}
use mathlib.Core.List.{List}
use native.Mathlib.Omega.{arith}
use borrow.Author.Tests.{lt-leb, le-leb}
use lib.ListN.{length, length-drop}
use Rattle.std.specs.Prelude.{Ok}
use Rattle.paper.specs.Answer.{Refusal, Answer, accepted, refused}
use Rattle.paper.specs.Bytes.{Bytes}
use Rattle.paper.specs.Kind.{mode_of}
use Rattle.paper.specs.Request.{AfterName, after_name, read_request, request_bytes, good_name, write_request}
use Rattle.paper.specs.ReadingProgram.{Shown, format_shown, too_long, good, line_for, line_of}
use Rattle.paper.proofs.Choice.{never}
use Rattle.paper.proofs.Request.{request-name}
use Rattle.wire.specs.Place.{bytes_at}
use Rattle.wire.specs.declared.place.Place.{Place}
use Rattle.wire.proofs.Unique.{place_back}
use Rattle.file_operation.specs.Mode.{kind_of}
use Rattle.file_operation.specs.Writing.{length_in}
use Rattle.file_operation.proofs.Lengths.{accepted_then}
use Rattle.request_file_transfer.specs.Reading.{meant, RequestRight}
use Rattle.request_file_transfer.specs.Writing.{request_of}
use Rattle.request_file_transfer.specs.declared.read.RequestFileTransferRequest.{RequestFileTransferRequest}
use Rattle.request_file_transfer.proofs.Laid as laid

-- the input is too long
pub too_long_lem : (s : List ℕ) → 4096 < length s → too_long ≡ line_of s
unfolding line_of
too_long_lem s h = rw (lt-leb _ _ h)

-- it is not: the reader's answer decides
pub by_answer : (s : List ℕ) → length s ≤ 4096 → line_for (read_request s) ≡ line_of s
unfolding line_of
by_answer s h = rw (le-leb _ _ h)

-- a request was read, and `name` is the part of the input at the name's place
module _ (s : List ℕ) (q : RequestFileTransferRequest) (tail : ℕ) {name : List ℕ} (right : RequestRight s (Ok (q, tail))) (part : name ≡ bytes_at s q.file_path_and_name) where
  -- what `needed` is to answer
  abbrev pub wanted : Answer ℕ
  wanted = length_in (write_request (request_of q.kind name 0 q.size))

  -- a refusal: there is none, since what was read can be written
  pub no_refusal : {e : Refusal} → Bytes s → refused e ≡ wanted → ⊥
  no_refusal bytes said = never (said ∙ ap length_in (laid.good q.kind name q.size 0 (rw part (request-name s bytes (sym right.paper)).0)))

  -- a number: that of the bytes of the request, whatever its format byte
  normal_is : {n : ℕ} → accepted n ≡ wanted → n ≡ length (request_bytes (meant s q))
  normal_is said =
      let f = q.data_format_identifier.0 in
      let (x, passed, long) = accepted_then (good_name name) _ (said ∙ laid.length_is q.kind name q.size 0) in
      rw (← part) (omega (arith, laid.as_many q.kind name q.size f, laid.length_request q.kind name q.size f))

  -- the name is as long as its place
  name-is : q.file_path_and_name.len ≡ length (bytes_at s q.file_path_and_name)
  name-is = let h = right.place in sym (ap Place.len (place_back s q.file_path_and_name refl (omega (arith, h.begins, h.ends))))

  -- the line of the request
  pub read_line : {kind normal : ℕ} {layout : AfterName} {format : Shown} → accepted normal ≡ wanted → kind ≡ mode_of (kind_of q.kind)
      → layout ≡ after_name (kind_of q.kind) → format ≡ format_shown layout q.data_format_identifier.0 → good kind q.file_path_and_name.len format normal (length s - tail) ≡ line_for (read_request s)
  read_line said is table shown = rw (is, name-is, shown, table, normal_is said, ← length-drop tail s) (ap line_for right.paper)
