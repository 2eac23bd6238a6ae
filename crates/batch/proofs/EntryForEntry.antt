-- Entry for entry a call of `read_batch` equals reading the messages one by one: on paper, and beside calls of `read_request`.
-- Assumes nothing.
use mathlib.Core.Path.{◌≡◌, refl, sym, ◌∙◌}
use Prim.Native.Nat.{ℕ}
use mathlib.Core.List.{List, [], ◌∷◌}
use Rattle.paper.specs.Answer.{Answer, accepted, ◌>>=◌, give, refuse, over}
use Rattle.paper.specs.Bytes.{of_bytes}
use Rattle.paper.specs.Utf8.{in_range, begins, first_row, char_length, valid_from, valid_up_to, is_utf8}
use Rattle.paper.specs.Kind.{one_of, known}
use Rattle.paper.specs.Field.{part, byte, headed, counted, name}
use Rattle.paper.specs.Request.{read_request}
use Rattle.paper.specs.Tally.{sum}
use Rattle.paper.specs.Batch.{messages, number_in, number_of, batch_numbers, read_batch, message_at, EntryForEntry}
use Rattle.paper.proofs.Batch.{PaperBatch, entry_for_entry}
use Rattle.std.specs.Prelude.{Ok, Err}
use Rattle.wire.specs.Reading.{Seen, said}
use Rattle.wire.specs.declared.refusal.Refusal.{Refusal}
use Rattle.file_operation.proofs.Calls.{slice, buffer as lent}
use Rattle.request_file_transfer.specs.Reading.{meant}
use Rattle.request_file_transfer.specs.declared.read.RequestFileTransferRequest.{RequestFileTransferRequest}
use Rattle.request_file_transfer.proofs.DemandThree.{ReadRequestCall, requests-keep}
use Rattle.batch.specs.Calls.{BatchCall, number_seen, OneByOne}
use Rattle.batch.proofs.Numbers.{number_read_lem}
use Rattle.batch.proofs.read_batch.Reads as read-batch

-- the calls of `read_batch` that kept their contract
abbrev pub ReadBatchCall : (buffer lengths old : List ℕ) → Answer ℕ → List ℕ → Type 0
ReadBatchCall = BatchCall read-batch.Post

-- what such a call says and leaves is the paper's
as_on_paper : (b ls old : List ℕ) (a : Answer ℕ) (new : List ℕ) → ReadBatchCall b ls old a new → PaperBatch b ls old a new
unfolding read_batch
as_on_paper b ls old a new c =
    rw (← c.buffer_lent, ← c.lengths_lent, ← c.before) (sym c.says ∙ c.met.answer, sym c.left ∙ c.met.contents)

pub calls_entry_for_entry : EntryForEntry ReadBatchCall
calls_entry_for_entry = entry_for_entry ReadBatchCall as_on_paper

-- the number of what a call of the reader answered is the paper's number of its message
number-seen : (s : List ℕ) (x : Seen RequestFileTransferRequest) → number_in (said (meant s) s x) ≡ number_seen x
number-seen s (Ok (q, tail)) = refl
number-seen s (Err e) = refl

pub calls_one_by_one : OneByOne RequestFileTransferRequest ReadRequestCall ReadBatchCall
calls_one_by_one = record {
  same = λ {buffer} {lengths} {old} {new} {n} h k l {x} c.
      let s = message_at buffer lengths k in
      calls_entry_for_entry.entry h k l ∙ sym (number_read_lem s ((requests-keep.reads s x).0 c)) ∙ number-seen s x;
}

-- and there are such calls: here of two messages, the first with a byte left over and the second empty, into a list of three; and of reading the second by itself
abbrev buffer : List ℕ
buffer = 0x02 ∷ 0x00 ∷ 0x01 ∷ 0x61 ∷ 0x5A ∷ []

abbrev lengths : List ℕ
lengths = 5 ∷ 0 ∷ []

pub example : ReadBatchCall buffer lengths (99 ∷ 99 ∷ 99 ∷ []) (accepted 2) (0 ∷ 1 ∷ 99 ∷ [])
unfolding ◌>>=◌ give refuse over of_bytes in_range begins first_row char_length valid_from valid_up_to is_utf8 one_of known part byte headed counted name read_request sum messages number_of batch_numbers
example = record {
  lifetimes = ([], ([], ([], tt)));
  args = (slice buffer, (slice lengths, (lent (99 ∷ 99 ∷ 99 ∷ []), tt)));
  exit = (slice buffer, (slice lengths, (lent (0 ∷ 1 ∷ 99 ∷ []), tt)));
  result = Ok 2;
  buffer_lent = refl;
  lengths_lent = refl;
  before = refl;
  left = refl;
  says = refl;
  met = record { answer = refl; contents = refl };
}

pub example_alone : ReadRequestCall (message_at buffer lengths 1) (Err (Refusal.TooShort 1 0))
unfolding ◌>>=◌ part byte read_request sum
example_alone = (requests-keep.reads (message_at buffer lengths 1) (Err (Refusal.TooShort 1 0))).1 (record { paper = refl; place = tt })
