-- A batch in terms of calls: what a call that reads a batch says beside calls of the reader, one for each message.
-- `Batches buffer lengths old a new`: a call that was lent the buffer, the lengths and a list that held `old` said a, and left the list holding `new`; it is a `BatchCall`.
-- `Reads s x`: a call of the reader, lent the message s, answered x (the record and where the tail begins, or a refusal).
-- A call is its lifetimes, arguments, exit and result, and that they meet the contract: that every run of the function is such a call, its own proof says.
use Rattle.std.specs.Prelude.{◌≡◌, ℕ, ◌<◌, List, get_or, Result, Ok, Err}
use contract.Lifetimes.{Lfts}
use Rattle.std.specs.Borrow.{Bor}
use Rattle.paper.specs.Answer.{Answer, accepted}
use Rattle.paper.specs.Batch.{message_at}
use Rattle.wire.specs.Refusals.{row}
use Rattle.wire.specs.Reading.{Seen}
use Rattle.wire.specs.Writing.{told}
use Rattle.wire.specs.declared.refusal.Refusal.{Refusal}
use Rattle.file_operation.specs.Calls.{TwoSlices}

-- what the call is lent: a buffer, lengths and a list
abbrev pub ThreeSlices : Type 0
ThreeSlices = Bor (List ℕ) × TwoSlices

-- a call of the function with this contract, as the check reads it
pub record BatchCall (Post : Lfts 3 → ThreeSlices → Result ℕ Refusal → ThreeSlices → Type 0) (buffer lengths old : List ℕ) (a : Answer ℕ) (new : List ℕ) : Type 0 where
  pub lifetimes : Lfts 3
  pub args : ThreeSlices
  pub exit : ThreeSlices
  pub result : Result ℕ Refusal
  pub buffer_lent : args.0.now ≡ buffer
  pub lengths_lent : args.1.0.now ≡ lengths
  pub before : args.1.1.0.now ≡ old
  pub left : exit.1.1.0.now ≡ new
  pub says : told result ≡ a
  pub met : Post lifetimes args result exit

-- the refusal number of what a reader answered
abbrev pub number_seen : {Q : Type 0} → Seen Q → ℕ
number_seen (Ok (q, tail)) = 0
number_seen (Err e) = (row e).number

-- whoever reads message k by itself gets the number that stands in entry k
pub record OneByOne (Q : Type 0) (Reads : List ℕ → Seen Q → Type 0) (Batches : (buffer lengths old : List ℕ) → Answer ℕ → List ℕ → Type 0) : Type 0 where
  pub same : {buffer lengths old new : List ℕ} {n : ℕ} → Batches buffer lengths old (accepted n) new
      → (k : ℕ) → k < n → {x : Seen Q} → Reads (message_at buffer lengths k) x → get_or new k 0 ≡ number_seen x
