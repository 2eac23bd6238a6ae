-- Document 02, Req 08: a morning's messages in one call. The archive keeps a buffer of messages and a list of their lengths.
use Rattle.std.specs.Prelude.{ℕ, ◌≤◌, ◌<◌, ◌≡◌, List, [], ◌∷◌, ◌++◌, map, length, get_or, take, drop, leb, eqb}
use Rattle.paper.specs.Answer.{Refusal, cut, too_many, Answer, accepted, refused, check, Written, written}
use Rattle.paper.specs.Request.{read_request}
use Rattle.paper.specs.Tally.{sum}

-- ---- the messages
-- one after the other, each as long as its length says; a zero length is an empty message
unfoldable pub messages : (buffer lengths : List ℕ) → List (List ℕ)
messages buffer [] = []
messages buffer (n ∷ lengths) = take n buffer ∷ messages (drop n buffer) lengths

-- messages joined: one after the other, with nothing between them
unfoldable pub joined : List (List ℕ) → List ℕ
joined [] = []
joined (m ∷ ms) = m ++ joined ms

-- ---- the numbers
-- the refusal number of an answer: 0 is accepted
abbrev pub number_in : {A : Type 0} → Answer A → ℕ
number_in (accepted a) = 0
number_in (refused e) = e.number

-- of reading one request; what is left over is no refusal
unfoldable pub number_of : List ℕ → ℕ
number_of s = number_in (read_request s)

-- the refusal number of each: 12 for more than 4,096 messages, then 10 where the lengths don't add up to the buffer exactly
unfoldable pub batch_numbers : (buffer lengths : List ℕ) → Answer (List ℕ)
batch_numbers buffer lengths =
    check (leb (length lengths) 4096) too_many
    (check (eqb (sum lengths) (length buffer)) cut
    (accepted (map number_of (messages buffer lengths))))

-- ---- the lent list
-- filled from its start, entries beyond the count as before; 7 last, with the count of messages and the list's length; refused, the list is untouched
unfoldable pub read_batch : (buffer lengths list : List ℕ) → Written
read_batch buffer lengths list = written (batch_numbers buffer lengths) list

-- ---- what is to hold of a batch, whoever reads it
-- message k by its place: the lengths before it added up
abbrev pub message_at : (buffer lengths : List ℕ) → ℕ → List ℕ
message_at buffer lengths k = take (get_or lengths k 0) (drop (sum (take k lengths)) buffer)

-- entry for entry a batch equals reading its messages one by one.
-- `Answers buffer lengths old a new`: whoever was lent the buffer, the lengths and a list that held `old` answered a, and left the list holding `new`
pub record EntryForEntry (Answers : (buffer lengths old : List ℕ) → Answer ℕ → List ℕ → Type 0) : Type 0 where
  -- the answer is the count of the messages, and the list has an entry for each
  pub count : {buffer lengths old new : List ℕ} {n : ℕ} → Answers buffer lengths old (accepted n) new → (n ≡ length lengths) × (n ≤ length new)
  -- entry k is the refusal number of reading message k by itself
  pub entry : {buffer lengths old new : List ℕ} {n : ℕ} → Answers buffer lengths old (accepted n) new → (k : ℕ) → k < n → get_or new k 0 ≡ number_of (message_at buffer lengths k)
  -- entries beyond the count stay as before, and the list as long
  pub beyond : {buffer lengths old new : List ℕ} {n : ℕ} → Answers buffer lengths old (accepted n) new → (k : ℕ) → n ≤ k → get_or new k 0 ≡ get_or old k 0
  pub same_length : {buffer lengths old new : List ℕ} {n : ℕ} → Answers buffer lengths old (accepted n) new → length new ≡ length old
  -- refused, the list is untouched
  pub untouched : {buffer lengths old new : List ℕ} {e : Refusal} → Answers buffer lengths old (refused e) new → new ≡ old
