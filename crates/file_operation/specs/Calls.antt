-- Demand 3 in terms of calls: what reading and rewriting promise of the messages of one sort.
-- `Reads s x`: a call of the reader, lent the message s, answered x (the record and where the tail begins, or a refusal); it is a `ReadCall`.
-- `Rewrites s room r after`: a call of the rewriter, lent the message s and a buffer that held `room`, answered r and left the buffer holding `after`; it is a `RewriteCall`.
-- `Same s q t p`: the record q, read from s, and the record p, read from t, say the same.
-- A call is its lifetimes, arguments, exit and result, and that they meet the contract: that every run of the function is such a call, its own proof says.
use Rattle.std.specs.Prelude.{◌≡◌, ℕ, ◌≤◌, ◌<◌, List, ◌↔◌, length, take, Ok}
use contract.Lifetimes.{Lfts}
use Rattle.std.specs.Borrow.{Bor, MutBor}
use Rattle.paper.specs.Bytes.{Bytes}
use Rattle.wire.specs.Reading.{Seen}

-- what a reader is lent, a message; and what a rewriter is lent, a message and a buffer
abbrev pub OneSlice : Type 0
OneSlice = Bor (List ℕ) × Unit {0}

abbrev pub TwoSlices : Type 0
TwoSlices = Bor (List ℕ) × (MutBor (List ℕ) × Unit {0})

-- a call of the reader with this contract, as the check reads it: it was lent the message s and answered x
pub record ReadCall {Q : Type 0} (Post : Lfts 1 → OneSlice → Seen Q → OneSlice → Type 0) (s : List ℕ) (x : Seen Q) : Type 0 where
  pub lifetimes : Lfts 1
  pub args : OneSlice
  pub exit : OneSlice
  pub lent : args.0.now ≡ s
  pub met : Post lifetimes args x exit

-- a call of the rewriter with this contract: it was lent the message s and a buffer that held `room`, answered r and left the buffer holding `after`
pub record RewriteCall (Post : Lfts 2 → TwoSlices → Seen ℕ → TwoSlices → Type 0) (s room : List ℕ) (r : Seen ℕ) (after : List ℕ) : Type 0 where
  pub lifetimes : Lfts 2
  pub args : TwoSlices
  pub exit : TwoSlices
  pub lent : args.0.now ≡ s
  pub before : args.1.0.now ≡ room
  pub left : exit.1.0.now ≡ after
  pub met : Post lifetimes args r exit

-- the message s was accepted with nothing left over, and q is what was read
pub record Whole (Q : Type 0) (Reads : List ℕ → Seen Q → Type 0) (s : List ℕ) (q : Q) : Type 0 where
  pub bytes : Bytes s
  pub read : Reads s (Ok (q, length s))

-- the message s was rewritten to u: that many bytes were written into some buffer, and they are u
pub record Became (Rewrites : List ℕ → List ℕ → Seen ℕ → List ℕ → Type 0) (s u : List ℕ) : Type 0 where
  pub room : List ℕ
  pub after : List ℕ
  pub tail : ℕ
  pub rewrote : Rewrites s room (Ok (length u, tail)) after
  pub front : take (length u) after ≡ u

pub record Demand3 (Q : Type 0) (Reads : List ℕ → Seen Q → Type 0) (Rewrites : List ℕ → List ℕ → Seen ℕ → List ℕ → Type 0)
    (Same : List ℕ → Q → List ℕ → Q → Type 0) : Type 0 where
  -- rewriting a message is not refused where the room is as long as the message
  pub always : {s room after : List ℕ} {q : Q} {r : Seen ℕ} → Whole Q Reads s q → length s ≤ length room → Rewrites s room r after
      → (u : List ℕ) × Became Rewrites s u × (r ≡ Ok (length u, length s))
  -- two messages say the same exactly if rewriting gives the same bytes
  pub same : {s t u v : List ℕ} {q p : Q} → Whole Q Reads s q → Whole Q Reads t p → Became Rewrites s u → Became Rewrites t v → Same s q t p ↔ (u ≡ v)
  -- whoever reads the rewritten message accepts it with nothing left over, and it says the same
  pub kept : {s u : List ℕ} {q : Q} {x : Seen Q} → Whole Q Reads s q → Became Rewrites s u → Reads u x → (p : Q) × (x ≡ Ok (p, length u)) × Same s q u p
  -- rewriting a rewritten message changes nothing
  pub settled : {s u v : List ℕ} {q : Q} → Whole Q Reads s q → Became Rewrites s u → Became Rewrites u v → v ≡ u
  -- the rewritten message is the shortest that says the same
  pub shortest : {s t u : List ℕ} {q p : Q} → Whole Q Reads s q → Became Rewrites s u → Whole Q Reads t p → Same s q t p → length u ≤ length t
  -- and no other is as short
  pub no_other : {s t u : List ℕ} {q p : Q} → Whole Q Reads s q → Became Rewrites s u → Whole Q Reads t p → Same s q t p → length t ≡ length u → t ≡ u

-- an example of what demand 3 speaks of: the message s was read, and rewritten to a shorter one, u; that was read, says the same, and was rewritten to itself
pub record Example (Q : Type 0) (Reads : List ℕ → Seen Q → Type 0) (Rewrites : List ℕ → List ℕ → Seen ℕ → List ℕ → Type 0)
    (Same : List ℕ → Q → List ℕ → Q → Type 0) (s u : List ℕ) : Type 0 where
  pub first : Q
  pub second : Q
  pub read : Whole Q Reads s first
  pub became : Became Rewrites s u
  pub shorter : length u < length s
  pub reread : Whole Q Reads u second
  pub same : Same s first u second
  pub settled : Became Rewrites u u
