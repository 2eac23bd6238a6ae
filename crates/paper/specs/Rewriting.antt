-- What is claimed of a sort of message: that its reader accepts what is laid out as document 01 says and nothing else, and demand 3.
use Rattle.std.specs.Prelude.{ℕ, ◌≤◌, ◌≡◌, List, [], ◌++◌, ◌↔◌, length}
use Rattle.paper.specs.Answer.{Answer, accepted, refused, Read, ◌leaving◌, Reader, ◌>>=◌, hand_out, written}
use Rattle.paper.specs.Bytes.{Bytes}

-- accepted with value m and tail t, exactly if it is one of m's ways of being written followed by t
abbrev pub Layout : {A : Type 0} → Reader A → (A → List ℕ → Type 0) → Type 0
Layout {A} read Way =
    (s : List ℕ) (m : A) (t : List ℕ) → Bytes s → (read s ≡ accepted (m leaving t)) ↔ ((u : List ℕ) × Way m u × (s ≡ u ++ t))

-- the same of a sort whose messages take the whole rest: the tail is always empty
abbrev pub WholeLayout : {A : Type 0} → Reader A → (A → List ℕ → Type 0) → Type 0
WholeLayout {A} read Way = (s : List ℕ) (m : A) (t : List ℕ) → Bytes s → (read s ≡ accepted (m leaving t)) ↔ (Way m s × (t ≡ []))

-- s is a message, accepted with nothing left over, and a is its meaning
pub record Message (A : Type 0) (read : Reader A) (s : List ℕ) (a : A) : Type 0 where
  pub bytes : Bytes s
  pub whole : read s ≡ accepted (a leaving [])

-- a message read and written anew; the tail is not written
unfoldable pub rewriting : {A : Type 0} → Reader A → (A → Answer (List ℕ)) → Reader (List ℕ)
rewriting read write = do
  m ← read
  hand_out (write m)

-- what a rewriting call does: it answers the number of bytes written and the tail, or a refusal, and leaves the whole buffer with these contents
pub record RewrittenInto : Type 0 where
  pub answer : Answer (Read ℕ)
  pub contents : List ℕ

abbrev pub tail_beside : List ℕ → Answer ℕ → Answer (Read ℕ)
tail_beside t (accepted n) = accepted (n leaving t)
tail_beside t (refused r) = refused r

-- the reader's refusals first, and then the rewritten message is written into the buffer
abbrev pub rewritten_into : Answer (Read (List ℕ)) → List ℕ → RewrittenInto
rewritten_into (refused r) room = record { answer = refused r; contents = room }
rewritten_into (accepted (u leaving t)) room = record { answer = tail_beside t (written (accepted u) room).answer; contents = (written (accepted u) room).contents }

-- s is rewritten to u, with nothing left over
pub record Rewritten (rewrite : Reader (List ℕ)) (s u : List ℕ) : Type 0 where
  pub is : rewrite s ≡ accepted (u leaving [])

-- demand 3, of one sort of message
pub record Demand3 (A : Type 0) (read : Reader A) (rewrite : Reader (List ℕ)) : Type 0 where
  -- rewriting a message is never refused
  pub always : {s : List ℕ} {a : A} → Message A read s a → (u : List ℕ) × Rewritten rewrite s u
  -- two messages mean the same exactly when rewriting gives the same bytes
  pub same : {s t u v : List ℕ} {a b : A} → Message A read s a → Message A read t b → Rewritten rewrite s u → Rewritten rewrite t v → (a ≡ b) ↔ (u ≡ v)
  -- the rewritten message is accepted with nothing left over, and means the same
  pub kept : {s u : List ℕ} {a : A} → Message A read s a → Rewritten rewrite s u → Message A read u a
  -- rewriting twice changes nothing
  pub settled : {s u : List ℕ} {a : A} → Message A read s a → Rewritten rewrite s u → Rewritten rewrite u u
  -- the rewritten message is the shortest with its meaning
  pub shortest : {s t u : List ℕ} {a : A} → Message A read s a → Rewritten rewrite s u → Message A read t a → length u ≤ length t
  -- and no other is as short
  pub no_other : {s t u : List ℕ} {a : A} → Message A read s a → Rewritten rewrite s u → Message A read t a → length t ≡ length u → t ≡ u
