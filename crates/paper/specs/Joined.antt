-- Document 02, Req 13: several requests in one buffer. The archive joins rewritten requests without lengths (`Batch.joined`), and takes them apart again.
use Rattle.std.specs.Prelude.{ℕ, zero, suc, ◌-◌, ◌≤◌, ◌<◌, ◌≡◌, List, [], ◌∷◌, ◌++◌, map, length}
use Rattle.paper.specs.Answer.{Refusal, too_many, Answer, accepted, refused, ◌then◌, Read, ◌leaving◌, Reader, Written, written}
use Rattle.paper.specs.Bytes.{Bytes}
use Rattle.paper.specs.Rewriting.{Message, Rewritten}
use Rattle.paper.specs.Request.{Request, read_request}
use Rattle.paper.specs.Tally.{sum}
use Rattle.paper.specs.Batch.{messages, joined}

-- ---- what makes it so
-- what a reader takes does not depend on what follows: with other bytes in the tail's place it takes the same, and they mean the same. An empty message it refuses.
pub record TakesItsOwn (A : Type 0) (read : Reader A) : Type 0 where
  pub alike : (u t : List ℕ) {a : A} → Bytes (u ++ t) → read (u ++ t) ≡ accepted (a leaving t) → (v : List ℕ) → read (u ++ v) ≡ accepted (a leaving v)
  pub some : {a : A} {t : List ℕ} → read [] ≡ accepted (a leaving t) → ⊥

-- ---- what is to hold of messages that are joined
-- accepted with nothing left over, whatever it means
pub record Whole (A : Type 0) (read : Reader A) (s : List ℕ) : Type 0 where
  pub meaning : A
  pub message : Message A read s meaning

-- what some accepted whole message was rewritten to
pub record FromRewriting (A : Type 0) (read : Reader A) (rewrite : Reader (List ℕ)) (u : List ℕ) : Type 0 where
  pub before : List ℕ
  pub whole : Whole A read before
  pub rewritten : Rewritten rewrite before u

-- each element of a list is so
abbrev pub Each : {A : Type 0} → (A → Type 0) → List A → Type 0
Each P [] = Unit {0}
Each P (x ∷ xs) = P x × Each P xs

pub record Joinable (A : Type 0) (read : Reader A) (rewrite : Reader (List ℕ)) : Type 0 where
  -- no accepted whole message begins a longer one
  pub begins_none : {s t : List ℕ} → Whole A read s → Whole A read (s ++ t) → t ≡ []
  -- two lists of accepted whole messages whose joined bytes are equal are the same list
  pub same_messages : (ms ns : List (List ℕ)) → Each (Whole A read) ms → Each (Whole A read) ns → joined ms ≡ joined ns → ms ≡ ns
  -- so are two lists of rewritten messages
  pub same_rewritten : (us vs : List (List ℕ)) → Each (FromRewriting A read rewrite) us → Each (FromRewriting A read rewrite) vs → joined us ≡ joined vs → us ≡ vs

-- ---- taken apart again
-- the lengths of the pieces that were accepted, one after the other; and how it ended: with the buffer, or with the refusal of the piece that follows them
pub record Pieces : Type 0 where
  pub lengths : List ℕ
  pub ended : Answer (Unit {0})

-- a piece is what the reader takes of the bytes from its start on, as it stands there; the first that is refused ends it
abbrev pub one_piece : List ℕ → Answer (Read Request) → (List ℕ → Pieces) → Pieces
one_piece s (accepted (m leaving t)) rest = record { lengths = (length s - length t) ∷ (rest t).lengths; ended = (rest t).ended }
one_piece s (refused e) rest = record { lengths = []; ended = refused e }

-- no bytes are no piece
abbrev pub unless_none : List ℕ → Pieces → Pieces
unless_none [] p = record { lengths = []; ended = accepted tt }
unless_none (b ∷ s) p = p

-- at most so many pieces: 12 where bytes follow them
unfoldable pub pieces : ℕ → List ℕ → Pieces
pieces zero s = unless_none s (record { lengths = []; ended = refused too_many })
pieces (suc most) s = unless_none s (one_piece s (read_request s) (pieces most))

-- of a joined buffer at most 4,096
abbrev pub pieces_of : List ℕ → Pieces
pieces_of s = pieces 4096 s

-- all lengths, where it ended with the buffer
unfoldable pub piece_lengths : List ℕ → Answer (List ℕ)
piece_lengths s = (pieces_of s).ended then accepted (pieces_of s).lengths

-- what the call does to a lent list: it is filled from its start, 7 comes last, and refused it is untouched. Beside the answer stands how many pieces were found:
-- of a piece that was refused this is its place, counted from 0
pub record TakenApart : Type 0 where
  pub filled : Written
  pub found : ℕ

unfoldable pub taken_apart : (buffer list : List ℕ) → TakenApart
taken_apart buffer list = record { filled = written (piece_lengths buffer) list; found = length (pieces_of buffer).lengths }

-- ---- what is to hold of every buffer that is taken apart
-- how it ends after so many pieces, where this is left of the buffer: nothing is; or the reader refuses it; or there is no place for a piece more
pub data Ends (most found : ℕ) (rest : List ℕ) : Answer (Unit {0}) → Type 0 where
  with_the_buffer : rest ≡ [] → Ends most found rest (accepted tt)
  at_a_piece : {e : Refusal} → found < most → (rest ≡ [] → ⊥) → read_request rest ≡ refused e → Ends most found rest (refused e)
  at_the_most : found ≡ most → (rest ≡ [] → ⊥) → Ends most found rest (refused too_many)

-- the buffer is whole requests, joined, and a rest; the pieces are those requests
pub record Parts (most : ℕ) (s : List ℕ) (p : Pieces) : Type 0 where
  pub requests : List (List ℕ)
  pub rest : List ℕ
  pub whole : Each (Whole Request read_request) requests
  pub is : s ≡ joined requests ++ rest
  pub lengths : p.lengths ≡ map length requests
  pub few : length requests ≤ most
  pub ended : Ends most (length requests) rest p.ended

-- a buffer that is accepted: its messages by the lengths that are answered are whole requests, their join is the buffer, and their lengths are these
pub record TakenApartTo (s ls : List ℕ) : Type 0 where
  pub few : length ls ≤ 4096
  pub whole : Each (Whole Request read_request) (messages s ls)
  pub again : joined (messages s ls) ≡ s
  pub lengths : map length (messages s ls) ≡ ls
  pub adds_up : sum ls ≡ length s

-- the length of a request: 32 bits hold it
abbrev pub OneRequest : ℕ → Type 0
OneRequest n = (1 ≤ n) × (n ≤ 65572)
