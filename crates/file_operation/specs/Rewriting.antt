-- What the answer of a rewriting call says of the message, in the paper's terms, and what such a call promises. It is seen as a reader's, with the number of bytes written as the value.
use Rattle.std.specs.Prelude.{◌≡◌, ℕ, ◌≤◌, List, length, Result, Ok, Err}
use Rattle.paper.specs.Answer.{Answer, Read, Reader}
use Rattle.paper.specs.Rewriting.{rewritten_into}
use Rattle.wire.specs.Reading.{Seen, said, placed}
use Rattle.wire.specs.declared.refusal.Refusal.{Refusal}

-- the number of bytes written and the tail of the message s, or the refusal's number and values
abbrev pub retold : List ℕ → Seen ℕ → Answer (Read ℕ)
retold s r = said (λ (written : ℕ). written) s r

-- the tail begins within the message
abbrev pub tail_within : List ℕ → Seen ℕ → Type 0
tail_within s r = placed (λ (written tail : ℕ). tail ≤ length s) r

-- a rewriter's promise, of the message s and a buffer: the answer and the contents of the whole buffer are the paper's
pub record Rewrote (rewrite : Reader (List ℕ)) (s old : List ℕ) (r : Seen ℕ) (new : List ℕ) : Type 0 where
  pub answer : retold s r ≡ (rewritten_into (rewrite s) old).answer
  pub place : tail_within s r
  pub contents : new ≡ (rewritten_into (rewrite s) old).contents

-- a writer's answer with the tail beside it
abbrev pub beside_tail : Result ℕ Refusal → ℕ → Seen ℕ
beside_tail (Ok written) tail = Ok (written, tail)
beside_tail (Err e) tail = Err e
