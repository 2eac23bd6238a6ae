-- Document 02, Req 13, in terms of calls: what reading and rewriting promise of messages that are joined without lengths. `Reads` and `Rewrites` are as in `Calls`.
use Rattle.std.specs.Prelude.{◌≡◌, ℕ, List, [], ◌++◌}
use Rattle.paper.specs.Batch.{joined}
use Rattle.paper.specs.Joined.{Each}
use Rattle.wire.specs.Reading.{Seen}
use Rattle.file_operation.specs.Calls.{Whole, Became}

-- u was accepted with nothing left over, whatever was read
pub record WasWhole (Q : Type 0) (Reads : List ℕ → Seen Q → Type 0) (u : List ℕ) : Type 0 where
  pub what : Q
  pub read : Whole Q Reads u what

-- u is what was written of some message that was accepted with nothing left over
pub record WasRewritten (Q : Type 0) (Reads : List ℕ → Seen Q → Type 0) (Rewrites : List ℕ → List ℕ → Seen ℕ → List ℕ → Type 0) (u : List ℕ) : Type 0 where
  pub before : List ℕ
  pub whole : WasWhole Q Reads before
  pub became : Became Rewrites before u

pub record JoinedCalls (Q : Type 0) (Reads : List ℕ → Seen Q → Type 0) (Rewrites : List ℕ → List ℕ → Seen ℕ → List ℕ → Type 0) : Type 0 where
  -- where s and s ++ t were both accepted with nothing left over, t is empty
  pub begins_none : {s t : List ℕ} → WasWhole Q Reads s → WasWhole Q Reads (s ++ t) → t ≡ []
  -- two lists of messages that were accepted with nothing left over are the same where their joined bytes are
  pub same_messages : (ms ns : List (List ℕ)) → Each (WasWhole Q Reads) ms → Each (WasWhole Q Reads) ns → joined ms ≡ joined ns → ms ≡ ns
  -- so are two lists of what was rewritten
  pub same_rewritten : (us vs : List (List ℕ)) → Each (WasRewritten Q Reads Rewrites) us → Each (WasRewritten Q Reads Rewrites) vs → joined us ≡ joined vs → us ≡ vs
