-- Document 02, Req 13, in terms of calls: it holds of every reader and rewriter that keep to the paper's, where the paper's messages are joinable.
-- Assumes nothing.
use Prim.Native.Nat.{ℕ}
use mathlib.Core.List.{List, [], ◌∷◌}
use Rattle.paper.specs.Answer.{Reader}
use Rattle.paper.specs.Joined as on-paper
use Rattle.paper.specs.Joined.{Each, FromRewriting, Joinable}
use Rattle.wire.specs.Reading.{Seen}
use Rattle.file_operation.specs.Joined.{WasWhole, WasRewritten, JoinedCalls}
use Rattle.file_operation.proofs.Demand.{Keeps, message, rewritten}

-- each element is so, where each is something that makes it so
pub each : {A : Type 0} {P Q : A → Type 0} → ((x : A) → P x → Q x) → (xs : List A) → Each P xs → Each Q xs
each f [] w = tt
each f (x ∷ xs) w = (f x w.0, each f xs w.1)

module _ {A Q : Type 0} {read : Reader A} {rewrite : Reader (List ℕ)} {meant : List ℕ → Q → A} {Place : List ℕ → Q → ℕ → Type 0}
    {Reads : List ℕ → Seen Q → Type 0} {Rewrites : List ℕ → List ℕ → Seen ℕ → List ℕ → Type 0} {Same : List ℕ → Q → List ℕ → Q → Type 0}
    (keeps : Keeps read rewrite meant Place Reads Rewrites Same) where
  -- what was read whole is a whole message, and what was written of it is the paper's rewriting
  pub on_paper_whole : (s : List ℕ) → WasWhole Q Reads s → on-paper.Whole A read s
  on_paper_whole s w = record { meaning = meant s w.what; message = message keeps w.read }

  on_paper_rewritten : (u : List ℕ) → WasRewritten Q Reads Rewrites u → FromRewriting A read rewrite u
  on_paper_rewritten u w = record {
    before = w.before;
    whole = on_paper_whole w.before w.whole;
    rewritten = rewritten keeps (message keeps w.whole.read) w.became;
  }

  -- and so is a whole message
  pub on_paper_kept : (u : List ℕ) → WasRewritten Q Reads Rewrites u → on-paper.Whole A read u
  on_paper_kept u w = let r = on_paper_rewritten u w in record { meaning = r.whole.meaning; message = keeps.paper.kept r.whole.message r.rewritten }

  pub calls_joinable : Joinable A read rewrite → JoinedCalls Q Reads Rewrites
  calls_joinable j = record {
    begins_none = λ {s} {t} w v. j.begins_none (on_paper_whole _ w) (on_paper_whole _ v);
    same_messages = λ ms ns w v e. j.same_messages ms ns (each on_paper_whole ms w) (each on_paper_whole ns v) e;
    same_rewritten = λ us vs w v e. j.same_rewritten us vs (each on_paper_rewritten us w) (each on_paper_rewritten vs v) e;
  }
