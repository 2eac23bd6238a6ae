-- What a rewriting call's return cites: the reader refused, or it accepted and the writer answered.
-- Assumes nothing.
use Prim.Native.Nat.{ℕ, ◌≤◌}
use mathlib.Core.Path.{◌≡◌, refl, sym, ap, ◌∙◌}
use mathlib.Core.List.{List}
use lib.ListN.{length, drop}
use Rattle.std.specs.Prelude.{Result, Ok, Err}
use Rattle.paper.specs.Answer.{Answer, accepted, refused, ◌leaving◌, Reader, ◌>>=◌, give, refuse, hand_out, written}
use Rattle.paper.specs.Rewriting.{rewriting, RewrittenInto, tail_beside, rewritten_into}
use Rattle.wire.specs.Refusals.{row}
use Rattle.wire.specs.Writing.{told, Wrote}
use Rattle.wire.specs.declared.refusal.Refusal.{Refusal}
use Rattle.file_operation.specs.Rewriting.{retold, tail_within, Rewrote, beside_tail}

-- a writer's answer with the tail beside it says what the writer's says, with the tail
retold_beside : (s : List ℕ) (w : Result ℕ Refusal) (tail : ℕ) → retold s (beside_tail w tail) ≡ tail_beside (drop tail s) (told w)
retold_beside s (Ok n) tail = refl
retold_beside s (Err e) tail = refl

-- its tail is where it was put
beside_within : (s : List ℕ) (w : Result ℕ Refusal) {tail : ℕ} → tail ≤ length s → tail_within s (beside_tail w tail)
beside_within s (Ok n) h = h
beside_within s (Err e) h = tt

-- what was handed out is written, with the tail beside the answer
pub handed_out : (message : Answer (List ℕ)) (t old : List ℕ)
    → rewritten_into (hand_out message t) old ≡ record { answer = tail_beside t (written message old).answer; contents = (written message old).contents }
unfolding give refuse
handed_out (accepted u) t old = refl
handed_out (refused r) t old = refl

module _ {A : Type 0} (read : Reader A) (write : A → Answer (List ℕ)) {s old : List ℕ} where
  -- the reader refused
  pub unread : {e : Refusal} → refused (row e) ≡ read s → Rewrote (rewriting read write) s old (Err e) old
  unfolding rewriting ◌>>=◌
  unread h = record { answer = rw (← h); place = tt; contents = rw (← h) }

  -- the reader accepted, and the writer answered, be it a refusal
  pub reread : {m : A} {tail : ℕ} {w : Result ℕ Refusal} {new : List ℕ} → accepted (m leaving drop tail s) ≡ read s → tail ≤ length s → Wrote (write m) old w new
      → Rewrote (rewriting read write) s old (beside_tail w tail) new
  unfolding rewriting ◌>>=◌
  reread {m} {tail} {w} h l p =
      let x = handed_out (write m) (drop tail s) old in
      record {
        answer = rw (← h) (retold_beside s w tail ∙ ap (tail_beside (drop tail s)) p.answer ∙ sym (ap RewrittenInto.answer x));
        place = beside_within s w l;
        contents = rw (← h) (p.contents ∙ sym (ap RewrittenInto.contents x));
      }
