-- How many bytes a call can answer that it wrote: what holds of every message that a sort's writer makes holds of the calls that write and rewrite.
-- Assumes nothing.
use Prim.Native.Nat.{ℕ, ◌≤◌}
use mathlib.Core.Path.{◌≡◌, refl, sym, ap, ◌∙◌}
use mathlib.Core.List.{List}
use mathlib.Core.Bool.{Bool, true, false}
use native.Mathlib.Omega.{arith}
use lib.Dec.{leb}
use lib.ListN.{length}
use Rattle.std.specs.Prelude.{Ok}
use Rattle.paper.specs.Answer.{Answer, accepted, refused, Read, ◌leaving◌, Reader, ◌>>=◌, over, written}
use Rattle.paper.specs.Rewriting.{rewriting, RewrittenInto, tail_beside}
use Rattle.paper.proofs.Choice.{never}
use Rattle.wire.specs.Writing.{Wrote}
use Rattle.wire.proofs.Writes.{writes, passed}
use Rattle.file_operation.specs.Rewriting.{Rewrote}
use Rattle.file_operation.proofs.Rewrites.{handed_out}

-- where a number is answered, the message is as long
as_long : (u old : List ℕ) {n : ℕ} → (written (accepted u) old).answer ≡ accepted n → length u ≡ n
as_long u old {n} h = by (leb (length u) (length old)) refl
  where
    by : (b : Bool) → leb (length u) (length old) ≡ b → length u ≡ n
    by true p = let k : accepted (length u) ≡ accepted n = rw p at h in cc
    by false p = absurd (never (rw p at h))

-- with a tail beside it or not
without_tail : (t : List ℕ) (a : Answer ℕ) {x : List ℕ} {n : ℕ} → accepted (n leaving x) ≡ tail_beside t a → a ≡ accepted n
without_tail t (accepted k) e = cc
without_tail t (refused r) e = absurd (never (sym e))

-- the writer makes no message of more than so many bytes
abbrev pub AtMost : {A : Type 0} → (A → Answer (List ℕ)) → ℕ → Type 0
AtMost {A} write most = (m : A) (u : List ℕ) → write m ≡ accepted u → length u ≤ most

module _ {A : Type 0} {write : A → Answer (List ℕ)} {most : ℕ} (longest : AtMost write most) where
  -- then no number above it is answered
  at_most : (m : A) (message : Answer (List ℕ)) → write m ≡ message → (old : List ℕ) {n : ℕ} → (written message old).answer ≡ accepted n → n ≤ most
  at_most m (accepted u) e old h = omega (arith, longest m u e, as_long u old h)
  at_most m (refused r) e old h = absurd (never h)

  -- by a call of the writer
  pub wrote_at_most : {m : A} {old new : List ℕ} {n : ℕ} → Wrote (write m) old (Ok n) new → n ≤ most
  wrote_at_most {m} {old} h = at_most m (write m) refl old (sym h.answer)

  -- or of the rewriter
  pub rewrote_at_most : (read : Reader A) {s old new : List ℕ} {n tail : ℕ} → Rewrote (rewriting read write) s old (Ok (n, tail)) new → n ≤ most
  unfolding rewriting ◌>>=◌
  rewrote_at_most read {s} {old} {n = n} {tail} h = by (read s) refl
    where
      by : (a : Answer (Read A)) → read s ≡ a → n ≤ most
      by (refused r) e = absurd (never (sym (rw e at h.answer)))
      by (accepted (m leaving t)) e =
          at_most m (write m) refl old (without_tail t (written (write m) old).answer (rw e at h.answer ∙ ap RewrittenInto.answer (handed_out (write m) t old)))

-- what is accepted is written into a buffer that is just as long
pub wrote_all : {message : Answer (List ℕ)} {u : List ℕ} {n : ℕ} → message ≡ accepted u → length u ≡ n → Wrote message u (Ok n) (over u u)
wrote_all {n = n} e l = passed e (writes n l (omega arith) (record { given_room = λ _. refl }))
