-- Nothing is left over exactly if the tail begins at the end; and what was written is the expected message exactly if it stands at the front of the buffer.
-- Assumes nothing.
use Rattle.std.proofs.Common.{◌≡◌, ℕ, ◌≤◌, Bool, true, false, eqb, leb, ◌↔◌, List, [], length, take, drop, sym, refl, ap, ◌∙◌, arith, length-drop, drop_of_length-le, eq-eqb, eqb-true, take_at, leb-true}
use Rattle.std.specs.Prelude.{Ok}
use Rattle.paper.specs.Answer.{Answer, accepted, refused, Read, ◌leaving◌, Reader, over}
use Rattle.paper.specs.Rewriting.{RewrittenInto, rewritten_into}
use Rattle.paper.proofs.Choice.{never}
use Rattle.file_operation.specs.Rewriting.{Rewrote}

-- nothing is left over
pub all_taken : (s : List ℕ) (tail : ℕ) → tail ≤ length s → (eqb tail (length s) ≡ true) ↔ (drop tail s ≡ [])
all_taken s tail within =
    (λ e. let h : length s ≤ tail = omega (arith, eqb-true tail (length s) e) in drop_of_length-le s h, λ e. eq-eqb tail (length s) (omega (arith, length-drop tail s, ap length e)))

-- a message u is what the message s is rewritten to, and the n bytes at the front of the buffer are u, which has room in it
pub record Written (answer : Answer (Read (List ℕ))) (old new t : List ℕ) (n : ℕ) : Type 0 where
  pub u : List ℕ
  pub is : answer ≡ accepted (u leaving t)
  pub front : take n new ≡ u
  pub room : length u ≤ length old

-- the front of the buffer is the message
front_of : (u old : List ℕ) → take (length u) (over u old) ≡ u
unfolding over
front_of u old = take_at u _ _ refl

-- it had room, or was refused
roomy : (u t old new d : List ℕ) (n : ℕ) (b : Bool) → leb (length u) (length old) ≡ b → accepted (n leaving d) ≡ (rewritten_into (accepted (u leaving t)) old).answer
    → new ≡ (rewritten_into (accepted (u leaving t)) old).contents → Written (accepted (u leaving t)) old new d n
roomy u t old new d n true e h is =
    let into : rewritten_into (accepted (u leaving t)) old ≡ record { answer = accepted (length u leaving t); contents = over u old } = rw e in
    let same : accepted (n leaving d) ≡ accepted (length u leaving t) = h ∙ ap RewrittenInto.answer into in
    let long : n ≡ length u = cc in
    let left : t ≡ d = cc in
    record { u = u; is = ap (λ (r : List ℕ). accepted (u leaving r)) left; front = rw (long, is ∙ ap RewrittenInto.contents into) (front_of u old); room = leb-true _ _ e }
roomy u t old new d n false e h is = absurd (never (sym (rw e at h)))

written_by : (answer : Answer (Read (List ℕ))) (old new d : List ℕ) (n : ℕ) → accepted (n leaving d) ≡ (rewritten_into answer old).answer
    → new ≡ (rewritten_into answer old).contents → Written answer old new d n
written_by (refused e) old new d n h is = absurd (never (sym h))
written_by (accepted (u leaving t)) old new d n h is = roomy u t old new d n (leb (length u) (length old)) refl h is

-- the rewriter's promise says so
pub written : {rewrite : Reader (List ℕ)} {s old new : List ℕ} {n tail : ℕ} → Rewrote rewrite s old (Ok (n, tail)) new → Written (rewrite s) old new (drop tail s) n
written {rewrite} {s} {old} {new} {n} {tail} w = written_by (rewrite s) old new (drop tail s) n w.answer w.contents
