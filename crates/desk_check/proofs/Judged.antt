-- What the paper's desk check answers, by cases: the reader's refusal, bytes left over, and the rule; and how the halves of two sizes tell whether they are equal.
-- Assumes nothing.
use mathlib.Core.Path.{◌≡◌, refl, sym, ap, ◌∙◌}
use mathlib.Core.Bool.{Bool, true, false, ◌&&◌}
use Prim.Native.Nat.{ℕ, ◌+◌, ◌-◌, ◌*◌, ◌^◌, ◌≤◌, ◌<◌}
use mathlib.Core.List.{List, [], ◌∷◌}
use native.Mathlib.Omega.{arith}
use borrow.Author.Tests.{eq-eqb, ne_eqb, eqb-true, eqb-false}
use lib.Dec.{eqb}
use lib.ListN.{length, drop, length-drop}
use Rattle.paper.specs.Answer.{Refusal, Answer, accepted, refused, unequal_sizes, left_over, check, ◌leaving◌}
use Rattle.paper.specs.Request.{Request, after_name, read_request}
use Rattle.paper.specs.Desk.{passes, judge_at_desk, desk_check}

-- the reader refused
pub unread : (s : List ℕ) {r : Refusal} → refused r ≡ read_request s → refused r ≡ desk_check s
unfolding desk_check
unread s e = ap judge_at_desk e

-- some bytes are left over
some_left : (m : Request) (t : List ℕ) {n : ℕ} → length t ≡ n → 0 < n → refused (left_over n) ≡ judge_at_desk (accepted (m leaving t))
some_left m [] e h = absurd (omega arith)
some_left m (b ∷ t) e h = ap (λ (n : ℕ). refused (left_over n)) (sym e)

-- the rule's answer
abbrev pub ruled : Bool → Answer (Unit {0})
ruled ok = check ok unequal_sizes (accepted tt)

-- none is
none_left : (m : Request) (t : List ℕ) → length t ≤ 0 → ruled (passes (after_name m.kind) m) ≡ judge_at_desk (accepted (m leaving t))
none_left m [] h = refl
none_left m (b ∷ t) h = absurd (omega arith)

module _ (s : List ℕ) (tail : ℕ) {m : Request} (read : accepted (m leaving drop tail s) ≡ read_request s) where
  -- bytes are left over
  pub left_over_lem : 0 < length s - tail → refused (left_over (length s - tail)) ≡ desk_check s
  unfolding desk_check
  left_over_lem h = some_left m (drop tail s) (length-drop tail s) h ∙ ap judge_at_desk read

  -- none is: the rule decides
  pub by_rule : {ok : Bool} → length s - tail ≤ 0 → ok ≡ passes (after_name m.kind) m → ruled ok ≡ desk_check s
  unfolding desk_check
  by_rule h e = ap ruled e ∙ none_left m (drop tail s) (omega (arith, length-drop tail s)) ∙ ap judge_at_desk read

-- sizes are equal exactly if both halves are
pub by_halves : (ah al bh bl : ℕ) → al < 2 ^ 64 → bl < 2 ^ 64 → (eqb ah bh && eqb al bl) ≡ eqb (ah * 2 ^ 64 + al) (bh * 2 ^ 64 + bl)
by_halves ah al bh bl h k = go (eqb ah bh) (eqb al bl) refl refl
  where
    go : (t u : Bool) → eqb ah bh ≡ t → eqb al bl ≡ u → (t && u) ≡ eqb (ah * 2 ^ 64 + al) (bh * 2 ^ 64 + bl)
    go true true p q = sym (eq-eqb _ _ (omega (arith, eqb-true ah bh p, eqb-true al bl q)))
    go true false p q = sym (ne_eqb _ _ (omega (arith, eqb-true ah bh p, eqb-false al bl q)))
    go false u p q = sym (ne_eqb _ _ (omega (arith, eqb-false ah bh p)))
