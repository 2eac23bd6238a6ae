-- What the paper's reader of requests answers, by cases: a refused name, an unknown mode, and what stands after the name of a known kind.
-- Assumes nothing.
use mathlib.Core.Path.{◌≡◌}
use Prim.Native.Nat.{ℕ}
use mathlib.Core.List.{List}
use Rattle.paper.specs.Answer.{Refusal, Answer, accepted, refused, Read, ◌leaving◌, give, refuse, hand_out}
use Rattle.paper.specs.Kind.{Kind, known}
use Rattle.paper.specs.Field.{byte, name}
use Rattle.paper.specs.Request.{Request, AfterName, after_name, read_after_name, read_request}
use Rattle.paper.proofs.Places.{on, off}

module _ (s : List ℕ) {b : ℕ} {t : List ℕ} (mode : accepted (b leaving t) ≡ byte s) where
  -- the name is refused
  pub no_name : {r : Refusal} → refused r ≡ name t → refused r ≡ read_request s
  unfolding read_request
  no_name e = on byte _ s mode (off name _ t e)

  module _ {n u : List ℕ} (named : accepted (n leaving u) ≡ name t) where
    -- the name is good, and the mode is refused
    pub no_kind : {r : Refusal} → refused r ≡ known b → refused r ≡ read_request s
    unfolding read_request refuse
    no_kind e = on byte _ s mode (on name _ t named (off (hand_out (known b)) _ u (rw (← e))))

    -- both are good: what stands after the name decides
    pub onwards : {k : Kind} {h : AfterName} {x : Answer (Read Request)} → accepted k ≡ known b → h ≡ after_name k → x ≡ read_after_name k n h u → x ≡ read_request s
    unfolding read_request give
    onwards {k} e of f = on byte _ s mode (on name _ t named (on (hand_out (known b)) _ u {a = k} {t = u} (rw (← e)) (rw (← of) f)))
