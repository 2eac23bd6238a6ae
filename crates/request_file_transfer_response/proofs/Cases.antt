-- What the paper's reader of responses answers, by cases, what a response with no sizes means, and what whoever leaves by `?` answers.
-- Assumes nothing.
use mathlib.Core.Path.{◌≡◌, ap}
use Prim.Native.Nat.{ℕ}
use mathlib.Core.List.{List}
use Rattle.std.specs.Prelude.{Result, Ok, Err}
use Rattle.std.specs.Result.{IsErrAnd}
use Rattle.paper.specs.Answer.{Refusal, Answer, accepted, refused, Read, ◌leaving◌, give, refuse, hand_out}
use Rattle.paper.specs.Kind.{Kind, known}
use Rattle.paper.specs.Field.{byte}
use Rattle.paper.specs.Response.{Response, response, AfterMode, after_mode, read_after_mode, read_response}
use Rattle.paper.proofs.Places.{on, off}
use Rattle.wire.specs.Size.{value}
use Rattle.wire.specs.declared.refusal.Refusal as code
use Rattle.request_file_transfer_response.specs.Reading.{with_more}
use Rattle.request_file_transfer_response.specs.declared.read.More.{More}

-- the answer of whoever leaves by `?` is the refusal e
pub err_is : {A : Type 0} (r : Result A code.Refusal) (e : code.Refusal) → IsErrAnd r (λ (x : code.Refusal). x ≡ e) → r ≡ Err e
err_is (Ok x) e none = absurd none
err_is (Err x) e is = ap Err is

-- a position alone
pub no_sizes : (k : Kind) (b : List ℕ) (f : ℕ) (x : More) {p : ℕ} {t : List ℕ}
    → (value x.file_size.file_size_uncompressed ≡ 0) × (value x.file_size.file_size_compressed ≡ 0) × (x.position.file_position ≡ p)
    → accepted (with_more k b f x leaving t) ≡ give (response k b f 0 0 p) t
unfolding give
no_sizes k b f x (u, c, p) = rw (u, c, p)

-- a response, field by field
module _ (s : List ℕ) where
  -- its mode is not there
  pub no_mode_lem : {r : Refusal} → refused r ≡ byte s → refused r ≡ read_response s
  unfolding read_response
  no_mode_lem e = off byte _ s e

  module _ {b : ℕ} {t : List ℕ} (mode : accepted (b leaving t) ≡ byte s) where
    -- its mode is unknown
    pub no_kind : {r : Refusal} → refused r ≡ known b → refused r ≡ read_response s
    unfolding read_response refuse
    no_kind e = on byte _ s mode (off (hand_out (known b)) _ t (rw (← e)))

    -- it is the mode of a kind
    pub by_kind : {k : Kind} {h : AfterMode} {x : Answer (Read Response)} → accepted k ≡ known b → h ≡ after_mode k → x ≡ read_after_mode k h t → x ≡ read_response s
    unfolding read_response give
    by_kind {k} e listed f = on byte _ s mode (on (hand_out (known b)) _ t {a = k} {t = t} (rw (← e)) (rw (← listed) f))
