-- The number of one message: what its reader answers tells it, and a byte holds it.
-- Assumes nothing.
use mathlib.Core.Path.{◌≡◌, refl, sym, ap, ◌∙◌}
use mathlib.Core.Bool.{true}
use mathlib.Core.Logic.{⊎_elim}
use Prim.Native.Nat.{ℕ, ◌≤◌}
use mathlib.Core.List.{List}
use native.Mathlib.Omega.{arith}
use lib.ListN.{length, get_or, get_or-eq_default}
use lib.Dec.{leb}
use borrow.Author.Tests.{leb-true}
use Rattle.paper.specs.Batch.{number_in, number_of}
use Rattle.paper.proofs.Choice.{cut}
use Rattle.wire.specs.Refusals.{row}
use Rattle.wire.specs.Reading.{Seen, said}
use Rattle.wire.specs.declared.refusal.Refusal.{Refusal as Why}
use Rattle.wire.proofs.Refusals.{refusal_back, refusal-back}
use Rattle.request_file_transfer.specs.Reading.{meant, RequestRight}
use Rattle.request_file_transfer.specs.declared.read.RequestFileTransferRequest.{RequestFileTransferRequest}

pub number_read_lem : (s : List ℕ) {x : Seen RequestFileTransferRequest} → RequestRight s x → number_in (said (meant s) s x) ≡ number_of s
unfolding number_of
number_read_lem s h = ap number_in h.paper

-- a list of at most 256 has nothing from place 256 on
far : {A : Type 0} (xs : List A) (d : A) (n : ℕ) → leb (length xs) 256 ≡ true → 256 ≤ n → get_or xs n d ≡ d
far xs d n h l = get_or-eq_default xs d (omega (arith, leb-true (length xs) 256 h))

-- so a number beyond the table of refusals is none of theirs
pub number_small : (e : Why) → (row e).number ≤ 255
number_small e = ⊎_elim (λ l. omega arith) (λ l. absurd (beyond l)) (cut (row e).number 256)
  where
    beyond : 256 ≤ (row e).number → ⊥
    beyond l =
        let short : true ≡ true = refl in
        let none : refusal_back (row e) ≡ Why.WrongFormat 0 = rw far in
        let is : e ≡ Why.WrongFormat 0 = sym (refusal-back e) ∙ none in
        let two : (row e).number ≡ 2 = ap (λ (f : Why). (row f).number) is in
        omega arith
