-- No second answer, and no second final contents, meets a writer's promise: first of the promise, then of each contract as the check reads it.
-- Assumes nothing.
use Prim.Native.Nat.{ℕ}
use mathlib.Core.Path.{◌≡◌, refl, sym, ap, ◌∙◌}
use mathlib.Core.List.{List}
use contract.Lifetimes.{Lfts}
use denote.MutBor.{MutBor}
use Rattle.std.specs.Prelude.{Result, Ok, Err}
use denote.Triple.Clauses.{AtExit}
use borrow.Fn.Kinds.{ParamKind, ResultKind, Dens, res_t, Out, ended_of}
use Rattle.paper.specs.Answer.{Answer, accepted, refused}
use Rattle.wire.specs.Writing.{told, Wrote}
use Rattle.wire.specs.declared.refusal.Refusal.{Refusal}
use Rattle.wire.proofs.Refusals.{refusal_back, refusal-back}
use Rattle.wire.proofs.write.put_byte.Kinds as put-byte-kinds
use Rattle.wire.proofs.write.put_byte.Reads as put_byte
use Rattle.wire.proofs.write.put_two.Kinds as put-two-kinds
use Rattle.wire.proofs.write.put_two.Reads as put_two
use Rattle.wire.proofs.write.put_bytes.Kinds as put-bytes-kinds
use Rattle.wire.proofs.write.put_bytes.Reads as put-bytes
use Rattle.wire.proofs.write.put_eight.Kinds as put-eight-kinds
use Rattle.wire.proofs.write.put_eight.Reads as put-eight
use Rattle.wire.proofs.write.put_counted.Kinds as put-counted-kinds
use Rattle.wire.proofs.write.put_counted.Reads as put-counted
use Rattle.wire.proofs.write.put_one_size.Kinds as put-one-size-kinds
use Rattle.wire.proofs.write.put_one_size.Reads as put-one-size
use Rattle.wire.proofs.write.put_two_sizes.Kinds as put-two-sizes-kinds
use Rattle.wire.proofs.write.put_two_sizes.Reads as put-two-sizes

-- the answer that the paper's stands for
abbrev pub answer_back : Answer ℕ → Result ℕ Refusal
answer_back (accepted n) = Ok n
answer_back (refused e) = Err (refusal_back e)

pub answer_back_lem : (r : Result ℕ Refusal) → answer_back (told r) ≡ r
answer_back_lem (Ok n) = refl
answer_back_lem (Err e) = ap Err (refusal-back e)

-- one law for every writer
pub wrote_once : {message : Answer (List ℕ)} {old : List ℕ} {r s : Result ℕ Refusal} {x y : List ℕ} → Wrote message old r x → Wrote message old s y → (r ≡ s) × (x ≡ y)
wrote_once {r = r} {s} p q = (sym (answer_back_lem r) ∙ ap answer_back (p.answer ∙ sym q.answer) ∙ answer_back_lem s, p.contents ∙ sym q.contents)

-- what is shown of a writer's contract, as the check reads it: of two results that meet it at the same arguments, and their two exits,
-- the results are equal, and so is what the buffer holds
abbrev pub WritesOnce : (n : ℕ) (ps : List (ParamKind n)) (r : ResultKind n) → ((κs : Lfts n) → AtExit (ended_of n ps r) κs → MutBor (List ℕ)) → Out n ps r → Type 0
WritesOnce n ps r buffer Post =
    (κs : Lfts n) (a : Dens κs ps) (x y : AtExit (ended_of n ps r) κs) (r₁ r₂ : (res_t r κs).Denot)
    → Post κs a r₁ x → Post κs a r₂ y → (r₁ ≡ r₂) × ((buffer κs x).now ≡ (buffer κs y).now)

-- the buffer is the last parameter of each
pub put_byte_determined : WritesOnce 1 put-byte-kinds.ps put-byte-kinds.r (λ κs x. x.1.0) put_byte.Post
put_byte_determined κs a x y r₁ r₂ p q = wrote_once p q

pub put_two_determined : WritesOnce 1 put-two-kinds.ps put-two-kinds.r (λ κs x. x.1.0) put_two.Post
put_two_determined κs a x y r₁ r₂ p q = wrote_once p q

pub put_bytes_determined : WritesOnce 2 put-bytes-kinds.ps put-bytes-kinds.r (λ κs x. x.1.0) put-bytes.Post
put_bytes_determined κs a x y r₁ r₂ p q = wrote_once p q

pub put_eight_determined : WritesOnce 1 put-eight-kinds.ps put-eight-kinds.r (λ κs x. x.1.0) put-eight.Post
put_eight_determined κs a x y r₁ r₂ p q = wrote_once p q

pub put_counted_determined : WritesOnce 2 put-counted-kinds.ps put-counted-kinds.r (λ κs x. x.1.1.0) put-counted.Post
put_counted_determined κs a x y r₁ r₂ p q = wrote_once p q

pub put_one_size_determined : WritesOnce 1 put-one-size-kinds.ps put-one-size-kinds.r (λ κs x. x.1.1.0) put-one-size.Post
put_one_size_determined κs a x y r₁ r₂ p q = wrote_once p q

pub put_two_sizes_determined : WritesOnce 1 put-two-sizes-kinds.ps put-two-sizes-kinds.r (λ κs x. x.1.1.1.0) put-two-sizes.Post
put_two_sizes_determined κs a x y r₁ r₂ p q = wrote_once p q
