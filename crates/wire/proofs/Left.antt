-- Who leaves by `?` leaves with the paper's answer to the field that was read.
-- Assumes nothing.
use mathlib.Core.Path.{◌≡◌, sym, ap, ◌∙◌}
use Prim.Native.Nat.{ℕ}
use mathlib.Core.List.{List}
use lib.ListN.{drop}
use Rattle.std.specs.Prelude.{Err}
use Rattle.std.specs.Result.{IsErrAnd}
use Rattle.std.proofs.lemmas.Result.{err_from_is_err_and}
use Rattle.paper.specs.Answer.{refused, Reader}
use Rattle.wire.specs.Refusals.{row}
use Rattle.wire.specs.Reading.{Seen, said, Right}
use Rattle.wire.specs.declared.refusal.Refusal.{Refusal}

-- x is the answer, which a callee promised to be right; it is the refusal e
pub left : {A M : Type 0} {meaning : A → M} {field : Reader M} {Place : A → ℕ → Type 0} {s : List ℕ} {at : ℕ} {x : Seen A} {e : Refusal}
    → Right A M meaning field Place s at x → x ≡ Err e → refused (row e) ≡ field (drop at s)
left {A} {M} {meaning} {s = s} right is = sym (ap (said meaning s) is) ∙ right.paper

-- r is what `?` made of the refusal e, where reader and field differ in what they hand over: it is right where e is the paper's answer
pub leaves : {A M : Type 0} {meaning : A → M} {field : Reader M} {Place : A → ℕ → Type 0} {s : List ℕ} {at : ℕ} (r : Seen A) (e : Refusal)
    → IsErrAnd r (λ (x : Refusal). x ≡ e) → refused (row e) ≡ field (drop at s) → Right A M meaning field Place s at r
leaves r e is said = let (y, same, made) = err_from_is_err_and r is in rw (same, made) (record { paper = said; place = tt })
