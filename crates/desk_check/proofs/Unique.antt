-- No second answer meets the contract of the desk check.
-- Assumes nothing.
use mathlib.Core.Path.{◌≡◌, refl, sym, ap, ◌∙◌}
use Rattle.std.specs.Prelude.{Result, Ok, Err}
use Rattle.paper.specs.Answer.{Answer, accepted, refused}
use Rattle.wire.proofs.Refusals.{refusal_back, refusal-back}
use Rattle.wire.proofs.Unique.{Determined}
use Rattle.desk_check.specs.Desk.{desk_said}
use Rattle.wire.specs.declared.refusal.Refusal.{Refusal}
use Rattle.desk_check.proofs.desk_check.Kinds as desk-check-kinds
use Rattle.desk_check.proofs.desk_check.Reads as desk-check

-- the answer that the paper's stands for
abbrev desk_back : Answer (Unit {0}) → Result (Unit {0}) Refusal
desk_back (accepted t) = Ok t
desk_back (refused e) = Err (refusal_back e)

desk-back : (r : Result (Unit {0}) Refusal) → desk_back (desk_said r) ≡ r
desk-back (Ok t) = refl
desk-back (Err e) = ap Err (refusal-back e)

pub desk_check_determined : Determined 1 desk-check-kinds.ps desk-check-kinds.r desk-check.Post
desk_check_determined κs a x y r₁ r₂ p q = sym (desk-back r₁) ∙ ap desk_back (p ∙ sym q) ∙ desk-back r₂
