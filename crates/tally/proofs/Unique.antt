-- No second answer meets the contract of `count_records` or of `judge_records`, no second table that of `tally`, and no second sheet that of `sheet_of`.
-- Assumes nothing.
use mathlib.Core.Path.{◌≡◌, refl, sym, ap, ap₂, ◌∙◌}
use Prim.Native.Nat.{ℕ}
use mathlib.Core.List.{List}
use Rattle.std.specs.Prelude.{Result, Ok, Err}
use Rattle.paper.specs.Answer.{Answer, accepted, refused}
use Rattle.wire.proofs.Refusals.{refusal_back, refusal-back}
use Rattle.wire.proofs.Unique.{Determined}
use Rattle.wire.specs.declared.refusal.Refusal.{Refusal}
use Rattle.tally.specs.Judged.{judged, counted}
use Rattle.tally.specs.declared.sheet.Sheet.{Sheet}
use Rattle.tally.proofs.count_records.Kinds as count-records-kinds
use Rattle.tally.proofs.count_records.Reads as count-records
use Rattle.tally.proofs.judge_records.Kinds as judge-records-kinds
use Rattle.tally.proofs.judge_records.Reads as judge-records
use Rattle.tally.proofs.tally.Kinds as tally-kinds
use Rattle.tally.proofs.tally.Reads as tally
use Rattle.tally.proofs.sheet.sheet_of.Kinds as sheet-of-kinds
use Rattle.tally.proofs.sheet.sheet_of.Reads as sheet-of

-- the answer that the paper's stands for
abbrev answer_back : {A : Type 0} → Answer A → Result A Refusal
answer_back (accepted t) = Ok t
answer_back (refused e) = Err (refusal_back e)

judged-back : (r : Result (Unit {0}) Refusal) → answer_back (judged r) ≡ r
judged-back (Ok u) = refl
judged-back (Err e) = ap Err (refusal-back e)

counted-back : (r : Result (List (List ℕ)) Refusal) → answer_back (counted r) ≡ r
counted-back (Ok t) = refl
counted-back (Err e) = ap Err (refusal-back e)

judged_once : {v w : Result (Unit {0}) Refusal} → judged v ≡ judged w → v ≡ w
judged_once {v} {w} e = sym (judged-back v) ∙ ap answer_back e ∙ judged-back w

pub count_records_determined : Determined 1 count-records-kinds.ps count-records-kinds.r count-records.Post
count_records_determined κs a x y r₁ r₂ p q = sym (counted-back r₁) ∙ ap answer_back (p ∙ sym q) ∙ counted-back r₂

pub judge_records_determined : Determined 1 judge-records-kinds.ps judge-records-kinds.r judge-records.Post
judge_records_determined κs a x y r₁ r₂ p q = judged_once (p ∙ sym q)

pub tally_determined : Determined 1 tally-kinds.ps tally-kinds.r tally.Post
tally_determined κs a x y r₁ r₂ p q = p ∙ sym q

pub sheet_of_determined : Determined 1 sheet-of-kinds.ps sheet-of-kinds.r sheet-of.Post
sheet_of_determined κs a x y r₁ r₂ p q =
    ap₂ {C = Sheet} (λ (v : Result (Unit {0}) Refusal) (c : List ℕ). record { verdict = v; cells = c }) (judged_once (p.verdict ∙ sym q.verdict)) (p.cells ∙ sym q.cells)
