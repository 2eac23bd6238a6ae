-- `request_file_transfer::name::name_at` meets its contract: the count's refusal is the name's, and what is judged are the bytes at the place that was found.
use mathlib.Core.Path.{sym, ap, ◌∙◌}
use Prim.Native.Nat.{ℕ}
use Rattle.paper.specs.Answer.{refused, wrong_format}
use Rattle.paper.specs.Utf8.{valid_up_to, is_utf8}
use Rattle.paper.specs.Field.{counted, name}
use Rattle.paper.proofs.Utf8.{longest-is}
use Rattle.paper.proofs.Places.{on, off, pass, fail}
use Rattle.wire.proofs.Left.{leaves}
use Rattle.request_file_transfer.proofs.name.name_at.Goals as goal

pub returns-in_err-place : goal.returns-in_err-place
unfolding name
returns-in_err-place c = leaves _ _ c.from_residual.ensures.1 (off (counted 2) _ _ c.in_err-place.ensures.paper)

pub returns-then-is_utf8 : goal.returns-then-is_utf8
unfolding name
returns-then-is_utf8 c =
    let p = c.in_ok-place.ensures in
    let judged = sym (c.is_utf8.ensures ∙ ap is_utf8 c.part_at-name.ensures.1) in
    record { paper = on (counted 2) _ _ p.paper (pass _ _ _ (judged ∙ c.if-is_utf8.true)); place = p.place }

pub returns : goal.returns
unfolding name
returns c =
    let judged = sym (c.is_utf8.ensures ∙ ap is_utf8 c.part_at-name.ensures.1) in
    let told = ap (λ (k : ℕ). refused (wrong_format k)) (longest-is _ _ c.valid_up_to-longest.ensures ∙ ap valid_up_to c.part_at-name.ensures.1) in
    record { paper = on (counted 2) _ _ c.in_ok-place.ensures.paper (told ∙ fail _ _ _ (judged ∙ c.if-is_utf8.false)); place = tt }
