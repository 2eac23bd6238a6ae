-- The first byte of a request: the "suppress" bit, and the low seven bits.
-- Assumes nothing.
use mathlib.Core.Path.{◌≡◌, refl, sym, ap, ◌∙◌}
use mathlib.Core.Bool.{Bool}
use Prim.Native.Nat.{ℕ, ◌%◌}
use lib.Dec.{leb}
use Rattle.paper.specs.Answer.{Answer, accepted, refused}
use Rattle.paper.specs.RoutineControl.{SubFunction, known_sub}
use Rattle.routine_control.specs.SubFunction.{Control, control_of, suppressable}

-- what is said of the low seven bits
abbrev judged : Answer Control → Answer SubFunction
judged (accepted c) = accepted c.sub_function
judged (refused r) = refused r

judged-is : (suppress : Bool) (o : Answer SubFunction) → judged (control_of suppress o) ≡ o
judged-is suppress (accepted f) = refl
judged-is suppress (refused r) = refl

-- an answer about the byte answers for its low seven bits
pub low_bits : (b : ℕ) {o : Answer Control} → o ≡ suppressable b → judged o ≡ known_sub (b % 128)
unfolding suppressable
low_bits b e = ap judged e ∙ judged-is (leb 128 b) (known_sub (b % 128))

-- and what is accepted has the bit
pub top_bit : (b : ℕ) {c : Control} → accepted c ≡ suppressable b → c.suppress ≡ leb 128 b
unfolding suppressable
top_bit b {c} e =
    let both : accepted c ≡ control_of (leb 128 b) (accepted c.sub_function) = e ∙ ap (control_of (leb 128 b)) (sym (low_bits b e)) in
    let same : c ≡ record { suppress = leb 128 b; sub_function = c.sub_function } = cc in
    ap Control.suppress same
