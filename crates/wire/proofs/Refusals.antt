-- No two refusals have the same number and carry the same: each is found again from its row of the table.
-- Assumes nothing.
use mathlib.Core.Path.{◌≡◌, refl, sym, ap, ◌∙◌}
use mathlib.Core.List.{[], ◌∷◌}
use lib.ListN.{get_or}
use Rattle.paper.specs.Answer as paper
use Rattle.wire.specs.Refusals.{row}
use Rattle.wire.specs.declared.refusal.Refusal.{Refusal}
use Rattle.wire.specs.declared.refusal.Refusal.TheVariants.{TooShort, WrongFormat, UnknownMode, UnknownSubFunction, NoTroubleCode, BadWidth, NoRoom, UnequalSizes, LeftOver, Cut, OutOfRange, TooMany, NotAllowed, WrongCounter, UnknownService, NoSuchCode, Repeated, BadCharacter}

-- the refusal that a row of the table stands for: the place in the list is the number
abbrev pub refusal_back : paper.Refusal → Refusal
refusal_back e =
    let a = e.first in
    let b = e.second in
    get_or
    (WrongFormat 0 ∷ TooShort a b ∷ WrongFormat a ∷ UnknownMode a ∷ UnknownSubFunction a ∷ NoTroubleCode a ∷ BadWidth a ∷ NoRoom a b ∷ UnequalSizes ∷ LeftOver a ∷ Cut ∷ OutOfRange a ∷ TooMany ∷ NotAllowed a ∷ WrongCounter a ∷ UnknownService a ∷ NoSuchCode ∷ Repeated a ∷ BadCharacter a ∷ [])
    e.number
    (WrongFormat 0)

pub refusal-back : (e : Refusal) → refusal_back (row e) ≡ e
refusal-back (TooShort a b) = refl
refusal-back (WrongFormat a) = refl
refusal-back (UnknownMode a) = refl
refusal-back (UnknownSubFunction a) = refl
refusal-back (NoTroubleCode a) = refl
refusal-back (BadWidth a) = refl
refusal-back (NoRoom a b) = refl
refusal-back UnequalSizes = refl
refusal-back (LeftOver a) = refl
refusal-back Cut = refl
refusal-back (OutOfRange a) = refl
refusal-back TooMany = refl
refusal-back (NotAllowed a) = refl
refusal-back (WrongCounter a) = refl
refusal-back (UnknownService a) = refl
refusal-back NoSuchCode = refl
refusal-back (Repeated a) = refl
refusal-back (BadCharacter a) = refl

pub refusal_once : {e f : Refusal} → row e ≡ row f → e ≡ f
refusal_once {e} {f} h = sym (refusal-back e) ∙ ap refusal_back h ∙ refusal-back f
