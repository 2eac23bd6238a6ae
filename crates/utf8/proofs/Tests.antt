-- Tests and their two outcomes. Assumes nothing.
use mathlib.Core.Path.{◌≡◌, refl}
use mathlib.Core.Bool.{Bool, true, false, ◌&&◌, beq, false≢true}

-- two tests do not both pass: where the first does, the second does not
pub and_other : (p q : Bool) → (p && q) ≡ false → p ≡ true → q ≡ false
and_other true q e f = e
and_other false q e f = absurd (false≢true f)

pub not_both : (p q : Bool) → (p ≡ true → q ≡ false) → (p && q) ≡ false
not_both true q h = h refl
not_both false q h = refl

-- two tests have the same outcome
pub same : (p q : Bool) → beq p q ≡ true → p ≡ q
same true true e = refl
same true false e = absurd (false≢true e)
same false true e = absurd (false≢true e)
same false false e = refl
