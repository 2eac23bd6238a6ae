-- The record of an answer, of whatever was asked: what `flat` hands out.
-- Assumes nothing.
use mathlib.Core.Path.{◌≡◌, ap, ◌∙◌}
use Rattle.std.specs.Prelude.{Result, Ok, Err}
use Rattle.station.specs.Flat.{RecordOf}

-- where each side has the record of what it says, the record is that of what the answer was promised to say
pub flat_said : {A E M R : Type 0} (told : M → R) (said : Result A E → M) (a : Result A E) {paper : M} {r : R}
    → said a ≡ paper → RecordOf (λ x r. r ≡ told (said (Ok x))) (λ e r. r ≡ told (said (Err e))) a r → r ≡ told paper
flat_said told said (Ok x) promised is = is ∙ ap told promised
flat_said told said (Err e) promised is = is ∙ ap told promised

-- where each side has one record alone, so has the answer
pub flat_determined : {A E R : Type 0} {accepted : A → R → Type 0} {refused : E → R → Type 0}
    → ((a : A) (r s : R) → accepted a r → accepted a s → r ≡ s) → ((e : E) (r s : R) → refused e r → refused e s → r ≡ s)
    → (a : Result A E) (r s : R) → RecordOf accepted refused a r → RecordOf accepted refused a s → r ≡ s
flat_determined once other (Ok a) r s p q = once a r s p q
flat_determined once other (Err e) r s p q = other e r s p q
