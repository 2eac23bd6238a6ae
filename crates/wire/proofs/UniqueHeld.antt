-- What is shown of the contract of a function over a struct that holds a slice: that no second answer meets it, and what it says of every answer.
-- Assumes nothing.
use mathlib.Core.Path.{◌≡◌, sym, ◌∙◌}
use Prim.Native.Nat.{ℕ}
use mathlib.Core.List.{List}
use seplogic.Ra.Ura.{Ura}
use base.Logic.{SProp, ent, id⊢}
use prog.Memory.{Memory}
use prog.Routine.{Routine}
use types.Logic.{Logic}
use contract.Lifetimes.{Lfts}
use contract.Monad.{Fun, conj, conj_l, conj_r, fact, fact_i, fact_use}
use denote.Ref.{Bor}
use denote.Triple.Clauses.{Ended, AtExit, Clauses}
use denote.Triple.Entry.{Args, Res}

-- two slices are alike where they begin at the same place and hold the same bytes: of a part no more can be said, since the check gives each part a name of its own
abbrev pub Alike : Bor (List ℕ) → Bor (List ℕ) → Type 0
Alike r₁ r₂ = (r₁.ref_ptr ≡ r₂.ref_ptr) × (r₁.now ≡ r₂.now)

pub alike : (r₁ r₂ : Bor (List ℕ)) {at : ℕ × ℕ} {bytes : List ℕ} → (r₁.ref_ptr ≡ at) × (r₁.now ≡ bytes) → (r₂.ref_ptr ≡ at) × (r₂.now ≡ bytes) → Alike r₁ r₂
alike r₁ r₂ p q = (p.0 ∙ sym q.0, p.1 ∙ sym q.1)

-- the check reads the contract of a function over such a struct as an assertion, `clauses`, and not as a fact
abbrev pub Asserted : Ended → Type 2
Asserted T = (M : Type 1) (𝓤 : Ura M) (𝓛 : Logic 𝓤) → (Memory → SProp 𝓤) → (Routine → Fun 𝓤) → Clauses 𝓤 T

-- where what it ensures of two results at the same arguments holds, whatever the two exits, the results are the same
abbrev pub Settled : (T : Ended) → Asserted T → ((κs : Lfts T.signature.lifetimes) → Res T.signature κs → Res T.signature κs → Type 0) → Type 2
Settled T clauses Same =
    (M : Type 1) (𝓤 : Ura M) (𝓛 : Logic 𝓤) (mem : Memory → SProp 𝓤) (run : Routine → Fun 𝓤)
    → let c = clauses M 𝓤 𝓛 mem run in
    (κs : Lfts T.signature.lifetimes) (a : Args T.signature κs) (g : (c κs a).ghost) (x y : AtExit T κs) (r₁ r₂ : Res T.signature κs)
    → ent 𝓤 (conj 𝓤 ((c κs a).ensures g r₁ x) ((c κs a).ensures g r₂ y)) (fact 𝓤 (Same κs r₁ r₂))

-- it is enough that the two facts give the third
pub settled : {M : Type 1} (𝓤 : Ura M) {φ ψ χ : Type 0} → (φ → ψ → χ) → ent 𝓤 (conj 𝓤 (fact 𝓤 φ) (fact 𝓤 ψ)) (fact 𝓤 χ)
settled 𝓤 {φ} {ψ} {χ} f = fact_use 𝓤 φ (conj_l 𝓤 (fact 𝓤 φ) (fact 𝓤 ψ)) (λ p. fact_use 𝓤 ψ (conj_r 𝓤 (fact 𝓤 φ) (fact 𝓤 ψ)) (λ q. fact_i 𝓤 χ (conj 𝓤 (fact 𝓤 φ) (fact 𝓤 ψ)) (f p q)))

-- where what it ensures of a result holds, whatever the exit, so does a fact of the arguments and the result
abbrev pub Says : (T : Ended) → Asserted T → ((κs : Lfts T.signature.lifetimes) → Args T.signature κs → Res T.signature κs → Type 0) → Type 2
Says T clauses Fact =
    (M : Type 1) (𝓤 : Ura M) (𝓛 : Logic 𝓤) (mem : Memory → SProp 𝓤) (run : Routine → Fun 𝓤)
    → let c = clauses M 𝓤 𝓛 mem run in
    (κs : Lfts T.signature.lifetimes) (a : Args T.signature κs) (g : (c κs a).ghost) (x : AtExit T κs) (r : Res T.signature κs)
    → ent 𝓤 ((c κs a).ensures g r x) (fact 𝓤 (Fact κs a r))

-- it is enough that the one fact gives the other
pub says : {M : Type 1} (𝓤 : Ura M) {φ χ : Type 0} → (φ → χ) → ent 𝓤 (fact 𝓤 φ) (fact 𝓤 χ)
says 𝓤 {φ} {χ} f = fact_use 𝓤 φ (id⊢ 𝓤 (fact 𝓤 φ)) (λ p. fact_i 𝓤 χ (fact 𝓤 φ) (f p))
