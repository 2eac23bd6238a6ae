-- 01, "What a contract has to say here": a contract determines the answer, and no second answer satisfies it.
use Rattle.std.specs.Prelude.{◌≡◌, ℕ, List}
use contract.Lifetimes.{Lfts}
use denote.Triple.Clauses.{AtExit}
use borrow.Fn.Kinds.{ParamKind, ResultKind, Dens, res_t, Out, ended_of}

-- of a contract as the check reads it: two results that meet it at the same arguments, whatever the two exits, are equal
abbrev pub Determined : (n : ℕ) (ps : List (ParamKind n)) (r : ResultKind n) → Out n ps r → Type 0
Determined n ps r Post =
    (κs : Lfts n) (a : Dens κs ps) (x y : AtExit (ended_of n ps r) κs) (r₁ r₂ : (res_t r κs).Denot) → Post κs a r₁ x → Post κs a r₂ y → r₁ ≡ r₂

-- of two contracts of one kind: a result that meets the first and one that meets the second, at the same arguments, are equal
abbrev pub SameAnswers : (n : ℕ) (ps : List (ParamKind n)) (r : ResultKind n) → Out n ps r → Out n ps r → Type 0
SameAnswers n ps r Post Other =
    (κs : Lfts n) (a : Dens κs ps) (x y : AtExit (ended_of n ps r) κs) (r₁ r₂ : (res_t r κs).Denot) → Post κs a r₁ x → Other κs a r₂ y → r₁ ≡ r₂
