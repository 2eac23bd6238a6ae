-- The laws of tables in terms of calls: what the call that counts a sheet or refuses it says, and what the one that judges it and the one that has its table alone say together.
-- A call is its lifetimes, arguments, exit and result, and that they meet the contract: that every run of the function is such a call, its own proof says.
use Rattle.std.specs.Prelude.{◌≡◌, ℕ, List, Result, Ok, Err}
use contract.Lifetimes.{Lfts}
use Rattle.std.specs.Borrow.{Bor}
use Rattle.paper.specs.Answer.{Answer, accepted, refused}
use Rattle.wire.specs.Refusals.{row}
use Rattle.tally.specs.Judged.{counted}
use Rattle.wire.specs.declared.refusal.Refusal.{Refusal}

-- what is lent to a call: a sheet
abbrev pub Lent : Type 0
Lent = Bor (List ℕ) × Unit {0}

-- a call of the function with this contract, as the check reads it: it was lent the sheet s and answered r
pub record Call {R : Type 0} (Post : Lfts 1 → Lent → R → Lent → Type 0) (s : List ℕ) (r : R) : Type 0 where
  pub lifetimes : Lfts 1
  pub args : Lent
  pub exit : Lent
  pub lent : args.0.now ≡ s
  pub met : Post lifetimes args r exit

-- a call that was lent the sheet s said a
pub record Told (Counting : List ℕ → Result (List (List ℕ)) Refusal → Type 0) (s : List ℕ) (a : Answer (List (List ℕ))) : Type 0 where
  pub result : Result (List (List ℕ)) Refusal
  pub counting : Counting s result
  pub says : a ≡ counted result

-- what the two answers say together
abbrev pub together : Result (Unit {0}) Refusal → List (List ℕ) → Answer (List (List ℕ))
together (Ok u) t = accepted t
together (Err e) t = refused (row e)

-- both calls were lent the sheet s, and together they say a
pub record Answered (Judging : List ℕ → Result (Unit {0}) Refusal → Type 0) (Counting : List ℕ → List (List ℕ) → Type 0) (s : List ℕ) (a : Answer (List (List ℕ))) : Type 0 where
  pub verdict : Result (Unit {0}) Refusal
  pub table : List (List ℕ)
  pub judging : Judging s verdict
  pub counting : Counting s table
  pub says : a ≡ together verdict table
