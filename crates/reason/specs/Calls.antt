-- True reasons in terms of calls: what asking why and reading promise of the messages of one sort, taken together.
-- `Asks s r`: a call that asks why, lent the message s, answered r; it is an `AskCall`. `Reads s x`: a call of the reader, lent s, answered x.
-- A call is its lifetimes, arguments, exit and result, and that they meet the contract: that every run of the function is such a call, its own proof says.
use Rattle.std.specs.Prelude.{◌≡◌, ℕ, ◌-◌, ◌≤◌, ◌<◌, List, ◌++◌, true, length, take, Ok, Err}
use contract.Lifetimes.{Lfts}
use Rattle.paper.specs.Answer as paper
use Rattle.paper.specs.Reason.{Check, AllPass, Stopped}
use Rattle.wire.specs.Refusals.{row}
use Rattle.wire.specs.Reading.{Seen}
use Rattle.wire.specs.declared.refusal.Refusal.{Refusal}
use Rattle.file_operation.specs.Calls.{OneSlice}
use Rattle.reason.specs.Reason.{fault_said, Why}
use Rattle.reason.specs.declared.reason.Reason.{Reason}

-- a call that asks why, with this contract, as the check reads it: it was lent the message s and answered r
pub record AskCall (Post : Lfts 1 → OneSlice → Why → OneSlice → Type 0) (s : List ℕ) (r : Why) : Type 0 where
  pub lifetimes : Lfts 1
  pub args : OneSlice
  pub exit : OneSlice
  pub lent : args.0.now ≡ s
  pub met : Post lifetimes args r exit

-- the check that a reason names: it fails, and every check that 01 puts earlier passes
abbrev pub Names : List Check → List ℕ → Reason → Type 0
Names checks s x = Stopped checks s (fault_said x.fault) x.offset (row x.refusal)

-- `end r s` is the end of the last byte judged where s is refused with r
pub record TrueReasons (Q : Type 0) (Reads : List ℕ → Seen Q → Type 0) (Asks : List ℕ → Why → Type 0) (checks : List Check) (end : paper.Refusal → List ℕ → ℕ) : Type 0 where
  -- where a reason is told, whoever reads the message is refused with its refusal
  pub refuses : {s : List ℕ} {x : Reason} {y : Seen Q} → Asks s (Err x) → Reads s y → y ≡ Err x.refusal
  -- where none is, the message is accepted, and every check passes
  pub accepts : {s : List ℕ} {y : Seen Q} → Asks s (Ok tt) → Reads s y → (q : Q) × (tail : ℕ) × (y ≡ Ok (q, tail))
  pub passes : {s : List ℕ} → Asks s (Ok tt) → AllPass checks s
  -- it is the true reason: every check that 01 puts earlier passes
  pub reason : {s : List ℕ} {x : Reason} → Asks s (Err x) → Names checks s x
  -- refusals 2, 3 and 6: each message that is no shorter and agrees in every byte up to the last one judged gets the same reason and the same refusal
  pub lasts : {s t : List ℕ} {x : Reason} {r : Why} → Asks s (Err x) → ((row x.refusal).number ≡ 1 → ⊥) → length s ≤ length t
      → take (end (row x.refusal) s) s ≡ take (end (row x.refusal) s) t → Asks t r → r ≡ Err x
  pub read_alike : {s t : List ℕ} {x : Reason} {y : Seen Q} → Asks s (Err x) → ((row x.refusal).number ≡ 1 → ⊥) → length s ≤ length t
      → take (end (row x.refusal) s) s ≡ take (end (row x.refusal) s) t → Reads t y → y ≡ Err x.refusal
  -- refusal 1: with the missing number of bytes added, of any content, that check passes, and so do those before it
  pub filled : (s more : List ℕ) {x : Reason} {needed available : ℕ} → Asks s (Err x) → x.refusal ≡ Refusal.TooShort needed available → length more ≡ needed - available
      → (b : Names checks s x) → AllPass b.earlier (s ++ more) × (b.this.passes (s ++ more) ≡ true)
  -- and where a reason is told again, its check is one that 01 puts later
  pub further : (s more : List ℕ) {x y : Reason} {needed available : ℕ} → Asks s (Err x) → x.refusal ≡ Refusal.TooShort needed available → length more ≡ needed - available
      → Asks (s ++ more) (Err y) → (b : Names checks s x) (d : Names checks (s ++ more) y) → length b.earlier < length d.earlier
