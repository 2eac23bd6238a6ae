-- What the answer of a field's reader says of the message, in the paper's terms. One shape serves every field.
use Rattle.std.specs.Prelude.{◌≡◌, ℕ, ◌+◌, ◌≤◌, List, length, drop, Result, Ok, Err}
use Rattle.paper.specs.Answer.{Answer, accepted, refused, Read, ◌leaving◌, Reader}
use Rattle.wire.specs.Refusals.{row}
use Rattle.wire.specs.declared.refusal.Refusal.{Refusal}

-- an answer: the value and where the next field begins, or the refusal
abbrev pub Seen : Type 0 → Type 0
Seen A = Result (A × ℕ) Refusal

-- what it says on paper: what the value means and the tail, or the refusal's number and values
abbrev pub said : {A M : Type 0} → (A → M) → List ℕ → Seen A → Answer (Read M)
said meaning s (Ok (a, next)) = accepted (meaning a leaving drop next s)
said meaning s (Err e) = refused (row e)

-- where the value stands and the next field begins
abbrev pub placed : {A : Type 0} → (A → ℕ → Type 0) → Seen A → Type 0
placed Place (Ok (a, next)) = Place a next
placed Place (Err e) = Unit {0}

-- the answer r at a position of the message s is the paper's answer to the field that begins there
pub record Right (A M : Type 0) (meaning : A → M) (field : Reader M) (Place : A → ℕ → Type 0) (s : List ℕ) (at : ℕ) (r : Seen A) : Type 0 where
  pub paper : said meaning s r ≡ field (drop at s)
  pub place : placed Place r

-- the next field begins n bytes on, within the message
abbrev pub Onwards : List ℕ → ℕ → ℕ → ℕ → Type 0
Onwards s at n next = (next ≡ at + n) × (next ≤ length s)
