-- A message written behind its service byte: how the answer about the rest, and what it leaves in the buffer, become those about the whole.
use Rattle.std.specs.Prelude.{◌≡◌, ℕ, ◌+◌, ◌≤◌, List, [], ◌∷◌, length, eqb, Result}
use Rattle.std.specs.Borrow.{MutBor}
use Rattle.std.specs.Fn.{Once, FnOnceReturnsAtMut}
use Rattle.paper.specs.Choice.{pick}
use Rattle.paper.specs.Answer.{Refusal, no_room, Answer, accepted, refused, written}
use Rattle.wire.specs.Writing.{told, Wrote}
use Rattle.wire.specs.declared.refusal.Refusal as wire

-- 7 counts the service byte in what is needed, and in the room
abbrev pub refusal_on : (room : ℕ) → Refusal → Refusal
refusal_on room r = pick (eqb r.number 7) (no_room (r.first + 1) room) r

-- what 7 says is needed; 0 of any other refusal
abbrev pub needed_by : Refusal → ℕ
needed_by r = pick (eqb r.number 7) r.first 0

-- one byte more is written, or the refusal
abbrev pub answer_on : (room : ℕ) → Answer ℕ → Answer ℕ
answer_on room (accepted n) = accepted (n + 1)
answer_on room (refused r) = refused (refusal_on room r)

-- the most bytes that the answer speaks of
abbrev pub spoken_of : Answer ℕ → ℕ
spoken_of (accepted n) = n
spoken_of (refused r) = needed_by r

-- the service byte stands at the start where the rest was written, and only there
abbrev pub contents_on : (service : ℕ) → Answer ℕ → List ℕ → List ℕ
contents_on service (accepted n) room = (written (accepted (service ∷ [])) room).contents
contents_on service (refused r) room = room

-- what putting the service byte promises, where w is what was answered about the rest
pub record ServicePut (service : ℕ) (w : Result ℕ wire.Refusal) (old : List ℕ) (r : Result ℕ wire.Refusal) (new : List ℕ) : Type 0 where
  pub answer : told r ≡ answer_on (length old) (told w)
  pub contents : new ≡ contents_on service (told w) old

-- what can be led by a service byte: bytes, at least one and at most 65,572, or refusal 2
abbrev pub Leads : Answer (List ℕ) → Type 0
Leads (accepted u) = (1 ≤ length u) × (length u ≤ 65572)
Leads (refused r) = r.number ≡ 2

-- a call of `write` writes the message into whatever room it is lent
abbrev pub Writes : {F : Type 0} → Once F (MutBor (List ℕ) × Unit {0}) (Result ℕ wire.Refusal × (MutBor (List ℕ) × Unit {0})) → F → Answer (List ℕ) → Type 0
Writes g write message = (old : List ℕ) (r : Result ℕ wire.Refusal) (new : List ℕ) → FnOnceReturnsAtMut g write old r new → Wrote message old r new
