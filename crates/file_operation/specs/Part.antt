-- What an answer about a part of a message says, and what a part is that is handed out.
use Rattle.std.specs.Prelude.{◌≡◌, ℕ, List, [], Result, Ok, Err}
use Rattle.std.specs.Borrow.{Bor}
use Rattle.paper.specs.Answer.{Answer, accepted, refused}
use Rattle.wire.specs.Refusals.{row}
use Rattle.wire.specs.Place.{IsPart}
use Rattle.wire.specs.declared.place.Place.{Place}
use Rattle.wire.specs.declared.refusal.Refusal.{Refusal}

-- ---- a part of a message that was read
-- the place, or the refusal's number and values
abbrev pub part_said : Result Place Refusal → Answer Place
part_said (Ok p) = accepted p
part_said (Err e) = refused (row e)

-- the place; of a refusal the empty one at the start of the message
abbrev pub or_empty : Answer Place → Place
or_empty (accepted p) = p
or_empty (refused e) = record { start = 0; len = 0 }

-- r is the very part of s at the place that was answered; of a refusal the empty part at its start
abbrev pub IsPartIn : Bor (List ℕ) → Answer Place → Bor (List ℕ) → Type 0
IsPartIn s answer r = IsPart s (or_empty answer).start (or_empty answer).len r

-- ---- bytes that are lent to be judged
-- what a check hands on; nothing where it refuses
abbrev pub or_none : Answer (List ℕ) → List ℕ
or_none (accepted x) = x
or_none (refused e) = []

-- what stays of bytes of which a check answered their number, or refused them
abbrev pub kept_after : Result ℕ Refusal → List ℕ → List ℕ
kept_after (Ok n) x = x
kept_after (Err e) x = []

-- r begins where s does, and its bytes are what stays of those of s
abbrev pub KeptAfter : Result ℕ Refusal → Bor (List ℕ) → Bor (List ℕ) → Type 0
KeptAfter checked s r = (r.ref_ptr ≡ s.ref_ptr) × (r.now ≡ kept_after checked s.now)

-- r begins where s does, and its bytes are what the check hands on of those of s
abbrev pub Kept : (List ℕ → Answer (List ℕ)) → Bor (List ℕ) → Bor (List ℕ) → Type 0
Kept check s r = (r.ref_ptr ≡ s.ref_ptr) × (r.now ≡ or_none (check s.now))
