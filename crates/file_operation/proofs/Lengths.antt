-- What the answer about a message's length says of the message.
-- Assumes nothing.
use mathlib.Core.Path.{◌≡◌, refl, sym, ap, ◌∙◌}
use Prim.Native.Nat.{ℕ, ◌<◌}
use mathlib.Core.List.{List, []}
use lib.ListN.{length}
use Rattle.std.specs.Prelude.{Result, Ok, Err}
use Rattle.paper.specs.Answer as paper
use Rattle.paper.specs.Answer.{Answer, accepted, refused, ◌then◌}
use Rattle.paper.proofs.Choice.{never}
use Rattle.wire.specs.Refusals.{row}
use Rattle.wire.specs.Writing.{told, Wrote}
use Rattle.wire.specs.declared.refusal.Refusal.{Refusal}
use Rattle.wire.proofs.Writes.{refuses, malformed}
use Rattle.file_operation.specs.Part.{or_none, kept_after}
use Rattle.file_operation.specs.Writing.{length_in}

-- a refusal is the message's own
pub same-refusal : (message : Answer (List ℕ)) {e : Refusal} {old : List ℕ} → refused (row e) ≡ length_in message → Wrote message old (Err e) old
same-refusal (accepted bytes) said = absurd (never said)
same-refusal (refused r) said = malformed (cc)

-- a number is that of the message's bytes, and in less room they are refused
pub same_number : (message : Answer (List ℕ)) {n : ℕ} {old : List ℕ} → accepted n ≡ length_in message → length old < n
    → Wrote message old (Err (Refusal.NoRoom n (length old))) old
same_number (accepted bytes) said h = refuses _ (cc) h
same_number (refused r) said h = absurd (never (sym said))

-- ---- a check that hands on what it judged, and what comes after it
-- a number is the length of what is handed on
pub accepted_length : (a : Answer (List ℕ)) {n : ℕ} → accepted n ≡ length_in a → (x : List ℕ) × (a ≡ accepted x) × (n ≡ length x)
accepted_length (accepted x) said = (x, refl, cc)
accepted_length (refused r) said = absurd (never (sym said))

-- a refusal says that nothing is handed on, and is what comes of the whole
pub refused_none : (a : Answer (List ℕ)) {r : paper.Refusal} → refused r ≡ length_in a → [] ≡ or_none a
refused_none (accepted x) said = absurd (never said)
refused_none (refused r) said = refl

-- what a check hands on is what stays after its answer, where it hands on the whole or nothing
pub kept-after : (a : Answer (List ℕ)) (x : List ℕ) (r : Result ℕ Refusal) → ((y : List ℕ) → a ≡ accepted y → y ≡ x) → told r ≡ length_in a → kept_after r x ≡ or_none a
kept-after a x (Ok n) whole said = let (y, is, l) = accepted_length a said in sym (ap or_none is ∙ whole y is)
kept-after a x (Err e) whole said = refused_none a said

pub refused_then : {B : Type 0} (a : Answer (List ℕ)) (next : Answer B) {r : paper.Refusal} → refused r ≡ length_in a → refused r ≡ (a then next)
refused_then (accepted x) next said = absurd (never said)
refused_then (refused r) next said = cc

-- the length of bytes that come after a check
pub length_then : (a : Answer (List ℕ)) (bytes : List ℕ) {n : ℕ} → length bytes ≡ n → length_in (a then accepted bytes) ≡ (a then accepted n)
length_then (accepted x) bytes e = ap accepted e
length_then (refused r) bytes e = refl

-- a number that comes after a check says that it accepted
pub accepted_then : (a : Answer (List ℕ)) (m : ℕ) {n : ℕ} → accepted n ≡ (a then accepted m) → (x : List ℕ) × (a ≡ accepted x) × (n ≡ m)
accepted_then (accepted x) m said = (x, refl, cc)
accepted_then (refused r) m said = absurd (never (sym said))
