-- The cases of a writer's promise.
-- Assumes nothing.
use Prim.Native.Nat.{ℕ, ◌≤◌, ◌<◌}
use mathlib.Core.Path.{◌≡◌, refl, sym, ap, ◌∙◌}
use mathlib.Core.List.{List}
use native.Mathlib.Omega.{arith}
use borrow.Author.Tests.{lt-leb, le-leb}
use lib.ListN.{length}
use Rattle.std.specs.Prelude.{Result, Ok, Err}
use Rattle.paper.specs.Answer.{Answer, accepted, refused, no_room, over, Written, written}
use Rattle.wire.specs.Refusals.{row}
use Rattle.wire.specs.Writing.{Wrote, Filled}
use Rattle.wire.specs.declared.refusal.Refusal.{Refusal}

-- what the paper says of bytes for which there is room, or too little
room : (bytes old : List ℕ) {n : ℕ} → length bytes ≡ n → n ≤ length old → written (accepted bytes) old ≡ record { answer = accepted n; contents = over bytes old }
room bytes old e h = rw (e, le-leb _ _ h)

no_room_lem : (bytes old : List ℕ) {n : ℕ} → length bytes ≡ n → length old < n → written (accepted bytes) old ≡ record { answer = refused (no_room n (length old)); contents = old }
no_room_lem bytes old e h = rw (e, lt-leb _ _ h)

-- too little room: nothing changes
pub refuses : {bytes old : List ℕ} (n : ℕ) → length bytes ≡ n → length old < n → Wrote (accepted bytes) old (Err (Refusal.NoRoom n (length old))) old
refuses {bytes} {old} n e h = let x = no_room_lem bytes old e h in record { answer = sym (ap Written.answer x); contents = sym (ap Written.contents x) }

-- room: the bytes stand over the front
pub writes : {bytes old new : List ℕ} (n : ℕ) → length bytes ≡ n → n ≤ length old → Filled bytes old new → Wrote (accepted bytes) old (Ok n) new
writes {bytes} {old} n e h f =
    let x = room bytes old e h in
    record { answer = sym (ap Written.answer x); contents = f.given_room (omega arith) ∙ sym (ap Written.contents x) }

-- a check that comes first failed: the message is its refusal
pub malformed : {message : Answer (List ℕ)} {e : Refusal} {old : List ℕ} → message ≡ refused (row e) → Wrote message old (Err e) old
malformed h = record { answer = rw h; contents = rw h }

-- the checks passed: what is left of the message is bytes, or a message with fewer checks
pub passed : {message left : Answer (List ℕ)} {old : List ℕ} {r : Result ℕ Refusal} {new : List ℕ} → message ≡ left → Wrote left old r new → Wrote message old r new
passed h w = rw h w

-- what a caller that has checked the room needs of a writer whose message is bytes (`refl`, or `counted-good` of FieldBytes), whatever it answered
pub filled : {message : Answer (List ℕ)} {bytes old : List ℕ} {r : Result ℕ Refusal} {new : List ℕ} → message ≡ accepted bytes → Wrote message old r new → Filled bytes old new
filled {bytes = bytes} {old} e w = record { given_room = λ h. w.contents ∙ ap (λ (m : Answer (List ℕ)). (written m old).contents) e ∙ ap Written.contents (room bytes old refl h) }
