-- What the first pass answers settles what the call does: refused, too short a list, or filled.
-- Assumes nothing.
use mathlib.Core.Path.{◌≡◌, refl, sym, ap}
use mathlib.Core.List.{List}
use Prim.Native.Nat.{ℕ, ◌≤◌, ◌<◌}
use native.Mathlib.Omega.{arith}
use borrow.Author.Tests.{le-leb, lt-leb}
use lib.ListN.{length}
use Rattle.std.specs.Prelude.{Ok, Err}
use Rattle.paper.specs.Answer.{Refusal, Answer, accepted, refused, ◌then◌, no_room, over}
use Rattle.paper.specs.Joined.{pieces_of, piece_lengths, taken_apart}
use Rattle.paper.proofs.Choice.{never}
use Rattle.wire.specs.declared.refusal.Refusal.TheVariants.{NoRoom}
use Rattle.joined_requests.specs.Split.{Counted, Fits, Split}
use Rattle.joined_requests.specs.declared.SplitError.{SplitError}

-- how the pieces ended, from the answer of the first pass
ended-refused : (a : Answer (Unit {0})) (n : ℕ) {e : Refusal} → refused e ≡ (a then accepted n) → a ≡ refused e
ended-refused (accepted x) n h = absurd (never h)
ended-refused (refused r) n h = cc

ended-good : (a : Answer (Unit {0})) (n : ℕ) {m : ℕ} → accepted m ≡ (a then accepted n) → a ≡ accepted tt
ended-good (accepted x) n h = refl
ended-good (refused r) n h = absurd (never (sym h))

module _ (s list : List ℕ) where
  -- the pieces are refused
  pub split-refused : (e : SplitError) → Counted s (Err e) → Split s list (Err e) list
  unfolding taken_apart piece_lengths
  split-refused e c = let ended = ended-refused (pieces_of s).ended _ c.answer in record { answer = rw ended; found = c.found; contents = rw ended }

  module _ (n : ℕ) (c : Counted s (Ok n)) where
    good : (pieces_of s).ended ≡ accepted tt
    good = ended-good (pieces_of s).ended _ c.answer

    -- they are good, and the list is too short
    pub split-short : length list < n → Split s list (Err (record { refusal = NoRoom n (length list); found = n })) list
    unfolding taken_apart piece_lengths
    split-short h =
        let room = lt-leb (length (pieces_of s).lengths) (length list) (omega (arith, c.found)) in
        record { answer = rw (good, room) (ap (λ (m : ℕ). refused (no_room m (length list))) c.found); found = c.found; contents = rw (good, room) }

    -- it is long enough
    pub split-fits : n ≤ length list → Fits s list
    split-fits h = record { good = good; room = omega (arith, c.found) }

    pub split-filled : {after : List ℕ} → n ≤ length list → after ≡ over (pieces_of s).lengths list → Split s list (Ok n) after
    unfolding taken_apart piece_lengths
    split-filled h e =
        let room = le-leb (length (pieces_of s).lengths) (length list) (omega (arith, c.found)) in
        record { answer = rw (good, room) (ap accepted c.found); found = c.found; contents = rw (good, room) e }
