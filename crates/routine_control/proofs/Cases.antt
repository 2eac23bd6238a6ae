-- What the paper's readers of routine messages answer, by cases: the three routine bytes cut or there, an unknown sub-function, a good message.
-- Assumes nothing.
use mathlib.Core.Path.{◌≡◌, refl, ap, subst}
use Prim.Native.Nat.{ℕ, ◌+◌, ◌*◌, ◌-◌, ◌≤◌, ◌<◌}
use mathlib.Core.List.{List, [], ◌∷◌}
use native.Mathlib.Nat.{add-zero}
use native.Mathlib.Omega.{arith}
use lib.ListN.{length, get_or, take, drop, length-drop}
use lib.Seq.{get_or-drop, take_all}
use Rattle.paper.specs.Answer.{Refusal, too_short, accepted, refused, ◌leaving◌, Reader, ◌>>=◌, give, refuse, hand_out}
use Rattle.paper.specs.Bytes.{of_bytes}
use Rattle.paper.specs.Field.{part}
use Rattle.paper.specs.RoutineControl.{SubFunction, known_sub, RoutineBytes, routine_bytes, whole_rest}
use Rattle.paper.proofs.Places.{on, off, part-short, part_there}
use Rattle.wire.specs.Refusals.{row}
use Rattle.wire.specs.Reading.{Seen}
use Rattle.wire.specs.declared.refusal.Refusal as code-refusal
use Rattle.std.specs.Prelude.{Ok, Err}
use Rattle.wire.proofs.Left.{left}
use Rattle.routine_control.specs.ThreeBytes.{bytes_of, RoutineBytesRight}
use Rattle.routine_control.specs.declared.routine_bytes.RoutineBytes as code

-- ---- the three routine bytes
abbrev head_of : ℕ → ℕ → RoutineBytes
head_of control identifier = record { control = control; identifier = identifier }

three : (s : List ℕ) → 3 ≤ length s → head_of (get_or s 0 0) (get_or s 1 0 * 256 + get_or s 2 0) ≡ head_of (get_or (take 3 s) 0 0) (of_bytes (drop 1 (take 3 s)))
unfolding of_bytes
three [] h = absurd (omega arith)
three (a ∷ []) h = absurd (omega arith)
three (a ∷ b ∷ []) h = absurd (omega arith)
three (a ∷ b ∷ c ∷ t) h = let same : b * 256 + c ≡ b * 256 + (c * 1 + 0) = omega arith in ap (head_of a) same

module _ (s : List ℕ) (at : ℕ) where
  -- fewer than three are left
  pub bytes-short : (room : ℕ) → room ≡ length s - at → room < 3 → refused (too_short 3 room) ≡ routine_bytes (drop at s)
  unfolding routine_bytes
  bytes-short room e h = off (part 3) _ (drop at s) (part-short s at 3 room e h)

  -- all three are there
  pub bytes_there : 3 ≤ length s - at
      → accepted (head_of (get_or s at 0) (get_or s (at + 1) 0 * 256 + get_or s (at + 2) 0) leaving drop (at + 3) s) ≡ routine_bytes (drop at s)
  unfolding routine_bytes give
  bytes_there h =
      let has = three (drop at s) (omega (arith, length-drop at s)) in
      let same = rw (get_or-drop at s 0 0, add-zero at, get_or-drop at s 1 0, get_or-drop at s 2 0) at has in
      on (part 3) _ (drop at s) (part_there s at 3 h) (ap (λ (i : RoutineBytes). accepted (i leaving drop (at + 3) s)) same)

-- ---- what stands after them
module _ {s : List ℕ} {x : Seen code.RoutineBytes} (right : RoutineBytesRight s 0 x) {b : code.RoutineBytes} {next : ℕ} (is : x ≡ Ok (b, next)) where
  there : RoutineBytesRight s 0 (Ok (b, next))
  there = subst (RoutineBytesRight s 0) is right

  -- the record begins at byte 3 and ends with the message
  pub record_place : {n : ℕ} → n ≡ length s - next → (next ≡ 3) × (3 + n ≡ length s)
  record_place len = let place = there.place in omega arith

-- ---- both sorts of message
-- which bits of the first byte are judged, and what is made of the parts
module _ {M : Type 0} (judged : ℕ → ℕ) (made : RoutineBytes → SubFunction → List ℕ → M) where
  abbrev pub routine : Reader M
  routine =
      routine_bytes >>= (λ (h : RoutineBytes). hand_out (known_sub (judged h.control))
      >>= (λ (f : SubFunction). whole_rest
      >>= (λ (r : List ℕ). give (made h f r))))

  module _ {s : List ℕ} {x : Seen code.RoutineBytes} (right : RoutineBytesRight s 0 x) where
    -- fewer than three bytes, whatever they are: the caller leaves with their refusal
    pub too_few : {e : code-refusal.Refusal} → x ≡ Err e → refused (row e) ≡ routine s
    too_few is = off routine_bytes _ s (left right is)

    module _ {b : code.RoutineBytes} {next : ℕ} (is : x ≡ Ok (b, next)) where
      -- the sub-function is refused
      pub no_sub : {r : Refusal} → refused r ≡ known_sub (judged b.control) → refused r ≡ routine s
      unfolding refuse
      no_sub e = on routine_bytes _ s (there right is).paper (off (hand_out (known_sub (judged b.control))) _ (drop next s) (rw (← e)))

      -- it is f, and the record is all that is left
      pub whole : {f : SubFunction} {n : ℕ} → accepted f ≡ known_sub (judged b.control) → n ≡ length s - next
          → accepted (made (bytes_of b) f (take n (drop next s)) leaving []) ≡ routine s
      unfolding give whole_rest
      whole {f} {n} e len =
          let all : take n (drop next s) ≡ drop next s = take_all n (drop next s) (omega (arith, length-drop next s)) in
          on routine_bytes _ s (there right is).paper
          (on (hand_out (known_sub (judged b.control))) _ (drop next s) {a = f} (rw (← e))
          (on whole_rest _ (drop next s) refl (rw all)))
