-- The writing of routine messages, of both sorts: a byte, the identifier in two bytes, and the record.
-- Assumes nothing.
use mathlib.Core.Path.{◌≡◌, refl}
use Prim.Native.Nat.{ℕ, ◌+◌, ◌≤◌, ◌<◌}
use mathlib.Core.List.{List, [], ◌∷◌}
use native.Mathlib.Omega.{arith}
use borrow.Author.Tests.{le-leb}
use lib.ListN.{length, length-append}
use Rattle.std.specs.Prelude.{Result, Ok, Err}
use Rattle.paper.specs.Answer.{accepted}
use Rattle.paper.specs.Bytes.{to_bytes}
use Rattle.paper.specs.RoutineControl.{routine_laid}
use Rattle.paper.proofs.Bytes.{length_to_bytes}
use Rattle.wire.specs.Writing.{Wrote}
use Rattle.wire.specs.declared.refusal.Refusal.{Refusal}
use Rattle.wire.proofs.Over.{rest, back, filled_more}
use Rattle.wire.proofs.Writes.{refuses, writes, passed, filled}
use Rattle.routine_control.specs.ThreeBytes.{routine_out}

module _ (b n : ℕ) (r : List ℕ) where
  length_laid : length (routine_laid b n r) ≡ 3 + length r
  length_laid = omega (arith, length-append (to_bytes 2 n) r, length_to_bytes 2 n)

  module _ {old : List ℕ} where
    module _ (fits : length r ≤ 65535) where
      -- too little room
      pub no_room_lem : length old < 3 + length r → Wrote (routine_out b n r) old (Err (Refusal.NoRoom (3 + length r) (length old))) old
      no_room_lem h = passed (rw (le-leb _ _ fits)) (refuses {bytes = routine_laid b n r} _ length_laid h)

      -- each part in the room that begins where the previous one ended
      pub laid_out_lem : {x y z : List ℕ} {p q o : Result ℕ Refusal} → 3 + length r ≤ length old
          → Wrote (accepted (b ∷ [])) old p x → Wrote (accepted (to_bytes 2 n)) (rest 1 x) q y → Wrote (accepted r) (rest 3 (back 1 x y)) o z
          → Wrote (routine_out b n r) old (Ok (3 + length r)) (back 3 (back 1 x y) z)
      laid_out_lem h first second third =
          passed (rw (le-leb _ _ fits))
          (writes _ length_laid h
          (filled_more 3 (filled_more 1 (filled refl first) (filled refl second) refl) (filled refl third) (omega (arith, length_to_bytes 2 n))))
