-- What is written reads back as it was: sub-functions and their bytes, and the first byte of a request.
-- Assumes nothing.
use mathlib.Core.Path.{◌≡◌, refl, sym}
use mathlib.Core.Bool.{Bool, true, false}
use mathlib.Core.List.{[]}
use Prim.Native.Nat.{ℕ, ◌+◌, ◌%◌, ◌<◌}
use native.Mathlib.Omega.{arith}
use borrow.Author.Tests.{leb-true, leb-false}
use lib.Dec.{leb}
use Rattle.paper.specs.Choice.{pick}
use Rattle.paper.specs.Answer.{accepted, unknown_sub_function, give}
use Rattle.paper.specs.Kind.{one_of}
use Rattle.paper.specs.RoutineControl.{SubFunction, start_routine, stop_routine, request_routine_results, byte_of, sub_functions, known_sub, control_byte}
use Rattle.paper.proofs.Fields.{reads-one-of}
use Rattle.routine_control.specs.SubFunction.{Control, suppressable}
use Rattle.routine_control.proofs.Codes.{low_bits, top_bit}

-- ---- sub-functions
-- the byte of a sub-function is read as that sub-function
pub sub_round : (f : SubFunction) → known_sub (byte_of f) ≡ accepted f
unfolding known_sub one_of
sub_round start_routine = refl
sub_round stop_routine = refl
sub_round request_routine_results = refl

-- a byte that is read as a sub-function is that sub-function's
pub byte_round : (b : ℕ) {f : SubFunction} → known_sub b ≡ accepted f → byte_of f ≡ b
unfolding known_sub give
byte_round b {f} e = ((reads-one-of byte_of unknown_sub_function sub_functions sub_round b).sound [] f [] tt (rw e)).1.is

-- ---- the first byte of a request
-- the byte of a bit and a sub-function is read as the two
pub suppress_round : (suppress : Bool) (f : SubFunction) → suppressable (control_byte suppress f) ≡ accepted (record { suppress = suppress; sub_function = f })
unfolding suppressable known_sub one_of
suppress_round true start_routine = refl
suppress_round true stop_routine = refl
suppress_round true request_routine_results = refl
suppress_round false start_routine = refl
suppress_round false stop_routine = refl
suppress_round false request_routine_results = refl

-- a byte that is read as a bit and a sub-function is the byte of the two
pub suppress_byte_round : (b : ℕ) → b < 256 → {c : Control} → suppressable b ≡ accepted c → control_byte c.suppress c.sub_function ≡ b
suppress_byte_round b small {c} e = rw (top_bit b (sym e), byte_round (b % 128) (sym (low_bits b (sym e)))) (go (leb 128 b) refl)
  where
    go : (t : Bool) → leb 128 b ≡ t → pick t 128 0 + b % 128 ≡ b
    go true q = omega (arith, leb-true 128 b q)
    go false q = omega (arith, leb-false 128 b q)
