-- What is printed of an import, by the stream it goes to and by the word.
-- Assumes nothing.
use Rattle.std.proofs.Common.{ℕ, List, ◌++◌, ◌≡◌, refl, sym, take, length, take_at, codes}
use mathlib.Core.Bool.{true, false, true≢false}
use Rattle.std.specs.Prelude.{Some, None}
use Rattle.paper.specs.Answer.{over}
use Rattle.paper.specs.ListingProgram.{Printed, to_output, to_error, import_prints, import_writes, how_to_use}
use Rattle.dtc.specs.declared.status.Mask.{Mask}
use Rattle.dtc.specs.declared.status.Status.{Status}
use Rattle.listing_text.specs.Import.{MaskRight, is_output, bytes_in}
use Rattle.import_listing_cases.specs.Shown.{shown}

-- the bytes at the front of a room
pub front : (u old : List ℕ) {k : ℕ} {new : List ℕ} → k ≡ length u → new ≡ over u old → take k new ≡ u
unfolding over
front u old e is = rw (e, is) (take_at u _ _ refl)

-- to standard output, or to standard error
pub on_output : (p : Printed) → true ≡ is_output p → codes " to standard output:\n" ++ (bytes_in p ++ codes "\n") ≡ shown p
on_output (to_output s) h = refl
on_output (to_error t) h = absurd (true≢false h)

pub on_error : (p : Printed) → false ≡ is_output p → codes " to standard error:\n" ++ bytes_in p ≡ shown p
on_error (to_output s) h = absurd (true≢false (sym h))
on_error (to_error t) h = refl

-- a word that is a mask, or none
pub with_mask : (w t : List ℕ) (m : Mask Status) → MaskRight w (Some m) → import_prints m.bits t ≡ import_writes w t
unfolding import_writes
with_mask w t m h = rw (h.0, h.1) refl

pub no_mask : (w t : List ℕ) → MaskRight w None → to_error how_to_use ≡ import_writes w t
unfolding import_writes
no_mask w t h = rw h refl
