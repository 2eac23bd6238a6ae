-- What makes a step, and the longest valid beginning by steps. Assumes nothing.
use Prim.Native.Nat.{ℕ, ◌+◌, ◌-◌, ◌<◌}
use mathlib.Core.Path.{◌≡◌, refl, sym, ◌∙◌}
use mathlib.Core.Logic.{⊎_elim}
use mathlib.Core.List.{List, [], ◌∷◌}
use native.Mathlib.Omega.{arith}
use native.Mathlib.Nat.{add-zero}
use denote.Param.Members.{Shared}
use denote.Ref.{Bor}
use lib.ListN.{length, take, drop}
use Rattle.std.proofs.Common.{None, slice_get}
use Rattle.std.specs.Fn.{FnReturnsAt}
use Rattle.paper.specs.Utf8.{char_length, Longest}
use Rattle.paper.proofs.Utf8.{char_none, char_found, one, stop, past}
use Rattle.utf8.specs.Valid.{Valid, Step, MakesSteps}
use Rattle.utf8.specs.Ascii.{AsciiRun}
use Rattle.utf8.specs.Character.{Lead}
use Rattle.utf8.proofs.Valid.{rest_of, empty, onward}
use Rattle.utf8.proofs.Ascii.{ascii-valid}

-- no step where nothing is left; a run of ASCII; one character, or none
pub nothing_left : (s : List ℕ) → None ≡ slice_get s 0 → Step s 0
nothing_left [] e = record { valid = empty []; stuck = λ _. char_none }
nothing_left (a ∷ s) e = absurd (cc)

pub run_step : {s : List ℕ} {a n : ℕ} → Lead a s → a < 0x80 → AsciiRun s n → Step s n
run_step b l h = record { valid = ascii-valid h.start; stuck = λ z. absurd (omega (arith, b.is, (rw z at h.ends) b.some)) }

pub character_step : {s : List ℕ} {n : ℕ} → n ≡ char_length s → Step s n
character_step {s} {n} e =
    ⊎_elim (λ z. let y : n ≡ 0 = e ∙ z in record { valid = rw y (empty s); stuck = λ _. z })
    (λ b. record { valid = record { within = rw e b.0; good = rw e (one b.1) }; stuck = λ z. sym e ∙ z })
    (char_found s)

-- the code makes a step of p by the function f
pub by_step : {F : Type 0} {g : Shared F (Bor (List ℕ) × Unit {0}) ℕ} {f : F} {n : ℕ} → MakesSteps (FnReturnsAt g f) → (p : Bor (List ℕ)) → g.post f (p, tt) n → Step p.now n
by_step h p m = h _ _ record { shown = p; shows = refl; says = record { met = m } }

-- after a step what is passed is valid; where no step can be made it is the longest. The code lends what is left of s as this part of it
pub turn : {s : List ℕ} {at n : ℕ} → Valid s at → Step (take (length s - at) (drop at s)) n → Valid s (at + n)
turn {s} {at} {n} h g = onward h (rw rest_of at g.valid)

pub end : {s : List ℕ} {at n : ℕ} → Valid s at → Step (take (length s - at) (drop at s)) n → n ≡ 0 → Longest s at
end {s} {at} h g z =
    rw add-zero at (past s at 0 h.within h.good (stop (drop at s) (rw rest_of at (g.stuck z))))

-- the longest beginning may be looked for from any valid one on
pub longest_on : {s : List ℕ} {at n : ℕ} → Valid s at → Longest (take (length s - at) (drop at s)) n → Longest s (at + n)
longest_on {s} {at} {n} h g = past s at n h.within h.good (rw rest_of at g)
