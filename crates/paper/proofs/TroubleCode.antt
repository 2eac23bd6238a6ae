-- Trouble-code numbers and records go over into each other, and masks ask what they are named after.
-- Assumes nothing.
use mathlib.Core.Path.{◌≡◌, refl}
use mathlib.Core.Bool.{Bool, true, false}
use mathlib.Core.List.{[], ◌∷◌, map}
use Prim.Native.Nat.{ℕ, ◌/◌, ◌%◌, ◌≤◌}
use native.Mathlib.Omega.{arith}
use borrow.Author.Tests.{le-leb}
use Rattle.paper.specs.Choice.{either}
use Rattle.paper.specs.Answer.{accepted}
use Rattle.paper.specs.Bytes.{Bytes}
use Rattle.paper.specs.TroubleCode.{TroubleCode, trouble_code, number_of, from_number, trouble_code_bytes}
use Rattle.paper.specs.TroubleCode.{bit, test_failed, pending_dtc, warning_indicator_requested, dtc_class, severity_valid, matches, mask_of}

-- the code of a number has that number
pub number_there : (n : ℕ) → n ≤ 0x00FFFFFF → (c : TroubleCode) × (from_number n ≡ accepted c) × (number_of c ≡ n)
unfolding from_number
number_there n h = (trouble_code (n / 65536) (n / 256 % 256) (n % 256), rw (le-leb n 0x00FFFFFF h), omega arith)

-- the number of a code gives the code back
pub number_back : (c : TroubleCode) → Bytes (trouble_code_bytes c) → from_number (number_of c) ≡ accepted c
unfolding from_number
number_back c h =
    let high : number_of c / 65536 ≡ c.high = omega arith in
    let middle : number_of c / 256 % 256 ≡ c.middle = omega arith in
    let low : number_of c % 256 ≡ c.low = omega arith in
    rw (le-leb (number_of c) 0x00FFFFFF (omega arith), high, middle, low)

-- ---- masks
-- worked examples: the mask of one bit is that bit's value, and that of "valid" has the five class bits
masks : map mask_of (test_failed ∷ pending_dtc ∷ warning_indicator_requested ∷ dtc_class 4 ∷ severity_valid ∷ []) ≡ 0x01 ∷ 0x04 ∷ 0x80 ∷ 0x10 ∷ 0x1F ∷ []
masks = refl

either_alone : (t : Bool) → either t false ≡ t
either_alone true = refl
either_alone false = refl

-- a status matches the mask of a bit's question just when the answer is yes
pub masks_ask : (b : ℕ) → map (λ (k : ℕ). matches (mask_of (bit k)) b) (0 ∷ 1 ∷ 2 ∷ 3 ∷ 4 ∷ 5 ∷ 6 ∷ 7 ∷ []) ≡ map (λ (k : ℕ). bit k b) (0 ∷ 1 ∷ 2 ∷ 3 ∷ 4 ∷ 5 ∷ 6 ∷ 7 ∷ [])
masks_ask b = simp either_alone
