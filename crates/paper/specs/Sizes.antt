-- Document 01, "Sizes and the writer": which width is written, and how two sizes compare.
use Rattle.std.specs.Prelude.{ℕ, zero, suc, ◌^◌, ◌≤◌, ◌<◌, Bool, true, List, [], ◌∷◌, ltb, eqb}
use Rattle.paper.specs.Choice.{pick, both}

-- a size below 256 ^ w fits in w bytes; here each of the sizes does
abbrev pub Fit : ℕ → List ℕ → Type 0
Fit w [] = Unit {0}
Fit w (x ∷ xs) = (x < 256 ^ w) × Fit w xs

-- a width that may stand in a message with these sizes
pub record Holds (xs : List ℕ) (w : ℕ) : Type 0 where
  pub positive : 1 ≤ w
  pub within : w ≤ 16
  pub fit : Fit w xs

-- the written width: the smallest from 1 to 16 that holds the sizes
pub record Smallest (xs : List ℕ) (w : ℕ) : Type 0 where
  pub holds : Holds xs w
  pub least : (v : ℕ) → Holds xs v → w ≤ v

-- the same by trying: each of the sizes fits in w bytes
unfoldable pub fit : ℕ → List ℕ → Bool
fit w [] = true
fit w (x ∷ xs) = both (ltb x (256 ^ w)) (fit w xs)

-- the first width from w on that fits, or w + n
unfoldable pub first_fit : ℕ → ℕ → List ℕ → ℕ
first_fit zero w xs = w
first_fit (suc n) w xs = pick (fit w xs) w (first_fit n (suc w) xs)

-- the smallest width from 1 to 16, found by trying; proofs/Sizes.antt shows that it is the smallest
unfoldable pub width : List ℕ → ℕ
width xs = first_fit 15 1 xs

-- two sizes compare by exact value
pub data Order : Type 0 where
  less equal greater : Order

unfoldable pub compare : ℕ → ℕ → Order
compare a b = pick (ltb a b) less (pick (eqb a b) equal greater)
