-- A group of sizes, from what its width's reader promises.
-- Assumes nothing.
use mathlib.Core.Path.{◌≡◌, sym}
use Prim.Native.Nat.{ℕ, ◌+◌, ◌*◌}
use mathlib.Core.List.{List, [], ◌∷◌}
use native.Mathlib.Omega.{arith}
use lib.ListN.{take, drop}
use Rattle.std.specs.Prelude.{Ok}
use lib.Seq.{drop-drop}
use Rattle.paper.specs.Answer.{accepted, ◌leaving◌}
use Rattle.paper.specs.Bytes.{of_bytes}
use Rattle.paper.specs.Field.{numbers, size_group}
use Rattle.paper.proofs.Places.{group_good}
use Rattle.wire.specs.Group.{WidthRight}

module _ (k : ℕ) (s : List ℕ) (at w first : ℕ) (after : first ≡ at + k) where
  -- one size, right after its width
  pub one-good : WidthRight k 1 s at (Ok w) → {x : ℕ} → x ≡ of_bytes (take w (drop first s))
      → accepted ((x ∷ []) leaving drop (first + w) s) ≡ size_group k 1 (drop at s)
  unfolding numbers
  one-good (is, some, few, there) e =
      let sum : first + w ≡ at + k + 1 * w = omega arith in
      rw (e, sum, after) (group_good s at k 1 w (sym is) there some few)

  -- two sizes, the second where the first ends
  pub two_good : WidthRight k 2 s at (Ok w) → {x y : ℕ} → x ≡ of_bytes (take w (drop first s)) → y ≡ of_bytes (take w (drop (first + w) s))
      → accepted ((x ∷ y ∷ []) leaving drop (first + w + w) s) ≡ size_group k 2 (drop at s)
  unfolding numbers
  two_good (is, some, few, there) e f =
      let sum : first + w + w ≡ at + k + 2 * w = omega arith in
      rw (e, f, sum, after, ← drop-drop w (at + k) s) (group_good s at k 2 w (sym is) there some few)
