-- What `uint`, a size of a known width, answers at a place of a message, by cases.
-- Assumes nothing.
use mathlib.Core.Path.{◌≡◌}
use Prim.Native.Nat.{ℕ, ◌+◌, ◌-◌, ◌≤◌, ◌<◌}
use mathlib.Core.List.{List}
use lib.ListN.{length, take, drop}
use Rattle.paper.specs.Answer.{too_short, bad_width, accepted, refused, ◌leaving◌}
use Rattle.paper.specs.Bytes.{of_bytes}
use Rattle.paper.specs.Field.{part}
use Rattle.paper.proofs.Places.{on, off, pass, fail, narrow, wide, good, part-short, part_there}
use Rattle.wire.specs.Group.{uint}

module _ (s : List ℕ) (at w : ℕ) where
  -- fewer than w bytes are available
  pub uint-short : (available : ℕ) → available ≡ length s - at → available < w → refused (too_short w available) ≡ uint w (drop at s)
  unfolding uint
  uint-short available e h = off (part w) _ (drop at s) (part-short s at w available e h)

  module _ (there : w ≤ length s - at) where
    -- the width is below 1
    pub uint_narrow : w < 1 → refused (bad_width w) ≡ uint w (drop at s)
    unfolding uint
    uint_narrow h = on (part w) _ (drop at s) (part_there s at w there) (fail (bad_width w) _ _ (narrow w h))

    -- the width is above 16
    pub uint_wide : 16 < w → refused (bad_width w) ≡ uint w (drop at s)
    unfolding uint
    uint_wide h = on (part w) _ (drop at s) (part_there s at w there) (fail (bad_width w) _ _ (wide w h))

    -- the width is good, and n is the number of the bytes
    pub uint-good : (n : ℕ) → n ≡ of_bytes (take w (drop at s)) → 1 ≤ w → w ≤ 16 → accepted (n leaving drop (at + w) s) ≡ uint w (drop at s)
    unfolding uint
    uint-good n is g h = on (part w) _ (drop at s) (part_there s at w there) (rw is (pass (bad_width w) _ _ (good w g h)))
