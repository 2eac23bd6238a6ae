-- What stands after the name in a request without sizes.
-- Assumes nothing.
use mathlib.Core.Path.{◌≡◌}
use Prim.Native.Nat.{ℕ}
use mathlib.Core.List.{List}
use native.Mathlib.Omega.{arith}
use Rattle.paper.specs.Answer.{accepted, ◌leaving◌, give}
use Rattle.paper.specs.Kind.{Kind}
use Rattle.paper.specs.Request.{request}
use Rattle.wire.specs.Size.{value}
use Rattle.request_file_transfer.specs.Reading.{Halves, with_rest}
use Rattle.request_file_transfer.specs.declared.read.Rest.{Rest}

module _ (x : Rest) {f : ℕ} (is : (x.format.0 ≡ f) × (value x.size.file_size_uncompressed ≡ 0) × (value x.size.file_size_compressed ≡ 0)) where
  -- it means the format byte and two sizes of 0
  pub without_sizes : (k : Kind) (n t : List ℕ) → accepted (with_rest k n x leaving t) ≡ give (request k n f 0 0) t
  unfolding give
  without_sizes k n t = rw (is.0, is.1, is.2)

  -- the low half of 0 is a half
  pub zero_halves : Halves x.size
  zero_halves = (omega arith, omega arith)
