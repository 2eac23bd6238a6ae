-- Sizes of a known width, and groups of one or two sizes after their width.
use Rattle.std.specs.Prelude.{◌≡◌, ℕ, ◌+◌, ◌*◌, ◌-◌, ◌^◌, ◌≤◌, ◌<◌, List, [], ◌∷◌, length, take, drop, Result, Ok, Err}
use Rattle.paper.specs.Answer.{refused, bad_width, Reader, ◌>>=◌, judge}
use Rattle.paper.specs.Bytes.{of_bytes}
use Rattle.paper.specs.Field.{part, good_width, size_group}
use Rattle.wire.specs.Refusals.{row}
use Rattle.wire.specs.Size.{value}
use Rattle.wire.specs.Reading.{Seen, Right, Onwards}
use Rattle.wire.specs.declared.refusal.Refusal.{Refusal}
use Rattle.wire.specs.declared.size.Size.{Size}
use Rattle.wire.specs.declared.group.TwoSizes.{TwoSizes}

-- ---- a size of a known width
-- its bytes must be there, then its width must be good
unfoldable pub uint : ℕ → Reader ℕ
uint w = do
  x ← part w
  judge (good_width w) (bad_width w) (of_bytes x)

-- the low half is a half, and the next field begins n bytes on
abbrev pub SizePlace : List ℕ → ℕ → ℕ → Size → ℕ → Type 0
SizePlace s at n x next = (x.low < 2 ^ 64) × Onwards s at n next

abbrev pub UintRight : ℕ → List ℕ → ℕ → Seen Size → Type 0
UintRight w s at r = Right Size ℕ value (uint w) (SizePlace s at w) s at r

-- ---- a group of c sizes, whose width stands in k bytes
-- the width is good and all of the group is there; or the refusal is the group's
abbrev pub WidthRight : ℕ → ℕ → List ℕ → ℕ → Result ℕ Refusal → Type 0
WidthRight k c s at (Ok w) = (of_bytes (take k (drop at s)) ≡ w) × (1 ≤ w) × (w ≤ 16) × (k + c * w ≤ length s - at)
WidthRight k c s at (Err e) = refused (row e) ≡ size_group k c (drop at s)

-- the low half of the size is a half, and the next field begins within the message
abbrev pub OneSizePlace : List ℕ → Size → ℕ → Type 0
OneSizePlace s x next = (x.low < 2 ^ 64) × (next ≤ length s)

abbrev pub OneSizeRight : ℕ → List ℕ → ℕ → Seen Size → Type 0
OneSizeRight k s at r = Right Size (List ℕ) (λ (x : Size). value x ∷ []) (size_group k 1) (OneSizePlace s) s at r

abbrev pub values_of : TwoSizes → List ℕ
values_of x = value x.uncompressed ∷ value x.compressed ∷ []

-- the low half of each size is a half, and the next field begins within the message
abbrev pub TwoSizesPlace : List ℕ → TwoSizes → ℕ → Type 0
TwoSizesPlace s x next = (x.uncompressed.low < 2 ^ 64) × (x.compressed.low < 2 ^ 64) × (next ≤ length s)

abbrev pub TwoSizesRight : ℕ → List ℕ → ℕ → Seen TwoSizes → Type 0
TwoSizesRight k s at r = Right TwoSizes (List ℕ) values_of (size_group k 2) (TwoSizesPlace s) s at r
