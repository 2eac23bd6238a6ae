-- No second answer meets the contract of `valid_up_to`, none that of `valid_up_to_by_ranges`, and none that of `is_utf8`. Assumes nothing.
use mathlib.Core.Path.{sym, ◌∙◌}
use Rattle.paper.specs.Contract.{Determined}
use Rattle.paper.proofs.Utf8.{longest_once}
use Rattle.utf8.proofs.valid_up_to.Kinds as valid-up-to-kinds
use Rattle.utf8.proofs.valid_up_to.Reads as valid_up_to
use Rattle.utf8.proofs.by_ranges.valid_up_to_by_ranges.Kinds as by-ranges-kinds
use Rattle.utf8.proofs.by_ranges.valid_up_to_by_ranges.Reads as by-ranges
use Rattle.utf8.proofs.is_utf8.Kinds as is-utf8-kinds
use Rattle.utf8.proofs.is_utf8.Reads as is-utf8

pub valid_up_to_determined : Determined 1 valid-up-to-kinds.ps valid-up-to-kinds.r valid_up_to.Post
valid_up_to_determined κs a x y r₁ r₂ p q = longest_once _ r₁ r₂ p q

pub valid_up_to_by_ranges_determined : Determined 1 by-ranges-kinds.ps by-ranges-kinds.r by-ranges.Post
valid_up_to_by_ranges_determined κs a x y r₁ r₂ p q = longest_once _ r₁ r₂ p q

pub is_utf8_determined : Determined 1 is-utf8-kinds.ps is-utf8-kinds.r is-utf8.Post
is_utf8_determined κs a x y r₁ r₂ p q = p ∙ sym q
