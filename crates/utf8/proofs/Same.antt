-- On every name the check with the table and the one by ranges answer the same, the length of the longest valid beginning. Assumes nothing.
use Rattle.paper.specs.Contract.{SameAnswers}
use Rattle.paper.proofs.Utf8.{longest_once}
use Rattle.utf8.proofs.valid_up_to.Kinds as kinds
use Rattle.utf8.proofs.valid_up_to.Reads as by-table
use Rattle.utf8.proofs.by_ranges.valid_up_to_by_ranges.Reads as by-ranges

pub on_every_name : SameAnswers 1 kinds.ps kinds.r by-table.Post by-ranges.Post
on_every_name κs a x y r₁ r₂ p q = longest_once _ r₁ r₂ p q
