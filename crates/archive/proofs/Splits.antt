-- The record of a buffer that was taken apart.
-- Assumes nothing.
use Prim.Native.Nat.{ℕ}
use mathlib.Core.Path.{ap₂, ◌≡◌, ◌∙◌}
use mathlib.Core.List.{List}
use Rattle.std.specs.Prelude.{Result, Ok, Err}
use Rattle.joined_requests.specs.Split.{answered, found_in, Split}
use Rattle.joined_requests.specs.declared.SplitError.{SplitError}
use Rattle.station.specs.Flat.{RecordOf}
use Rattle.archive.specs.Joined.{split_record, SplitInto}
use Rattle.archive.specs.declared.joined.SplitRecord.{SplitRecord}

pub split_flat : {buffer list after : List ℕ} {r : SplitRecord} (a : Result ℕ SplitError) → Split buffer list a after
    → RecordOf (λ n r. r ≡ split_record (answered (Ok n)) (found_in (Ok n))) (λ e r. r ≡ split_record (answered (Err e)) (found_in (Err e))) a r → SplitInto buffer list r after
split_flat (Ok n) right is = (is ∙ ap₂ split_record right.answer right.found, right.contents)
split_flat (Err e) right is = (is ∙ ap₂ split_record right.answer right.found, right.contents)
