-- What a writer promises, and the bytes of the fields that messages share.
use Rattle.std.specs.Prelude.{ℕ, ◌≤◌, ◌≡◌, List, length, leb, Result, Ok, Err}
use Rattle.paper.specs.Answer.{Answer, accepted, refused, wrong_format, check, over, written}
use Rattle.paper.specs.Sizes.{width}
use Rattle.paper.specs.Field.{with_count, sizes_at}
use Rattle.wire.specs.Refusals.{row}
use Rattle.wire.specs.declared.refusal.Refusal.{Refusal}

-- what an answer says on paper
abbrev pub told : Result ℕ Refusal → Answer ℕ
told (Ok n) = accepted n
told (Err e) = refused (row e)

-- a writer's promise: the answer and the contents of the whole buffer are the paper's
pub record Wrote (message : Answer (List ℕ)) (old : List ℕ) (r : Result ℕ Refusal) (new : List ℕ) : Type 0 where
  pub answer : told r ≡ (written message old).answer
  pub contents : new ≡ (written message old).contents

-- what a caller that has checked the room needs of a writer, whatever it answered: `new` is `old` with the bytes over its front
pub record Filled (bytes old new : List ℕ) : Type 0 where
  pub given_room : length bytes ≤ length old → new ≡ over bytes old

-- ---- the bytes of a field
-- bytes after their count in k bytes, which holds at most `most`
unfoldable pub counted_run : ℕ → ℕ → List ℕ → Answer (List ℕ)
counted_run k most x = check (leb (length x) most) (wrong_format 0) (accepted (with_count k x))

-- sizes at their smallest width, after the width in k bytes
unfoldable pub sizes_out : ℕ → List ℕ → List ℕ
sizes_out k xs = sizes_at k (width xs) xs
