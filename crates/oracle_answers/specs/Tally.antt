-- What a line adds to the tally. The counts wrap at 2^64.
use Rattle.std.specs.Prelude.{◌≡◌, ℕ, ◌+◌, ◌%◌, ◌^◌, List, ◌≢◌}
use Rattle.oracle_answers.specs.declared.count.Tally.{Tally}

abbrev pub one_more : ℕ → ℕ
one_more n = (n + 1) % 2 ^ 64

abbrev pub nothing_yet : Tally
nothing_yet = record { lines = 0; answers = 0; differ = 0 }

-- a line that has no answer
abbrev pub passed_over : Tally → Tally
passed_over t = record { lines = one_more t.lines; answers = t.answers; differ = t.differ }

-- a line that has one is counted among those that differ, unless the line with our answer is the same
pub record Judged (line ours : List ℕ) (t r : Tally) : Type 0 where
  pub right : ours ≡ line → r ≡ record { lines = one_more t.lines; answers = one_more t.answers; differ = t.differ }
  pub wrong : (ours ≢ line) → r ≡ record { lines = one_more t.lines; answers = one_more t.answers; differ = one_more t.differ }
