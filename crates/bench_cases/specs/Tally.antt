-- What a row adds to the tally. The counts wrap at 2^64.
use Rattle.std.specs.Prelude.{◌+◌, ◌%◌, ◌^◌, Bool}
use Rattle.paper.specs.Choice.{pick}
use Rattle.bench_cases.specs.declared.tally.Tally.{Tally}

abbrev pub nothing_yet : Tally
nothing_yet = record { rows = 0; differ = 0 }

-- one row more; and one more that differs, unless it is right
abbrev pub counted : Tally → Bool → Tally
counted t right = record { rows = (t.rows + 1) % 2 ^ 64; differ = pick right t.differ ((t.differ + 1) % 2 ^ 64) }
