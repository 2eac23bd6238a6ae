-- `tally::count_records` meets its contract: up to a place all records are good, and the table is theirs; each turn puts one more record into its cell.
use Rattle.std.proofs.Common.{◌≡◌, take}
use Rattle.paper.specs.Tally.{records, table}
use Rattle.tally.proofs.Turns.{GoodSoFar}
use Rattle.tally.proofs.count_records.Given as goal

abbrev pub invariant-loop-place : goal.invariant-loop-place
invariant-loop-place l = GoodSoFar l.fn.records l.place × (l.table ≡ table (take l.place (records l.fn.records)))
