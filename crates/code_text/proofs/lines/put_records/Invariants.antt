-- `put_records` meets its contract: the records of the first k lines stand at the start of the room, and the next is put behind them.
use Rattle.wire.specs.Writing.{Filled}
use Rattle.code_text.proofs.Imported.{records_to}
use Rattle.code_text.proofs.lines.put_records.Given as goal

abbrev pub invariant-loop-k : goal.invariant-loop-k
invariant-loop-k l = Filled (records_to l.text l.k) l.initial.out l.out
