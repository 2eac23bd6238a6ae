-- The text so far is what the numbers passed make it.
use Rattle.std.proofs.Common.{take}
use Rattle.oracle_text.specs.Text.{Stands, text, add_number, each}
use Rattle.oracle_text.proofs.text.put_numbers.Given as goal

abbrev pub invariant-loop-n : goal.invariant-loop-n
invariant-loop-n l = Stands (each add_number (take l.n-index l.numbers) (text l.initial.end l.initial.out)) l.end l.out
