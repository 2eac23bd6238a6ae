-- The text so far is what the zeros passed make it.
use Rattle.std.proofs.Common.{take, replicate}
use Rattle.oracle_text.specs.Text.{Stands, text, add_number, each}
use Rattle.oracle_text.proofs.answer.put_refused.Given as goal

abbrev pub invariant-loop-zero : goal.invariant-loop-zero
invariant-loop-zero l = Stands (each add_number (take l._zero (replicate l.zeros 0)) (text l.initial.end l.initial.out)) l.end l.out
