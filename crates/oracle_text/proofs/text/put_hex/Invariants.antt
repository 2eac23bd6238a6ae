-- The text so far is what the bytes passed make it.
use Rattle.std.proofs.Common.{take}
use Rattle.oracle_text.specs.Text.{Stands, text, add_byte, each}
use Rattle.oracle_text.proofs.text.put_hex.Given as goal

abbrev pub invariant-loop-b : goal.invariant-loop-b
invariant-loop-b l = Stands (each add_byte (take l.b-index l.bytes) (text l.initial.end l.initial.out)) l.end l.out
