-- `form::put` meets its contract. The invariant: the bytes that are still to come, after the text so far, make the text that is promised.
use Rattle.std.proofs.Common.{◌≡◌, ◌+◌, ◌≤◌, drop}
use Rattle.form.specs.Text.{text, grown}
use Rattle.form.proofs.put.Given as goal

abbrev pub invariant-loop-byte : goal.invariant-loop-byte
invariant-loop-byte l = (l.end ≤ l.at + l.byte-index) × (grown (drop l.byte-index l.bytes) (text l.end l.out) ≡ grown l.bytes (text l.at l.initial.out))
