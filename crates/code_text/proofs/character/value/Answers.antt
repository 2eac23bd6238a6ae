-- `value` meets its contract: where the character stands in the row.
use mathlib.Core.Path.{sym, ap, ◌∙◌}
use Prim.Native.Nat.{ℕ}
use mathlib.Core.List.{List}
use lib.ListN.{length}
use Rattle.code_text.proofs.LineRows.{found_value, hex_alone}
use Rattle.code_text.specs.CodeText.{value_in}
use Rattle.code_text.proofs.character.value.Goals as goal

pub returns-then-row-eq16 : goal.returns-then-row-eq16
returns-then-row-eq16 c = c.hex_value.ensures ∙ ap (λ (row : List ℕ). value_in row c.args.c) (hex_alone c.args.place (sym (ap length c.row-row.ensures) ∙ c.if-row-eq16.true))

pub returns-else-row-eq16 : goal.returns-else-row-eq16
returns-else-row-eq16 c = c.place_of.ensures ∙ rw c.row-row.ensures (found_value _ _)
