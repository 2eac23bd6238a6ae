-- `digit` meets its contract: the number of a character that stands there, of which there are few.
use native.Mathlib.Omega.{arith}
use mathlib.Core.Path.{sym, ap, ◌∙◌}
use mathlib.Core.List.{[]}
use Prim.Native.Nat.{ℕ}
use lib.ListN.{get_or}
use lib.Seq.{get_or-drop}
use Rattle.paper.specs.CodeText.{line_places, place_in}
use Rattle.code_text.proofs.LineRows.{number_there, row_few, row_fewer}
use Rattle.code_text.proofs.code.digit.Goals as goal

pub overflow_cast-result : goal.overflow_cast-result
overflow_cast-result c =
    let there = c.requires.stand c.args.j (omega arith) in
    omega (arith, number_there _ _ c.value.ensures c.unwrap_or.ensures there, there, row_few c.args.j)

pub returns-clause-value : goal.returns-clause-value
returns-clause-value c =
    number_there _ _ c.value.ensures c.unwrap_or.ensures (c.requires.stand c.args.j (omega arith))
    ∙ ap (λ (x : ℕ). place_in (get_or line_places c.args.j []) x) (sym (get_or-drop c.args.at c.args.text.now c.args.j 0))

pub returns-clause-few : goal.returns-clause-few
returns-clause-few c =
    let there = c.requires.stand c.args.j (omega arith) in
    omega (arith, number_there _ _ c.value.ensures c.unwrap_or.ensures there, there, row_few c.args.j)

pub returns-clause-fewer : goal.returns-clause-fewer
returns-clause-fewer c = λ h.
    let there = c.requires.stand c.args.j (omega arith) in
    omega (arith, number_there _ _ c.value.ensures c.unwrap_or.ensures there, there, row_fewer c.args.j h)
