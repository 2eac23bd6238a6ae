-- `batch::number_of` meets its contract: what the reader answers is the paper's, and its number fits a byte.
use mathlib.Core.Path.{◌∙◌}
use native.Mathlib.Omega.{arith}
use Rattle.batch.proofs.Numbers.{number_read_lem, number_small}
use Rattle.batch.proofs.number_of.Goals as goal

pub overflow_cast-result : goal.overflow_cast-result
overflow_cast-result c = omega (arith, c.number.ensures, number_small c.in-Err.refusal)

pub returns-in-Ok : goal.returns-in-Ok
returns-in-Ok c = number_read_lem _ c.in-Ok.ensures

pub returns-in-Err : goal.returns-in-Err
returns-in-Err c = c.number.ensures ∙ number_read_lem _ c.in-Err.ensures
