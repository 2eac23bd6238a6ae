-- `chart_text::legend::words_of` meets its contract: each number has its words, and no other has any.
use native.Mathlib.Omega.{arith}
use Rattle.chart_text.proofs.Drawn.{other_words}
use Rattle.chart_text.proofs.legend.words_of.Goals as goal

pub returns-in_default-clause-value : goal.returns-in_default-clause-value
returns-in_default-clause-value c = other_words c.args.number (omega arith) (omega arith) (omega arith) (omega arith) (omega arith) (omega arith) (omega arith) (omega arith) (omega arith)
