-- `reason_line::sort::sort_named` meets its contract: a word that is neither sort's names none.
use Rattle.std.specs.Cmp.Lexicographic.{other_text}
use Rattle.reason_line.proofs.Words.{no_word}
use Rattle.reason_line.proofs.sort.sort_named.Goals as goal

pub returns : goal.returns
returns c = no_word (other_text _ _ (rw c.as_slice.ensures at c.if-eq.ensures)) (other_text _ _ (rw c.as_slice-2.ensures at c.if-eq-2.ensures))
