-- `archive::batches::skr_read_batch` meets its contract: the record of what the batch was answered, and the list as it was left.
use mathlib.Core.Path.{sym, ap, ◌∙◌}
use borrow.Author.Rules.{rules}
use Rattle.paper.specs.Batch.{read_batch}
use Rattle.wire.specs.Writing.{told}
use Rattle.archive.specs.Batches.{batch_record}
use Rattle.archive.proofs.batches.skr_read_batch.Goals as goal

pub returns-in-Ok : goal.returns-in-Ok
unfolding read_batch
returns-in-Ok c = let wrote = c.read_batch.ensures in (c.from.ensures ∙ ap batch_record (sym (ap told c.in-Ok.is) ∙ wrote.answer), wrote.contents)

pub returns-in-Err : goal.returns-in-Err
unfolding read_batch
returns-in-Err c =
    let wrote = c.read_batch.ensures in
    let refused = sym (ap told c.in-Err.is) ∙ wrote.answer in
    (rw (c.into.ensures, ← refused) (search rules), wrote.contents)
