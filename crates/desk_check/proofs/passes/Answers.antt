-- `desk_check::passes` meets its contract: of a kind with sizes under format byte 0x00, whether these are equal.
use mathlib.Core.Path.{sym, ap, ◌∙◌}
use borrow.Author.Rules.{rules}
use borrow.Author.Tests.{eq-eqb}
use Rattle.request_file_transfer.specs.Layout.{layout_of}
use Rattle.desk_check.proofs.Judged.{by_halves}
use Rattle.desk_check.proofs.passes.Goals as goal

pub returns-else-from-ne0 : goal.returns-else-from-ne0
returns-else-from-ne0 c s =
    let u = c.args.q.size.file_size_uncompressed in
    let z = c.args.q.size.file_size_compressed in
    rw (sym c.after_name.ensures ∙ ap layout_of c.in-FormatAndSizes.is, ← c.from.ensures, eq-eqb _ 0 c.if-from-ne0.false, ← by_halves z.high z.low u.high u.low (search rules) (search rules))
    c.eq.ensures
