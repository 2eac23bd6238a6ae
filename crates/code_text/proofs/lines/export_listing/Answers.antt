-- `export_listing` meets its contract: the reader's refusal, or the lines of the records that were read.
use Rattle.std.proofs.lemmas.Result.{err_from_is_err_and}
use Rattle.wire.proofs.Writes.{malformed, passed}
use Rattle.code_text.proofs.Exported.{read_count, read_exported, refused_exported}
use Rattle.code_text.proofs.lines.export_listing.Goals as goal

pub returns-in_err-records : goal.returns-in_err-records
returns-in_err-records c =
    let p = err_from_is_err_and c.from_residual.result c.from_residual.ensures.1 in
    rw (p.1, p.2) (malformed (refused_exported _ c.args.listing.now c.in_err-records.ensures))

pub put_lines-requires : goal.put_lines-requires
put_lines-requires c = read_count _ c.args.listing.now c.in_ok-records.ensures

pub returns : goal.returns
returns c = passed (read_exported _ c.args.listing.now c.in_ok-records.ensures) c.put_lines.ensures
