-- `request_file_transfer::write::needed` meets its contract: the checks of the name, then the length of a request with a name of so many bytes.
use mathlib.Core.Path.{refl}
use borrow.Author.Rules.{rules}
use Rattle.std.proofs.lemmas.Result.{err_from_is_err_and}
use Rattle.paper.specs.Request.{good_name}
use Rattle.paper.proofs.Request.{good-name}
use Rattle.file_operation.proofs.Lengths.{refused_then}
use Rattle.request_file_transfer.proofs.Laid.{named, length_is}
use Rattle.request_file_transfer.proofs.write.needed.Goals as goal

pub returns-in_err-name_len : goal.returns-in_err-name_len
returns-in_err-name_len c =
    let a = c.args in
    let name = a.file_path_and_name.now in
    let (y, same, made) = err_from_is_err_and c.from_residual.result c.from_residual.ensures.1 in
    rw (same, made, length_is a.kind name a.size 0) (refused_then (good_name name) _ c.in_err-name_len.ensures)

pub request_len-requires : goal.request_len-requires
request_len-requires c = let n = named c.args.file_path_and_name.now c.in_ok-name_len.ensures in search rules

pub returns : goal.returns
returns c =
    let a = c.args in
    let name = a.file_path_and_name.now in
    let (is, long) = named name c.in_ok-name_len.ensures in
    rw (length_is a.kind name a.size 0, (good-name name name).1 (refl, is), c.request_len.ensures, long)
