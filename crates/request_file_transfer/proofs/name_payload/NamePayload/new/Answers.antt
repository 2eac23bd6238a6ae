-- `request_file_transfer::name_payload::NamePayload::new` meets its contract: where the checks tell a length they hand on the whole name, and where they refuse nothing.
use mathlib.Core.Path.{◌∙◌}
use Rattle.paper.specs.Request.{good_name}
use Rattle.paper.proofs.Request.{good-name}
use Rattle.file_operation.proofs.Lengths.{kept-after}
use Rattle.request_file_transfer.proofs.name_payload.NamePayload.new.Goals as goal

pub returns : goal.returns
returns c =
    let name = c.args.file_path_and_name.now in
    let (front, kept) = c.kept_after.ensures in
    (front, kept ∙ kept-after (good_name name) name c.good_name.result (λ y e. ((good-name name y).0 e).0) c.good_name.ensures)
