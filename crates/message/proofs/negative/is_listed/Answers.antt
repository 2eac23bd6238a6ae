-- `message::negative::is_listed` meets its contract: each service has its own list.
use mathlib.Core.Path.{◌∙◌}
use borrow.Author.Rules.{rules}
use Rattle.message.proofs.Codes.{any-stands}
use Rattle.message.proofs.negative.is_listed.Goals as goal
use Rattle.message.proofs.negative.is_listed.Goals.{in-FileTransfer, in-RoutineControl}

pub returns : goal.returns
returns c =
    let e = c.contains.ensures.value ∙ any-stands c.args.code c.match-service.codes in
    elim c.match-service.branch [ in-FileTransfer w ↦ search rules | in-RoutineControl w ↦ search rules ]
