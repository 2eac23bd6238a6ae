-- `archive::replays::skr_replay_step` meets its contract: the record of what the step answers, beside the state that was handed over.
use mathlib.Core.Path.{sym, ap, ◌∙◌}
use Rattle.replay.specs.Replay.{step_said}
use Rattle.archive.specs.Replays.{replay_record}
use Rattle.archive.proofs.Stepped.{once_accepted, once_refused}
use Rattle.archive.proofs.replays.skr_replay_step.Goals as goal

pub returns-in-Ok : goal.returns-in-Ok
returns-in-Ok c =
    let said = sym (ap step_said c.in-Ok.is) ∙ c.step.ensures in
    rw c.handed.ensures at (c.into.ensures ∙ ap replay_record (once_accepted _ _ _ said))

pub returns-in-Err : goal.returns-in-Err
returns-in-Err c =
    let said = sym (ap step_said c.in-Err.is) ∙ c.step.ensures in
    rw c.handed.ensures at (c.into-in-Err.ensures ∙ ap replay_record (once_refused _ _ _ said))
