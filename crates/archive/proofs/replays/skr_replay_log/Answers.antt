-- `archive::replays::skr_replay_log` meets its contract: the record of what the run answers is that of the paper's.
use Rattle.replay.specs.Replay.{ended_said}
use Rattle.station.proofs.Flats.{flat_said}
use Rattle.archive.specs.Replays.{replay_record}
use Rattle.archive.proofs.replays.skr_replay_log.Goals as goal

pub returns : goal.returns
returns c = flat_said replay_record ended_said c.run.result c.run.ensures c.flat.ensures
