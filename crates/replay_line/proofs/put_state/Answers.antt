-- `replay_line::put_state` meets its contract: each field in the room that begins where the previous one ended.
use lib.Dec.{lit≤}
use Rattle.ascii_text.proofs.Laid.{put-laid, put_leaf, put-more, put_as}
use Rattle.replay.specs.Replay.{state_of}
use Rattle.replay_line.proofs.Laid.{state-is}
use Rattle.replay_line.proofs.put_state.Goals as goal

pub returns : goal.returns
returns c =
    put_as (put-more (put-more (put-more c.put_transfer-a.ensures (put-laid c.put_field.ensures.laid c.put_field.ensures.upper_bound)) (put-laid c.put_field-2.ensures.laid c.put_field-2.ensures.upper_bound)) (put_leaf c.put_byte.ensures))
    (state-is (state_of c.args.state)) (lit≤ tt)
