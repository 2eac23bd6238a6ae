-- The refusal's line, and then the state.
use Rattle.std.proofs.Common.{refl, lit≤}
use Rattle.ascii_text.proofs.Laid.{put-laid, put-more, put_as}
use Rattle.replay_line.proofs.put_answer.Goals as goal

pub returns-in-Err : goal.returns-in-Err
returns-in-Err c =
    rw c.in-Err.is (put_as (put-more (put-laid c.put_refused-a.ensures.laid c.put_refused-a.ensures.upper_bound) c.put_state-in-Err.ensures) refl (lit≤ tt))
