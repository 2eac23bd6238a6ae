-- The word of an open transfer, and the last counter after it.
use Rattle.std.proofs.Common.{refl, lit≤}
use Rattle.ascii_text.proofs.Laid.{put_leaf, put-more, put_as}
use Rattle.replay_line.proofs.put_transfer.Goals as goal

pub returns-in-Open : goal.returns-in-Open
returns-in-Open c =
    rw c.in-Open.is (put_as (put-more (put_leaf c.put_bytes-in-Open.ensures) c.put_last.ensures) refl (lit≤ tt))
