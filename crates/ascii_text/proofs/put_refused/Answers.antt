-- `ascii_text::put_refused` meets its contract: the line is laid where there is room for any, and its bytes are put as they are.
use lib.Dec.{lit≤}
use Rattle.ascii_text.proofs.Laid.{laid_leaf, put-over, put_front}
use Rattle.ascii_text.proofs.put_refused.Goals as goal

pub slice_bounds-put_bytes-end : goal.slice_bounds-put_bytes-end
slice_bounds-put_bytes-end c = (put-over c.lay_refused-n.ensures (lit≤ tt)).1.1.1

pub returns : goal.returns
returns c =
    let line = c.lay_refused-n in
    let counts = (put-over line.ensures (lit≤ tt)).1.1.1 in
    record { laid = rw counts (laid_leaf (put_front line.ensures (lit≤ tt)) c.put_bytes.ensures); upper_bound = line.ensures.1 }
