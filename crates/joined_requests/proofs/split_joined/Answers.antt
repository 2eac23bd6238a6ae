-- `joined_requests::split_joined` meets its contract: the first pass is refused, the list is too short, or the second pass fills it.
use Rattle.std.proofs.lemmas.Result.{err_from_is_err_and}
use Rattle.joined_requests.proofs.Splits.{split-refused, split-short, split-fits, split-filled}
use Rattle.joined_requests.proofs.split_joined.Goals as goal

pub returns-in_err-count : goal.returns-in_err-count
returns-in_err-count c =
    let e = err_from_is_err_and c.from_residual.result c.from_residual.ensures.1 in
    rw (e.1, e.2) (split-refused c.args.buffer.now c.args.lengths.now _ c.in_err-count.ensures)

pub returns-then-room-count : goal.returns-then-room-count
returns-then-room-count c = split-short c.args.buffer.now c.args.lengths.now _ c.in_ok-count.ensures c.if-room-count.true

pub fill-requires : goal.fill-requires
fill-requires c = record { fits = split-fits c.args.buffer.now c.args.lengths.now _ c.in_ok-count.ensures c.if-room-count.false; all = c.in_ok-count.ensures.found }

pub returns : goal.returns
returns c = split-filled c.args.buffer.now c.args.lengths.now _ c.in_ok-count.ensures c.if-room-count.false c.fill.ensures
