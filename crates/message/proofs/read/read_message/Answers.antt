-- `message::read::read_message` meets its contract: the service byte must be there and be known, and then the sort's reader has the word.
use mathlib.Core.Path.{sym, ap}
use Prim.Native.Nat.{ℕ}
use native.Mathlib.Omega.{arith}
use lib.ListN.{drop}
use Rattle.std.proofs.lemmas.Result.{err_from_is_err_and}
use Rattle.message.proofs.Behind.{no_service, no_sort, of_sort}
use Rattle.message.proofs.read.read_message.Goals as goal

pub returns-in_err-service : goal.returns-in_err-service
returns-in_err-service c =
    let e = err_from_is_err_and c.from_residual.result c.from_residual.ensures.1 in
    rw (e.1, e.2) (no_service c.in_err-service.ensures.paper)

pub returns-in_err-try_from : goal.returns-in_err-try_from
returns-in_err-try_from c =
    let e = err_from_is_err_and c.from_residual-in_err-try_from.result c.from_residual-in_err-try_from.ensures.1 in
    rw (e.1, e.2) (no_sort c.in_ok-service.ensures.paper c.in_err-try_from.ensures)

pub after_service-requires : goal.after_service-requires
after_service-requires c = omega (arith, c.in_ok-service.ensures.place.0, c.in_ok-service.ensures.place.1)

pub returns : goal.returns
returns c =
    let s = c.args.s.now in
    let first = c.in_ok-service.ensures in
    of_sort first.paper c.in_ok-try_from.ensures (ap (λ (n : ℕ). drop n s) (sym first.place.0)) c.after_service.ensures
