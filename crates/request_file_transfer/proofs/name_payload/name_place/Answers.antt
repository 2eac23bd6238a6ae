-- `request_file_transfer::name_payload::name_place` meets its contract: the reader's refusal is the answer; else the place of the name that was read is settled by its bytes, since its start is known.
use mathlib.Core.Path.{sym, ap, ◌∙◌}
use native.Mathlib.Omega.{arith}
use Rattle.std.proofs.lemmas.Result.{err_from_is_err_and}
use Rattle.paper.specs.Answer.{accepted}
use Rattle.wire.proofs.Unique.{place_back}
use Rattle.request_file_transfer.specs.Name.{place_in}
use Rattle.request_file_transfer.proofs.name_payload.name_place.Goals as goal

pub returns-in_err-q : goal.returns-in_err-q
returns-in_err-q c =
    let (y, same, made) = err_from_is_err_and c.from_residual.result c.from_residual.ensures.1 in
    rw (same, made) (ap place_in c.in_err-q.ensures.paper)

pub returns : goal.returns
returns c =
    let h = c.in_ok-q.ensures.place in
    ap accepted (sym (place_back _ _ h.begins (omega (arith, h.begins, h.ends)))) ∙ ap place_in c.in_ok-q.ensures.paper
