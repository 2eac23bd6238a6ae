-- `request_line::line::request_line` meets its contract: the reader's refusal, or what was read, which can always be measured.
use mathlib.Core.Path.{ap}
use Rattle.std.proofs.lemmas.Result.{err_from_is_err_and}
use Rattle.paper.specs.ReadingProgram.{line_for}
use Rattle.paper.proofs.Places.{bytes_of}
use Rattle.request_line.proofs.Lines.{read_line, no_refusal}
use Rattle.request_line.proofs.line.request_line.Goals as goal

pub returns-in_err-q : goal.returns-in_err-q
returns-in_err-q c =
    let (y, same, made) = err_from_is_err_and c.from_residual.result c.from_residual.ensures.1 in
    rw (same, made) (ap line_for c.in_err-q.ensures.paper)

pub returns-in_err-normal : goal.returns-in_err-normal
returns-in_err-normal c =
    let bytes = bytes_of c.args.input.now (λ i. (c.shared_slice_known-1.given i).fits) in
    absurd (no_refusal _ c.in_ok-q.q _ c.in_ok-q.ensures c.part_at.ensures.1 bytes c.in_err-normal.ensures)

pub returns : goal.returns
returns c = read_line _ c.in_ok-q.q c.in_ok-q.tail c.in_ok-q.ensures c.part_at.ensures.1 c.in_ok-normal.ensures c.into.ensures c.after_name.ensures c.format_shown.ensures
