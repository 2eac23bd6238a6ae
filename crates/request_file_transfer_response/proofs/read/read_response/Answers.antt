-- `request_file_transfer_response::read::read_response` meets its contract: its answers are the cases of a response, by its mode and what stands after it.
use mathlib.Core.Path.{ap₂, ◌∙◌}
use Rattle.request_file_transfer_response.specs.Reading.{block_start}
use Rattle.wire.proofs.Left.{leaves}
use Rattle.request_file_transfer_response.proofs.Cases.{no_mode_lem, no_kind, by_kind}
use Rattle.request_file_transfer_response.proofs.read.read_response.Goals as goal

pub returns-in_err-mode : goal.returns-in_err-mode
returns-in_err-mode c = leaves _ _ c.from_residual.ensures.1 (no_mode_lem _ c.in_err-mode.ensures.paper)

pub returns-in_err-kind : goal.returns-in_err-kind
returns-in_err-kind c = leaves _ _ c.from_residual-in_err-kind.ensures.1 (no_kind _ c.in_ok-mode.ensures.paper c.in_err-kind.ensures)

pub returns-in_err-body : goal.returns-in_err-body
returns-in_err-body c =
    leaves _ _ c.from_residual-in_err-body.ensures.1
    (by_kind _ c.in_ok-mode.ensures.paper c.in_ok-kind.ensures c.after_mode.ensures (c.in_err-body.ensures _).paper)

pub returns : goal.returns
returns c =
    let r = c.in_ok-body.ensures _ in
    let p = r.place in
    record {
      paper = by_kind _ c.in_ok-mode.ensures.paper c.in_ok-kind.ensures c.after_mode.ensures r.paper;
      place = record { begins = p.begins ∙ ap₂ block_start c.after_mode.ensures c.in_ok-mode.ensures.place.0; ends = p.ends; halves = p.halves; within = p.within };
    }
