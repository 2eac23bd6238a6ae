-- `request_file_transfer::read::read_request` meets its contract: mode, name and what stands after the name, one after the other, and the first refusal is the answer.
use native.Mathlib.Omega.{arith}
use Rattle.paper.specs.Field.{byte}
use Rattle.paper.specs.Request.{read_request}
use Rattle.paper.proofs.Places.{off}
use Rattle.wire.specs.Place.{bytes_at}
use Rattle.wire.proofs.Left.{leaves}
use Rattle.file_operation.specs.Mode.{kind_of}
use Rattle.request_file_transfer.proofs.Requests.{no_name, no_kind, onwards}
use Rattle.request_file_transfer.proofs.read.read_request.Goals as goal

pub returns-in_err-mode : goal.returns-in_err-mode
unfolding read_request
returns-in_err-mode c = leaves _ _ c.from_residual.ensures.1 (off byte _ _ c.in_err-mode.ensures.paper)

pub returns-in_err-file_path_and_name : goal.returns-in_err-file_path_and_name
returns-in_err-file_path_and_name c =
    leaves _ _ c.from_residual-in_err-file_path_and_name.ensures.1 (no_name _ c.in_ok-mode.ensures.paper c.in_err-file_path_and_name.ensures.paper)

pub returns-in_err-kind : goal.returns-in_err-kind
returns-in_err-kind c =
    leaves _ _ c.from_residual-in_err-kind.ensures.1 (no_kind _ c.in_ok-mode.ensures.paper c.in_ok-file_path_and_name.ensures.paper c.in_err-kind.ensures)

pub returns-in_err-rest : goal.returns-in_err-rest
returns-in_err-rest c =
    leaves _ _ c.from_residual-in_err-rest.ensures.1
    (onwards _ c.in_ok-mode.ensures.paper c.in_ok-file_path_and_name.ensures.paper c.in_ok-kind.ensures c.after_name.ensures (c.in_err-rest.ensures _ _).paper)

pub returns : goal.returns
returns c =
    let mode = c.in_ok-mode.ensures in
    let name = c.in_ok-file_path_and_name.ensures in
    let rest = c.in_ok-rest.ensures (kind_of c.in_ok-kind.kind) (bytes_at c.args.s.now c.in_ok-file_path_and_name.file_path_and_name) in
    let first = mode.place in
    let named = name.place in
    record {
      paper = onwards _ mode.paper name.paper c.in_ok-kind.ensures c.after_name.ensures rest.paper;
      place = record { begins = omega arith; ends = omega arith; halves = rest.place.0; within = rest.place.1 };
    }
