-- `request_file_transfer_response::read::body_at` meets its contract: nothing, so that all is 0 or empty, or block length, format byte and more, one after the other; a field's refusal is the answer's.
use mathlib.Core.Path.{refl}
use mathlib.Core.List.{[]}
use native.Mathlib.Omega.{arith}
use Rattle.paper.specs.Field.{block_length, byte}
use Rattle.paper.proofs.Places.{on, off}
use Rattle.wire.proofs.Left.{leaves}
use Rattle.request_file_transfer_response.proofs.Cases.{no_sizes}
use Rattle.request_file_transfer_response.proofs.read.body_at.Goals as goal

pub returns-in_default : goal.returns-in_default
returns-in_default c =
    rw c.in_default.is
    (λ k. record {
      paper = rw c.from.ensures (no_sizes k _ 0 c.without_sizes.result c.without_sizes.ensures);
      place = record { begins = refl; ends = omega arith; halves = (omega arith, omega arith); within = omega arith };
    })

pub returns-in_err-block : goal.returns-in_err-block
returns-in_err-block c = rw c.in-Some.is (λ k. leaves _ _ c.from_residual.ensures.1 (off block_length _ _ c.in_err-block.ensures.paper))

pub returns-in_err-format : goal.returns-in_err-format
returns-in_err-format c =
    rw c.in-Some.is
    (λ k. leaves _ _ c.from_residual-in_err-format.ensures.1 (on block_length _ _ c.in_ok-block.ensures.paper (off byte _ _ c.in_err-format.ensures.paper)))

pub returns-in_err-more : goal.returns-in_err-more
returns-in_err-more c =
    rw c.in-Some.is
    (λ k. leaves _ _ c.from_residual-in_err-more.ensures.1
    (on block_length _ _ c.in_ok-block.ensures.paper (on byte _ _ c.in_ok-format.ensures.paper (c.in_err-more.ensures k _ _).paper)))

pub returns : goal.returns
returns c =
    let (begins, ends, within) = c.in_ok-block.ensures.place in
    rw c.in-Some.is
    (λ k. record {
      paper = rw c.from-2.ensures (on block_length _ _ c.in_ok-block.ensures.paper (on byte _ _ c.in_ok-format.ensures.paper (c.in_ok-more.ensures k _ _).paper));
      place = let p = (c.in_ok-more.ensures k [] 0).place in record { begins = begins; ends = omega arith; halves = p.0; within = p.1 };
    })
