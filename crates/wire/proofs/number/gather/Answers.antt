-- `wire::number::gather` meets its contract: fewer than eight bytes are the low half; else the last eight are, and those before them the high half.
use mathlib.Core.Path.{◌≡◌, ap, ◌∙◌}
use Prim.Native.Nat.{ℕ, ◌+◌, ◌-◌}
use native.Mathlib.Omega.{arith}
use lib.ListN.{take, drop}
use Rattle.paper.specs.Bytes.{of_bytes}
use Rattle.wire.proofs.Runs.{of_run}
use Rattle.wire.proofs.number.gather.Goals as goal

pub returns : goal.returns
returns c =
    let a = c.args in
    let whole : a.width - 8 + 8 ≡ a.width = omega arith in
    rw (c.few-2.ensures, c.few-3.ensures)
    (of_run a.s.now a.at (a.width - 8) 8 (omega arith) ∙ ap (λ (w : ℕ). of_bytes (take w (drop a.at a.s.now))) whole)
