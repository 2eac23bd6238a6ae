-- `wire::place::counted_at` meets its contract: its answers are the cases of a count, which has as many bytes as the prefix says.
use native.Mathlib.Omega.{arith}
use Rattle.paper.proofs.Places.{counted-short, counted-cut, counted_there}
use Rattle.wire.proofs.Prefixes.{prefix_some}
use Rattle.wire.proofs.place.counted_at.Goals as goal

pub returns-then-available-before : goal.returns-then-available-before
returns-then-available-before c =
    let a = c.args in
    record { paper = rw c.len-before.ensures.0 (counted-short a.s.now a.at _ _ c.available_at-available.ensures (omega arith)); place = tt }

pub head-len-requires : goal.head-len-requires
head-len-requires c = omega (arith, prefix_some c.args.prefix)

pub returns-then-available-needed : goal.returns-then-available-needed
returns-then-available-needed c =
    let a = c.args in
    record {
      paper =
          rw c.len-before.ensures.0
          (counted-cut a.s.now a.at _ _ c.head-len.ensures.0 _ c.available_at-available.ensures (omega arith) (omega arith));
      place = tt;
    }

pub returns : goal.returns
returns c =
    let a = c.args in
    record {
      paper = rw c.len-before.ensures.0 (counted_there a.s.now a.at _ _ c.head-len.ensures.0 (omega arith));
      place = (omega arith, omega arith, omega (arith, prefix_some a.prefix));
    }
