-- `wire::group::read_be_uint` meets its contract: its answers are the cases of a size of a known width.
use native.Mathlib.Omega.{arith}
use Rattle.wire.proofs.Halves.{size_low}
use Rattle.wire.proofs.Uint.{uint-short, uint_narrow, uint_wide, uint-good}
use borrow.Author.Rules.{rules}
use Rattle.wire.proofs.group.read_be_uint.Goals as goal

pub returns-then-available-width : goal.returns-then-available-width
returns-then-available-width c = let a = c.args in record { paper = uint-short a.s.now a.at _ _ c.available_at-available.ensures (search rules); place = tt }

pub returns-then-width-lt1 : goal.returns-then-width-lt1
returns-then-width-lt1 c = let a = c.args in record { paper = uint_narrow a.s.now a.at _ (omega arith) (search rules); place = tt }

pub returns-then-width-gt16 : goal.returns-then-width-gt16
returns-then-width-gt16 c = let a = c.args in record { paper = uint_wide a.s.now a.at _ (omega arith) (search rules); place = tt }

pub returns : goal.returns
returns c =
    let a = c.args in
    record {
      paper = uint-good a.s.now a.at _ (omega arith) _ c.gather.ensures (omega arith) (search rules);
      place = (size_low _ _ c.gather.type_inv, search rules);
    }
