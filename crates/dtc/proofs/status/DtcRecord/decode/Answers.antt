-- `dtc::status::DtcRecord::decode` meets its contract: fewer than three bytes are left, or all three are there.
use native.Mathlib.Omega.{arith}
use borrow.Author.Rules.{rules}
use Rattle.dtc.proofs.Records.{record_short, record_there}
use Rattle.dtc.proofs.status.DtcRecord.decode.Goals as goal

pub returns-then-available-needed : goal.returns-then-available-needed
returns-then-available-needed c = let a = c.args in record { paper = record_short a.s.now a.at _ c.available_at-available.ensures (search rules); place = tt }

pub returns : goal.returns
returns c = let a = c.args in record { paper = rw c.new.ensures (record_there a.s.now a.at (omega arith)); place = search rules }
