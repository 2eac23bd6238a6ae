-- `dtc::status::Mask<Status>::matches` meets its contract: two bytes have a bit in common where their intersection is not 0.
use native.Mathlib.Omega.{arith}
use Rattle.dtc.proofs.Bits.{in-common}
use Rattle.dtc.proofs.status.Mask+Status.matches.Goals as goal

pub returns : goal.returns
returns c = let a = c.args in in-common 8 a.self.bits a.status.bits (omega arith) (omega arith)
