-- A number of up to three bytes has a code, so the refusal cannot come.
use Rattle.std.proofs.Common.{rules, arith}
use Rattle.dtc.proofs.Rounds.{from-number}
use Rattle.oracle_codes.proofs.number.Sums.count.Goals as goal

pub returns-in_default : goal.returns-in_default
returns-in_default c = let made = from-number c.args.n c.from_u32.result c.from_u32.ensures (omega arith) in search rules
