-- `wire::write::put_head` meets its contract: the prefix holds the number, which stands in its one byte or in its two.
use mathlib.Core.Path.{ap}
use native.Mathlib.Omega.{arith}
use Rattle.wire.specs.Prefix.{prefix_most}
use Rattle.wire.proofs.FieldBytes.{one_byte}
use Rattle.wire.proofs.write.put_head.Goals as goal

pub overflow_cast-n : goal.overflow_cast-n
overflow_cast-n c = omega (arith, ap prefix_most c.in-One.is)

pub overflow_cast-n-in-Two : goal.overflow_cast-n-in-Two
overflow_cast-n-in-Two c = omega (arith, ap prefix_most c.in-Two.is)

pub returns-in-One : goal.returns-in-One
returns-in-One c = rw (c.in-One.is, one_byte) c.put_byte.ensures

pub returns-in-Two : goal.returns-in-Two
returns-in-Two c = rw c.in-Two.is c.put_two.ensures
