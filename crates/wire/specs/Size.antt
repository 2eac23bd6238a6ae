-- The number that two halves hold, and what an order says.
use Rattle.std.specs.Prelude.{ℕ, ◌+◌, ◌*◌, ◌^◌}
use Rattle.std.specs.declared.cmp.Ordering.{Ordering}
use Rattle.std.specs.declared.cmp.Ordering.TheVariants.{Less, Equal, Greater}
use Rattle.paper.specs.Sizes as paper
use Rattle.paper.specs.Sizes.{less, equal, greater}
use Rattle.wire.specs.declared.size.Size.{Size}

abbrev pub value : Size → ℕ
value x = x.high * 2 ^ 64 + x.low

abbrev pub order_of : Ordering → paper.Order
order_of Less = less
order_of Equal = equal
order_of Greater = greater
