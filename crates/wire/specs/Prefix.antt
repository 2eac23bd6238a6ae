-- How many bytes a count or a width has, and the largest number that they hold.
use Rattle.std.specs.Prelude.{ℕ}
use Rattle.wire.specs.declared.prefix.Prefix.{Prefix}
use Rattle.wire.specs.declared.prefix.Prefix.TheVariants.{One, Two}

abbrev pub prefix_len : Prefix → ℕ
prefix_len One = 1
prefix_len Two = 2

abbrev pub prefix_most : Prefix → ℕ
prefix_most One = 255
prefix_most Two = 65535
