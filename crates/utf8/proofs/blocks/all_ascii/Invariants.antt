-- `all_ascii` meets its contract: the bits of the bytes passed are below 0x80 where each byte is.
use Rattle.std.proofs.Common.{◌<◌, ◌↔◌}
use Rattle.utf8.specs.Ascii.{AsciiTo}
use Rattle.utf8.proofs.blocks.all_ascii.Given as goal

abbrev pub invariant-loop-byte : goal.invariant-loop-byte
invariant-loop-byte l = (l.bits < 0x80) ↔ AsciiTo l.s l.byte-index
