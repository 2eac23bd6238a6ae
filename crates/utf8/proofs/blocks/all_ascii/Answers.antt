-- `all_ascii` meets its contract: the bits of the bytes passed are below 0x80 where each byte is.
use Rattle.utf8.proofs.Ascii.{bits_turn}
use Rattle.utf8.proofs.blocks.all_ascii.Goals as goal

pub loop-byte-preserved : goal.loop-byte-preserved
loop-byte-preserved c = let o = c.loop-byte in bits_turn c.args.s.now o.byte-index o.bits o.invariant
