-- `ascii_blocks` meets its contract: what is passed is ASCII, and each block adds to it, the last up to the end.
use Rattle.std.proofs.Common.{◌≡◌, drop}
use Rattle.std.specs.Slice.Iter.{chunks_exact_rest, chunks_exact_size}
use Rattle.utf8.specs.Ascii.{AsciiStart}
use Rattle.utf8.proofs.blocks.ascii_blocks.Given as goal

abbrev pub invariant-loop-block : goal.invariant-loop-block
invariant-loop-block l = record {
  passed : AsciiStart l.s l.at;
  rest : drop l.at l.s ≡ chunks_exact_rest l.block-iterator;
  size : chunks_exact_size l.block-iterator ≡ l.size;
}
