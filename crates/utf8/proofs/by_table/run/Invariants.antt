-- `run` meets its contract: what is passed is valid, and each character adds to it.
use Rattle.std.proofs.Common.{◌≡◌, drop}
use Rattle.std.specs.Slice.Iter.{chunks_exact_rest, chunks_exact_size}
use Rattle.utf8.specs.Valid.{Valid}
use Rattle.utf8.proofs.by_table.run.Given as goal

abbrev pub invariant-loop-character : goal.invariant-loop-character
invariant-loop-character g l = record {
  passed : Valid l.s l.at;
  rest : drop l.at l.s ≡ chunks_exact_rest l.character-iterator;
  size : chunks_exact_size l.character-iterator ≡ g.row.N;
}
