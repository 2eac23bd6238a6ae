-- `wire::group::two_sizes_at` meets its contract: the sizes stand right after a good width, one after the other.
use Prim.Native.Nat.{◌+◌}
use borrow.Author.Rules.{rules}
use Rattle.wire.proofs.Halves.{size_low}
use Rattle.wire.proofs.Groups.{two_good}
use Rattle.wire.proofs.group.two_sizes_at.Goals as goal

pub returns : goal.returns
returns c =
    let a = c.args in
    record {
      paper = two_good _ a.s.now a.at _ (a.at + c.len.result) (search rules) c.in_ok-width.ensures c.gather.ensures c.gather-2.ensures;
      place = (size_low _ _ c.gather.type_inv, size_low _ _ c.gather-2.type_inv, search rules);
    }
