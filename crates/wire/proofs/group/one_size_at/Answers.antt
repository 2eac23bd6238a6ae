-- `wire::group::one_size_at` meets its contract: the size stands right after a good width.
use Prim.Native.Nat.{◌+◌}
use borrow.Author.Rules.{rules}
use Rattle.wire.proofs.Halves.{size_low}
use Rattle.wire.proofs.Groups.{one-good}
use Rattle.wire.proofs.group.one_size_at.Goals as goal

pub returns : goal.returns
returns c =
    let a = c.args in
    record {
      paper = one-good _ a.s.now a.at _ (a.at + c.len.result) (search rules) c.in_ok-width.ensures c.gather.ensures;
      place = (size_low _ _ c.gather.type_inv, search rules);
    }
