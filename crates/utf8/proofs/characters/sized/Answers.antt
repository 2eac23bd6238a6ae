-- `sized` meets its contract: the tests that the code makes are those of the ranges, byte by byte.
use Rattle.std.proofs.Common.{arith}
use Rattle.utf8.proofs.Character.{by_tests, no_room}
use Rattle.utf8.proofs.characters.sized.Goals as goal
use Rattle.utf8.proofs.characters.sized.Goals.{else-in_range-via-then-in_range+else-all_tail, else-in_range-via-else-in_range}

pub returns-in_default-2 : goal.returns-in_default-2
returns-in_default-2 g c = let h = rw c.in_default.is at c.get.ensures.lookup in no_room c.args.second c.args.s.now c.requires (omega (arith, h.0))

pub returns-then-all_tail : goal.returns-then-all_tail
returns-then-all_tail g c =
    let h = c.in-Some-len1-up.ensures.lookup in
    simp (
      by_tests c.args.second c.args.s.now _ c.requires h.0.1 h.0.2,
      ← c.in_range.ensures,
      c.if-in_range.true,
      ← c.all_tail.ensures,
      c.if-all_tail.true,
    )

pub returns-else-in_range : goal.returns-else-in_range
returns-else-in_range g c =
    let h = c.in-Some-len1-up.ensures.lookup in
    let tested = by_tests c.args.second c.args.s.now _ c.requires h.0.1 h.0.2 in
    elim c.else-in_range.branch [
      | else-in_range-via-then-in_range+else-all_tail w ↦ simp (tested, ← c.in_range.ensures, w.if-in_range.true, ← w.all_tail.ensures, w.if-all_tail.false)
      | else-in_range-via-else-in_range w ↦ simp (tested, ← c.in_range.ensures, w.if-in_range.false)
    ]
