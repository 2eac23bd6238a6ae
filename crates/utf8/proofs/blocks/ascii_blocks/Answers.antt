-- `ascii_blocks` meets its contract: what is passed is ASCII, and each block adds to it, the last up to the end.
use Rattle.std.proofs.Common.{◌∙◌}
use Rattle.utf8.proofs.Valid.{rest_after}
use Rattle.utf8.proofs.Ascii.{more-ascii}
use Rattle.utf8.proofs.blocks.ascii_blocks.Goals as goal

pub loop-block-preserved : goal.loop-block-preserved
loop-block-preserved c =
    let h = c.loop-block.invariant in
    let (size, (cut, long), _) = c.in-Some.ensures.steps in
    let rest = h.rest ∙ cut in
    record {
      passed = more-ascii c.args.size _ _ h.passed rest (long ∙ h.size) (c.all_ascii.ensures.0 c.if-not-all_ascii.false);
      rest = rest_after c.args.s.now c.loop-block.at c.args.size _ _ rest (long ∙ h.size);
      size = size ∙ h.size;
    }
