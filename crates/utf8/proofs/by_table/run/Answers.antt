-- `run` meets its contract: what is passed is valid, and each character adds to it.
use Rattle.std.proofs.Common.{◌∙◌, arith, rules}
use Rattle.utf8.proofs.Valid.{empty, rest_after, part_within}
use Rattle.utf8.proofs.LeadBytes.{same_class, one_more_lem, run_stops, run_is_cut}
use Rattle.utf8.proofs.by_table.run.Goals as goal

pub loop-character-init : goal.loop-character-init
loop-character-init g c = record { passed = empty _; rest = search rules; size = search rules }

pub returns-then-ne : goal.returns-then-ne
returns-then-ne g c =
    let q = c.requires in
    let h = c.loop-character.invariant in
    let (_, (cut, long), _) = c.in-Some.ensures.steps in
    run_stops _ _ q.begins h.passed (h.rest ∙ cut) q.some (long ∙ h.size) q.size (λ e. grind (arith, same_class))

pub overflow_add-at : goal.overflow_add-at
overflow_add-at g c =
    let h = c.loop-character.invariant in
    let (_, (cut, long), _) = c.in-Some.ensures.steps in
    omega (arith, part_within c.args.s.now c.loop-character.at g.row.N _ _ h.passed.within (h.rest ∙ cut) (long ∙ h.size))

pub loop-character-preserved : goal.loop-character-preserved
loop-character-preserved g c =
    let q = c.requires in
    let h = c.loop-character.invariant in
    let (size, (cut, long), _) = c.in-Some.ensures.steps in
    record {
      passed = one_more_lem _ _ h.passed (h.rest ∙ cut) q.some (long ∙ h.size) q.size (grind (arith, same_class)) (grind (arith, same_class));
      rest = rest_after c.args.s.now c.loop-character.at g.row.N _ _ (h.rest ∙ cut) (long ∙ h.size);
      size = size ∙ h.size;
    }

pub returns : goal.returns
returns g c =
    let h = c.loop-character.invariant in
    let (_, (short, _), _) = c.in-None.ensures.steps in
    run_is_cut c.requires.begins h.passed h.rest (omega (arith, short, h.size)) c.requires.size
