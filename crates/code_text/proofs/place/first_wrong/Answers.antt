-- `first_wrong` meets its contract: every character before place i can stand where it is.
use borrow.Author.Rules.{rules}
use mathlib.Core.Path.{◌≡◌, sym, ap, ◌∙◌}
use lib.ListN.{length}
use native.Mathlib.Omega.{arith}
use Rattle.std.specs.Option.{is_some}
use Rattle.paper.proofs.TextPlaces.{bad_end, none-bad}
use Rattle.code_text.specs.CodeText.{sort_of}
use Rattle.code_text.proofs.Turns.{stops, goes_on_lem}
use Rattle.code_text.proofs.place.first_wrong.Goals as goal

pub returns-then-is_none : goal.returns-then-is_none
returns-then-is_none c = stops (sort_of c.args.sort) c.args.text.now c.loop-i.i c.loop-i.invariant c.place_in_line.ensures (sym (ap is_some c.value.ensures) ∙ c.is_none.ensures) c.if-is_none.true (search rules)

pub loop-i-preserved : goal.loop-i-preserved
loop-i-preserved c = goes_on_lem (sort_of c.args.sort) c.args.text.now c.loop-i.i c.loop-i.invariant c.place_in_line.ensures (sym (ap is_some c.value.ensures) ∙ c.is_none.ensures) c.if-is_none.false

pub returns-then-can_end : goal.returns-then-can_end
returns-then-can_end c =
    let all : c.loop-i.i ≡ length c.args.text.now = omega arith in
    none-bad (sort_of c.args.sort) c.args.text.now c.loop-i.i c.loop-i.invariant (omega arith) (rw all (sym c.can_end.ensures ∙ c.if-can_end.true))

pub returns-else-can_end : goal.returns-else-can_end
returns-else-can_end c =
    let all : c.loop-i.i ≡ length c.args.text.now = omega arith in
    rw all at (bad_end (sort_of c.args.sort) c.args.text.now c.loop-i.i c.loop-i.invariant (omega arith) (rw all (sym c.can_end.ensures ∙ c.if-can_end.false)))
