-- `Searchable::find` meets its contract: so many records are left with the high byte, and what is found from place k on is what is found.
use borrow.Author.Rules.{rules}
use mathlib.Core.Path.{sym, ◌∙◌}
use native.Mathlib.Omega.{arith}
use Prim.Native.Nat.{◌<◌}
use Rattle.dtc.specs.Status.{code_of}
use Rattle.paper.proofs.ListingIndex.{search_ends}
use Rattle.listing.specs.Listing.{sub_of}
use Rattle.listing.proofs.Turns.{started, code_same, found_here, used_up, passed_over, here_is}
use Rattle.listing.proofs.searchable.Searchable.find.Goals as goal
use Rattle.listing.proofs.searchable.Searchable.find.Goals.{then-high_byte+else-left-eq0-2, else-high_byte}

pub returns-then-left-eq0 : goal.returns-then-left-eq0
returns-then-left-eq0 c =
    let x = c.args.self.now in
    let r = x.records in
    let small : c.from-high.result < 256 = search rules in
    sym (search_ends _ _ _ _ (started (sub_of r.sub) r.message.now r.count (code_of c.args.code) x.own small (c.from-high.ensures ∙ c.high_byte.ensures)) c.if-left-eq0.true)

pub loop-k-init : goal.loop-k-init
loop-k-init c =
    let x = c.args.self.now in
    let r = x.records in
    let small : c.from-high.result < 256 = search rules in
    (started (sub_of r.sub) r.message.now r.count (code_of c.args.code) x.own small (c.from-high.ensures ∙ c.high_byte.ensures), omega arith)

pub returns-then-eq : goal.returns-then-eq
returns-then-eq c =
    let r = c.args.self.now.records in
    found_here _ r.message.now r.count _ c.loop-k.k c.loop-k.left c.loop-k.invariant.0 c.loop-k.invariant.1 _ c.at-listed.ensures (code_same (code_of c.at-listed.result.code) (code_of c.args.code) c.if-eq.ensures)

pub at-listed-requires : goal.at-listed-requires
at-listed-requires c =
    let r = c.args.self.now.records in
    here_is (sub_of r.sub) r.message.now r.count (code_of c.args.code) c.loop-k.k c.loop-k.left c.loop-k.invariant.0 c.loop-k.invariant.1

pub overflow_sub-left : goal.overflow_sub-left
overflow_sub-left c = omega (arith, c.loop-k.invariant.1)

pub returns-then-left-eq0-2 : goal.returns-then-left-eq0-2
returns-then-left-eq0-2 c =
    let r = c.args.self.now.records in
    sym (search_ends _ _ _ _ (used_up _ r.message.now r.count _ c.loop-k.k c.loop-k.left c.loop-k.invariant.0 c.loop-k.invariant.1 _ c.at-listed.ensures (code_same (code_of c.at-listed.result.code) (code_of c.args.code) c.if-eq.ensures) c.high_byte-in-loop-k.ensures c.high_byte-in-loop-k-2.ensures c.if-high_byte.true) c.if-left-eq0-2.true)

pub loop-k-preserved : goal.loop-k-preserved
loop-k-preserved c =
    let r = c.args.self.now.records in
    elim c.if-high_byte.branch [
      | then-high_byte+else-left-eq0-2 w ↦ (rw w.left-is (used_up _ r.message.now r.count _ c.loop-k.k c.loop-k.left c.loop-k.invariant.0 c.loop-k.invariant.1 _ c.at-listed.ensures (code_same (code_of c.at-listed.result.code) (code_of c.args.code) c.if-eq.ensures) c.high_byte-in-loop-k.ensures c.high_byte-in-loop-k-2.ensures w.if-high_byte.true), omega (arith, w.left-is, w.if-left-eq0-2.false))
      | else-high_byte w ↦ (rw w.left-is (passed_over _ r.message.now r.count _ c.loop-k.k c.loop-k.left c.loop-k.invariant.0 c.loop-k.invariant.1 _ c.at-listed.ensures c.high_byte-in-loop-k.ensures c.high_byte-in-loop-k-2.ensures w.if-high_byte.false), omega (arith, w.left-is, c.loop-k.invariant.1))
    ]

pub returns : goal.returns
returns c =
    let r = c.args.self.now.records in
    let behind = here_is (sub_of r.sub) r.message.now r.count (code_of c.args.code) c.loop-k.k c.loop-k.left c.loop-k.invariant.0 c.loop-k.invariant.1 in
    absurd (omega (arith, behind, c.loop-k-test.false, r.held.few))
