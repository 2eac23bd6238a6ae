-- `put_lines` meets its contract: the lines of the first k records stand at the start of the room, and the next is put behind them.
use borrow.Author.Rules.{rules}
use mathlib.Core.Path.{◌≡◌, refl}
use native.Mathlib.Omega.{arith}
use Rattle.paper.specs.Listing.{read_listing}
use Rattle.wire.proofs.Over.{filled_as}
use Rattle.wire.proofs.Writes.{refuses, writes, filled}
use Rattle.listing.specs.Listing.{sub_of}
use Rattle.code_text.proofs.Exported.{no_line, line_more, same-room, all_lines, length_all}
use Rattle.code_text.proofs.lines.put_lines.Goals as goal

pub returns-then-room-needed : goal.returns-then-room-needed
returns-then-room-needed c =
    refuses _ (length_all (read_listing (sub_of c.args.sub) c.args.listing.now) c.args.n c.requires.1) (search rules)

pub loop-k-init : goal.loop-k-init
loop-k-init c =
    (no_line (read_listing (sub_of c.args.sub) c.args.listing.now) c.args.n c.requires.1)

pub slice_bounds-put_line_of-start : goal.slice_bounds-put_line_of-start
slice_bounds-put_line_of-start c =
    let l = c.loop-k in
    omega (arith, same-room (read_listing (sub_of c.args.sub) c.args.listing.now) c.args.n c.requires.1 l.k (omega arith) (search rules) l.invariant)

pub loop-k-preserved : goal.loop-k-preserved
loop-k-preserved c =
    let l = c.loop-k in
    (line_more (read_listing (sub_of c.args.sub) c.args.listing.now) c.args.n c.requires.1 l.k (omega arith) l.invariant (filled refl c.put_line_of.ensures))

pub returns : goal.returns
returns c =
    let l = c.loop-k in
    let a = read_listing (sub_of c.args.sub) c.args.listing.now in
    let all : l.k ≡ c.args.n = omega arith in
    writes _ (length_all a c.args.n c.requires.1) (search rules) (filled_as (all_lines a c.args.n c.requires.1) (rw all at l.invariant))
