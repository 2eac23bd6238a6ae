-- `changes_text::line::put_lines` meets its contract. The invariant: the lines of the entries that are still to come, after the text so far, make the text that is promised; each line passed took at
-- most 23 bytes.
use Prim.Native.Nat.{◌+◌, ◌-◌, ◌*◌}
use mathlib.Core.Path.{refl}
use native.Mathlib.Nat.{sub-zero}
use native.Mathlib.Omega.{arith}
use borrow.Author.Rules.{rules}
use lib.ListN.{drop}
use Rattle.form.specs.Text.{grown}
use Rattle.form.proofs.Grown.{on}
use Rattle.changes_text.specs.Entries.{lines_in}
use Rattle.changes_text.proofs.Lines.{line_more, line_none}
use Rattle.changes_text.proofs.line.put_lines.Goals as goal

pub loop-k-init : goal.loop-k-init
loop-k-init c = (search rules, refl, rw sub-zero refl)

pub loop-k-preserved : goal.loop-k-preserved
loop-k-preserved c =
    let put = c.put_line-end in
    let l = c.loop-k in
    let a = c.args in (
      omega (arith, put.ensures.bound),
      search rules,
      on _ (lines_in (a.n - (l.k + 1)) (drop (6 * (l.k + 1)) a.entries.now)) (line_more a.entries.now a.n l.k c.loop-k-test.true) l.invariant.2 put.ensures,
    )

pub returns : goal.returns
unfolding grown
returns c =
    let l = c.loop-k in
    let a = c.args in
    record { right = rw (line_none (drop (6 * l.k) a.entries.now) a.n l.k c.loop-k-test.false) at l.invariant.2; bound = omega arith }
