-- `changes_text::changes_text` meets its contract: one of the files is too long, or what is said of the two listings, in room enough for it.
use borrow.Author.Rules.{rules}
use mathlib.Core.Path.{◌≡◌}
use Rattle.paper.specs.ReadingProgram.{text_of, too_long}
use Rattle.paper.specs.ChangesProgram.{changes_printed}
use Rattle.form.proofs.Grown.{whole}
use Rattle.changes_text.proofs.Compared.{first-long, second-long, not_long}
use Rattle.changes_text.proofs.changes_text.Goals as goal
use Rattle.changes_text.proofs.changes_text.Goals.{then-first-gt65536-via-then-first-gt65536, then-first-gt65536-via-else-first-gt65536+then-second-gt65536}

pub returns-then-first-gt65536 : goal.returns-then-first-gt65536
unfolding text_of
returns-then-first-gt65536 c =
    let a = c.args in
    let s = a.first.now in
    let t = a.second.now in
    let long : text_of too_long ≡ changes_printed s t = elim c.then-first-gt65536.branch [
      | then-first-gt65536-via-then-first-gt65536 w ↦ first-long s t w.if-first-gt65536.true
      | then-first-gt65536-via-else-first-gt65536+then-second-gt65536 w ↦ second-long s t w.if-second-gt65536.true
    ] in
    rw (← long) (let o = whole c.put.ensures (search rules) in record { value = o.0; out_after = o.1.0; prefix_len = o.1.1 })

pub returns : goal.returns
returns c =
    let a = c.args in
    rw (← not_long a.first.now a.second.now c.if-first-gt65536.false c.if-second-gt65536.false) (let o = whole c.put_compared.ensures (search rules) in record { value = o.0; out_after = o.1.0; prefix_len = o.1.1 })
