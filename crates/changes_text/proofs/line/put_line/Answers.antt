-- `changes_text::line::put_line` meets its contract: the six bytes at the place are the entry's.
use Prim.Native.Nat.{◌*◌}
use mathlib.Core.Path.{ap}
use native.Mathlib.Nat.{le_refl}
use Rattle.paper.specs.ChangesProgram.{entry_line}
use Rattle.form.proofs.Grown.{put_as}
use Rattle.changes_text.proofs.Lines.{entry_at}
use Rattle.changes_text.proofs.line.put_line.Goals as goal

pub returns : goal.returns
returns c =
    let a = c.args in
    put_as c.put_entry.ensures (ap entry_line (entry_at a.entries.now (6 * a.k) c.new-code.ensures)) (le_refl _)
