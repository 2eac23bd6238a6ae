-- `changes_text::line::put_code` meets its contract: the code's eight characters fill a room of eight, and are put.
use lib.Dec.{lit≤}
use Rattle.paper.proofs.CodeText.{length_code}
use Rattle.form.proofs.Grown.{put_as}
use Rattle.changes_text.proofs.Lines.{fills}
use Rattle.changes_text.proofs.line.put_code.Goals as goal

pub returns : goal.returns
returns c =
    let is = fills c.put_code_text.ensures (length_code _) in
    put_as c.put.ensures is (rw (is, length_code) (lit≤ tt))
