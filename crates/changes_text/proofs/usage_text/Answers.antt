-- `changes_text::usage_text` meets its contract: the text is put as it is, in room enough.
use borrow.Author.Rules.{rules}
use Rattle.form.proofs.Grown.{whole}
use Rattle.changes_text.proofs.usage_text.Goals as goal

pub returns : goal.returns
returns c = let o = whole c.put.ensures (search rules) in record { value = o.0; out_after = o.1.0; prefix_len = o.1.1 }
