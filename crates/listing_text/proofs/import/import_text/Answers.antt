-- `listing_text::import::import_text` meets its contract: it is too long, or the listing and the refusal have their bytes, in room enough.
use borrow.Author.Rules.{rules}
use mathlib.Core.Path.{refl}
use native.Mathlib.Omega.{arith}
use Rattle.paper.specs.ReadingProgram.{text_of}
use Rattle.ascii_text.proofs.Laid.{put_leaf, put_as}
use Rattle.listing_text.proofs.Answers.{prints, import-long, import-judged}
use Rattle.listing_text.proofs.import.import_text.Goals as goal

pub returns-then-text-gt65536 : goal.returns-then-text-gt65536
unfolding text_of
returns-then-text-gt65536 c =
    let a = c.args in
    rw (← import-long a.mask.bits a.text.now c.if-text-gt65536.true) (prints (record { stream = refl; put = put_as (put_leaf c.put_bytes.ensures) refl (omega arith) }) (search rules))

pub returns : goal.returns
returns c = let a = c.args in rw (← import-judged a.mask.bits a.text.now c.if-text-gt65536.false) (prints c.put_listing.ensures (search rules))
