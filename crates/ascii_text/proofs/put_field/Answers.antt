-- `ascii_text::put_field` meets its contract: the word, and the number in the room that begins where the word ended.
use mathlib.Core.Path.{refl, sym}
use lib.ListN.{length}
use Rattle.wire.proofs.Over.{filled_more, filled_as}
use Rattle.wire.proofs.Writes.{filled}
use Rattle.ascii_text.proofs.Decimal.{printed}
use Rattle.ascii_text.proofs.Laid.{laid_none, laid-whole, laid-nothing, field-short, field-long, field_length}
use Rattle.ascii_text.proofs.put_field.Goals as goal

pub returns-then-word-gt64-clause-laid : goal.returns-then-word-gt64-clause-laid
returns-then-word-gt64-clause-laid c = rw (field-long c.args.word.now c.args.n c.if-word-gt64.true) laid-nothing

pub returns-then-out-all-clause-laid : goal.returns-then-out-all-clause-laid
returns-then-out-all-clause-laid c =
    let is = printed c.as_bytes-digits.ensures.value c.format.ensures.text c.ranges.n.fits in
    laid_none (field_length c.args.word.now c.args.n c.if-word-gt64.false is refl) c.if-out-all.true

pub returns-clause-laid : goal.returns-clause-laid
returns-clause-laid c =
    let w = c.args.word.now in
    let n = c.args.n in
    let is = printed c.as_bytes-digits.ensures.value c.format.ensures.text c.ranges.n.fits in
    let h = c.if-word-gt64.false in
    laid-whole (field_length w n h is refl) c.if-out-all.false
    (filled_as (sym (field-short w n h)) (filled_more (length w) (filled refl c.put_bytes.ensures) (filled_as is (filled refl c.put_bytes-2.ensures)) refl))
