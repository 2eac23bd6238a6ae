-- `Records::of` meets its contract: a case of reading for each return.
use mathlib.Core.Path.{sym, ap, ◌∙◌}
use Prim.Native.Nat.{◌-◌, ◌/◌}
use lib.ListN.{length}
use Rattle.listing.proofs.Reading.{short, wrong_answer, wrong_sub, too_many_lem, cut_off, good}
use Rattle.listing.proofs.records.Records.of.Goals as goal

pub returns-then-available-lt3 : goal.returns-then-available-lt3
returns-then-available-lt3 c = short _ _ c.if-available-lt3.true

pub returns-then-message-ne89 : goal.returns-then-message-ne89
returns-then-message-ne89 c = wrong_answer _ _ c.if-available-lt3.false c.if-message-ne89.true

pub returns-then-message-byte : goal.returns-then-message-byte
returns-then-message-byte c = wrong_sub _ _ c.if-available-lt3.false (λ e. c.if-message-byte.true (e ∙ sym c.byte.ensures))

pub returns-then-count-gt4096 : goal.returns-then-count-gt4096
returns-then-count-gt4096 c = too_many_lem _ _ c.if-available-lt3.false c.if-message-ne89.false (c.if-message-byte.false ∙ c.byte.ensures) _ (ap (λ size. (length c.args.message.now - 3) / size) c.record_size-size.ensures.size) c.if-count-gt4096.true

pub returns-then-available-size-ne0 : goal.returns-then-available-size-ne0
returns-then-available-size-ne0 c = cut_off _ _ c.if-available-lt3.false c.if-message-ne89.false (c.if-message-byte.false ∙ c.byte.ensures) _ (ap (λ size. (length c.args.message.now - 3) / size) c.record_size-size.ensures.size) c.if-count-gt4096.false (rw c.record_size-size.ensures.size at c.if-available-size-ne0.true)

pub returns : goal.returns
returns c = good _ _ c.if-available-lt3.false c.if-message-ne89.false (c.if-message-byte.false ∙ c.byte.ensures) _ (ap (λ size. (length c.args.message.now - 3) / size) c.record_size-size.ensures.size) c.if-count-gt4096.false (rw c.record_size-size.ensures.size at c.if-available-size-ne0.false)
