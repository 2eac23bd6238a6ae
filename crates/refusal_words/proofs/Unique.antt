-- No second answer, and no second final contents of the room, meets a contract of this crate.
-- Assumes nothing.
use mathlib.Core.Path.{sym, ◌∙◌}
use Rattle.wire.proofs.UniqueWriting.{wrote_once, WritesOnce}
use Rattle.refusal_words.proofs.refusal_text.Kinds as refusal-text-kinds
use Rattle.refusal_words.proofs.refusal_text.Reads as refusal-text
use Rattle.refusal_words.proofs.skr_refusal_text.Kinds as skr-refusal-text-kinds
use Rattle.refusal_words.proofs.skr_refusal_text.Reads as skr-refusal-text

-- the number settles the answer, and what the room, the last parameter, holds at the exit
pub refusal_text_determined : WritesOnce 1 refusal-text-kinds.ps refusal-text-kinds.r (λ κs x. x.1.0) refusal-text.Post
refusal_text_determined κs a x y r₁ r₂ p q = wrote_once p q

pub skr_refusal_text_determined : WritesOnce 1 skr-refusal-text-kinds.ps skr-refusal-text-kinds.r (λ κs x. x.1.0) skr-refusal-text.Post
skr_refusal_text_determined κs a x y r₁ r₂ p q = (p.0 ∙ sym q.0, p.1 ∙ sym q.1)
