-- No second text, and no other final contents of the buffer, meets the contract of this crate's public function.
-- Assumes nothing.
use mathlib.Core.Path.{sym, ◌∙◌}
use Rattle.wire.proofs.UniqueWriting.{WritesOnce}
use Rattle.message_line.proofs.text.message_text.Kinds as message-text-kinds
use Rattle.message_line.proofs.text.message_text.Reads as message-text

-- the input settles the number of bytes, and what the buffer, the second parameter, holds at the exit
pub message_text_determined : WritesOnce 2 message-text-kinds.ps message-text-kinds.r (λ κs x. x.1.0) message-text.Post
message_text_determined κs a x y r₁ r₂ p q = (p.0 ∙ sym q.0, p.1.0 ∙ sym q.1.0)
