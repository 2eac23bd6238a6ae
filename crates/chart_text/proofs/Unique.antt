-- No second text, and no other final contents of the buffer, meets the contract of `chart_text`.
-- Assumes nothing.
use mathlib.Core.Path.{sym, ◌∙◌}
use Rattle.wire.proofs.UniqueWriting.{WritesOnce}
use Rattle.chart_text.proofs.chart_text.Kinds as chart-text-kinds
use Rattle.chart_text.proofs.chart_text.Reads as chart-text

-- the input settles the number of bytes, and what the buffer, the second parameter, holds at the exit
pub chart_text_determined : WritesOnce 2 chart-text-kinds.ps chart-text-kinds.r (λ κs x. x.1.0) chart-text.Post
chart_text_determined κs a x y r₁ r₂ p q = (p.0 ∙ sym q.0, p.1.0 ∙ sym q.1.0)
