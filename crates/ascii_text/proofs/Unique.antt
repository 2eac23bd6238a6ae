-- No second number of bytes, and no other final contents of the room, meets a contract of this crate.
-- Assumes nothing.
use mathlib.Core.Path.{◌≡◌, sym, ◌∙◌}
use Prim.Native.Nat.{ℕ}
use mathlib.Core.List.{List}
use Rattle.wire.proofs.UniqueWriting.{WritesOnce}
use Rattle.ascii_text.specs.Text.{Laid}
use Rattle.ascii_text.proofs.put_decimal.Kinds as put-decimal-kinds
use Rattle.ascii_text.proofs.put_decimal.Reads as put-decimal
use Rattle.ascii_text.proofs.put_field.Kinds as put-field-kinds
use Rattle.ascii_text.proofs.put_field.Reads as put-field
use Rattle.ascii_text.proofs.put_refused.Kinds as put-refused-kinds
use Rattle.ascii_text.proofs.put_refused.Reads as put-refused

-- one law for every writer of a text
pub laid_once : {text old x y : List ℕ} {m n : ℕ} → Laid text m old x → Laid text n old y → (m ≡ n) × (x ≡ y)
laid_once p q = (p.counted ∙ sym q.counted, p.contents ∙ sym q.contents)

-- the room is each one's last parameter
pub put_decimal_determined : WritesOnce 1 put-decimal-kinds.ps put-decimal-kinds.r (λ κs x. x.1.0) put-decimal.Post
put_decimal_determined κs a x y r₁ r₂ p q = laid_once p.0 q.0

pub put_field_determined : WritesOnce 2 put-field-kinds.ps put-field-kinds.r (λ κs x. x.1.1.0) put-field.Post
put_field_determined κs a x y r₁ r₂ p q = laid_once p.0 q.0

pub put_refused_determined : WritesOnce 1 put-refused-kinds.ps put-refused-kinds.r (λ κs x. x.1.0) put-refused.Post
put_refused_determined κs a x y r₁ r₂ p q = laid_once p.0 q.0
