-- No second answer, and no second final contents of the buffer, meets a contract of this crate.
-- Assumes nothing.
use Prim.Native.Nat.{ℕ}
use mathlib.Core.Path.{◌≡◌, sym, ap, ◌∙◌}
use mathlib.Core.List.{List}
use Rattle.wire.proofs.UniqueWriting.{WritesOnce}
use Rattle.form.specs.Text.{Text, Grew}
use Rattle.form.proofs.put.Kinds as put-kinds
use Rattle.form.proofs.put.Reads as put
use Rattle.form.proofs.put_hex.Kinds as put-hex-kinds
use Rattle.form.proofs.put_hex.Reads as put-hex
use Rattle.form.proofs.put_form.Kinds as put-form-kinds
use Rattle.form.proofs.put_form.Reads as put-form

-- one law for every function that adds to a text
grew_once : {bytes old x y : List ℕ} {most at r s : ℕ} → Grew bytes most at old r x → Grew bytes most at old s y → (r ≡ s) × (x ≡ y)
grew_once p q = let same = p.right ∙ sym q.right in (ap Text.long same, ap Text.held same)

pub put_determined : WritesOnce 2 put-kinds.ps put-kinds.r (λ κs x. x.1.0) put.Post
put_determined κs a x y r₁ r₂ p q = grew_once p q

pub put_hex_determined : WritesOnce 1 put-hex-kinds.ps put-hex-kinds.r (λ κs x. x.1.0) put-hex.Post
put_hex_determined κs a x y r₁ r₂ p q = grew_once p q

pub put_form_determined : WritesOnce 3 put-form-kinds.ps put-form-kinds.r (λ κs x. x.1.1.0) put-form.Post
put_form_determined κs a x y r₁ r₂ p q = grew_once p q
