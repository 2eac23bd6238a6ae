-- No second answer, no second room and no other final contents of the buffer meets a contract of this crate.
-- Assumes nothing.
use mathlib.Core.Path.{◌≡◌, refl, sym, ap, ◌∙◌}
use mathlib.Core.Bool.{true≢false}
use mathlib.Core.List.{List}
use Prim.Native.Nat.{ℕ}
use Rattle.std.specs.Prelude.{Option, Some, None}
use Rattle.wire.proofs.Unique.{Determined}
use Rattle.wire.proofs.UniqueWriting.{WritesOnce}
use Rattle.dtc.specs.declared.status.Mask.{Mask}
use Rattle.dtc.specs.declared.status.Status.{Status}
use Rattle.listing_text.specs.Import.{MaskRight, goes_to_output, count_of}
use Rattle.listing_text.specs.declared.import.Printed.{Printed}
use Rattle.listing_text.proofs.room.Kinds as room-kinds
use Rattle.listing_text.proofs.room.Reads as room
use Rattle.listing_text.proofs.export.text_room.Kinds as text-room-kinds
use Rattle.listing_text.proofs.export.text_room.Reads as text-room
use Rattle.listing_text.proofs.export.export_text.Kinds as export-text-kinds
use Rattle.listing_text.proofs.export.export_text.Reads as export-text
use Rattle.listing_text.proofs.import.listing_room.Kinds as listing-room-kinds
use Rattle.listing_text.proofs.import.listing_room.Reads as listing-room
use Rattle.listing_text.proofs.import.mask_in.Kinds as mask-in-kinds
use Rattle.listing_text.proofs.import.mask_in.Reads as mask-in
use Rattle.listing_text.proofs.import.import_text.Kinds as import-text-kinds
use Rattle.listing_text.proofs.import.import_text.Reads as import-text
use Rattle.listing_text.proofs.import.usage_text.Kinds as usage-text-kinds
use Rattle.listing_text.proofs.import.usage_text.Reads as usage-text

-- ---- the rooms
pub room_determined : Determined 0 room-kinds.ps room-kinds.r room.Post
room_determined κs a x y r₁ r₂ p q = p.1 ∙ sym q.1

pub text_room_determined : Determined 0 text-room-kinds.ps text-room-kinds.r text-room.Post
text_room_determined κs a x y r₁ r₂ p q = p.1 ∙ sym q.1

pub listing_room_determined : Determined 0 listing-room-kinds.ps listing-room-kinds.r listing-room.Post
listing_room_determined κs a x y r₁ r₂ p q = p.1 ∙ sym q.1

-- ---- the argument
abbrev mask_of : ℕ → Option (Mask Status)
mask_of b = Some (record { bits = b; names = record {} })

mask_once : (w : List ℕ) (r₁ r₂ : Option (Mask Status)) → MaskRight w r₁ → MaskRight w r₂ → r₁ ≡ r₂
mask_once w (Some m) (Some n) p q = ap mask_of (p.1 ∙ sym q.1)
mask_once w (Some m) None p q = absurd (true≢false (sym p.0 ∙ q))
mask_once w None (Some n) p q = absurd (true≢false (sym q.0 ∙ p))
mask_once w None None p q = refl

pub mask_in_determined : Determined 1 mask-in-kinds.ps mask-in-kinds.r mask-in.Post
mask_in_determined κs a x y r₁ r₂ p q = mask_once _ r₁ r₂ p q

-- ---- what is written: the buffer, the last parameter, too
pub export_text_determined : WritesOnce 2 export-text-kinds.ps export-text-kinds.r (λ κs x. x.1.0) export-text.Post
export_text_determined κs a x y r₁ r₂ p q = (p.0 ∙ sym q.0, p.1.0 ∙ sym q.1.0)

printed_once : (p q : Printed) → goes_to_output p ≡ goes_to_output q → count_of p ≡ count_of q → p ≡ q
printed_once (Printed.ToOutput n) (Printed.ToOutput m) e f = ap Printed.ToOutput f
printed_once (Printed.ToOutput n) (Printed.ToError m) e f = absurd (true≢false e)
printed_once (Printed.ToError n) (Printed.ToOutput m) e f = absurd (true≢false (sym e))
printed_once (Printed.ToError n) (Printed.ToError m) e f = ap Printed.ToError f

pub import_text_determined : WritesOnce 2 import-text-kinds.ps import-text-kinds.r (λ κs x. x.1.1.0) import-text.Post
import_text_determined κs a x y r₁ r₂ p q =
    (printed_once r₁ r₂ (p.stream ∙ sym q.stream) (p.count ∙ sym q.count), p.contents ∙ sym q.contents)

pub usage_text_determined : WritesOnce 1 usage-text-kinds.ps usage-text-kinds.r (λ κs x. x.0) usage-text.Post
usage_text_determined κs a x y r₁ r₂ p q = (p.0 ∙ sym q.0, p.1.0 ∙ sym q.1.0)
