-- No second room, sort, reason or text, and no other final contents of the buffer, meets a contract of this crate.
-- Assumes nothing.
use mathlib.Core.Path.{◌≡◌, refl, sym, ap, ◌∙◌}
use Prim.Native.Nat.{ℕ}
use mathlib.Core.List.{List}
use native.Mathlib.Omega.{arith}
use lib.ListN.{length}
use Rattle.wire.proofs.Unique.{Determined}
use Rattle.wire.proofs.UniqueWriting.{WritesOnce}
use Rattle.reason.proofs.Unique.{answer_once}
use Rattle.std.specs.Prelude.{Option, Some, None}
use Rattle.reason_line.specs.Sort.{sort_said, NamedRight}
use Rattle.reason_line.specs.declared.sort.Sort.{Sort}
use Rattle.reason_line.proofs.room.Kinds as room-kinds
use Rattle.reason_line.proofs.room.Reads as room
use Rattle.reason_line.proofs.sort.sort_named.Kinds as sort-named-kinds
use Rattle.reason_line.proofs.sort.sort_named.Reads as sort-named
use Rattle.reason_line.proofs.sort.why.Kinds as why-kinds
use Rattle.reason_line.proofs.sort.why.Reads as why
use Rattle.reason_line.proofs.text.why_text.Kinds as why-text-kinds
use Rattle.reason_line.proofs.text.why_text.Reads as why-text
use Rattle.reason_line.proofs.text.usage_text.Kinds as usage-text-kinds
use Rattle.reason_line.proofs.text.usage_text.Reads as usage-text

pub room_determined : Determined 0 room-kinds.ps room-kinds.r room.Post
room_determined κs a x y r₁ r₂ p q = p.1 ∙ sym q.1

-- the two words differ in length
named_once : (word : List ℕ) (r₁ r₂ : Option Sort) → NamedRight word r₁ → NamedRight word r₂ → r₁ ≡ r₂
named_once word (Some Sort.Request) (Some Sort.Request) p q = refl
named_once word (Some Sort.Request) (Some Sort.Response) p q = let e : ◌≡◌ {A = ℕ} 7 8 = ap length (sym p ∙ q) in absurd (omega arith)
named_once word (Some Sort.Response) (Some Sort.Request) p q = let e : ◌≡◌ {A = ℕ} 8 7 = ap length (sym p ∙ q) in absurd (omega arith)
named_once word (Some Sort.Response) (Some Sort.Response) p q = refl
named_once word (Some sort) None p q = absurd (q (sort_said sort) p)
named_once word None (Some sort) p q = absurd (p (sort_said sort) q)
named_once word None None p q = refl

pub sort_named_determined : Determined 1 sort-named-kinds.ps sort-named-kinds.r sort-named.Post
sort_named_determined κs a x y r₁ r₂ p q = named_once _ r₁ r₂ p q

pub why_determined : Determined 1 why-kinds.ps why-kinds.r why.Post
why_determined κs a x y r₁ r₂ p q = answer_once (p ∙ sym q)

-- the sort and the input settle the number of bytes, and what the buffer, the last parameter, holds at the exit
pub why_text_determined : WritesOnce 2 why-text-kinds.ps why-text-kinds.r (λ κs x. x.1.1.0) why-text.Post
why_text_determined κs a x y r₁ r₂ p q = (p.0 ∙ sym q.0, p.1.0 ∙ sym q.1.0)

pub usage_text_determined : WritesOnce 1 usage-text-kinds.ps usage-text-kinds.r (λ κs x. x.0) usage-text.Post
usage_text_determined κs a x y r₁ r₂ p q = (p.0 ∙ sym q.0, p.1.0 ∙ sym q.1.0)
