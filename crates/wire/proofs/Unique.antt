-- No second answer meets the promise of a reader: at the same arguments the message settles the answer.
-- Assumes nothing.
use Prim.Native.Nat.{ℕ, ◌+◌, ◌-◌, ◌≤◌}
use mathlib.Core.Path.{◌≡◌, refl, sym, ap, ap₂, ◌∙◌}
use mathlib.Core.List.{List}
use native.Mathlib.Omega.{arith}
use contract.Lifetimes.{Lfts}
use denote.Ref.{Bor}
use denote.Triple.Clauses.{AtExit}
use borrow.Fn.Kinds.{ParamKind, ResultKind, Dens, res_t, Out, ended_of}
use lib.ListN.{length, drop, length-drop}
use lib.Seq.{length-take-le}
use Rattle.std.specs.Prelude.{Ok, Err}
use Rattle.paper.specs.Answer.{Answer, accepted, refused, Read, ◌leaving◌, Reader}
use Rattle.paper.specs.Field.{first_size, second_size}
use Rattle.paper.proofs.Sizes.{smallest_once}
use Rattle.wire.specs.Reading.{Seen, said, placed, Right}
use Rattle.wire.specs.Place.{bytes_at}
use Rattle.wire.specs.Prefix.{prefix_len}
use Rattle.wire.specs.declared.size.Size.{Size}
use Rattle.wire.specs.declared.group.TwoSizes.{TwoSizes}
use Rattle.wire.specs.declared.place.Place.{Place}
use Rattle.wire.proofs.Refusals.{refusal_back, refusal-back}
use Rattle.wire.proofs.Sizes.{order_back, order-back}
use Rattle.wire.proofs.Halves.{size_of, size_back}
use Rattle.wire.proofs.size.compare.Kinds as compare-kinds
use Rattle.wire.proofs.size.compare.Reads as compare
use Rattle.wire.proofs.size.width_of.Kinds as width-of-kinds
use Rattle.wire.proofs.size.width_of.Reads as width_of_lem
use Rattle.wire.proofs.size.width_of_both.Kinds as width-of-both-kinds
use Rattle.wire.proofs.size.width_of_both.Reads as width-of-both
use Rattle.wire.proofs.available.available_at.Kinds as available-at-kinds
use Rattle.wire.proofs.available.available_at.Reads as available-at
use Rattle.wire.proofs.number.byte_at.Kinds as byte-at-kinds
use Rattle.wire.proofs.number.byte_at.Reads as byte_at
use Rattle.wire.proofs.number.eight_at.Kinds as eight-at-kinds
use Rattle.wire.proofs.number.eight_at.Reads as eight-at
use Rattle.wire.proofs.group.read_be_uint.Kinds as read-be-uint-kinds
use Rattle.wire.proofs.group.read_be_uint.Reads as read-be-uint
use Rattle.wire.proofs.group.one_size_at.Kinds as one-size-at-kinds
use Rattle.wire.proofs.group.one_size_at.Reads as one-size-at
use Rattle.wire.proofs.group.two_sizes_at.Kinds as two-sizes-at-kinds
use Rattle.wire.proofs.group.two_sizes_at.Reads as two-sizes-at
use Rattle.wire.proofs.place.counted_at.Kinds as counted-at-kinds
use Rattle.wire.proofs.place.counted_at.Reads as counted-at
use Rattle.wire.proofs.place.part_at.Kinds as part-at-kinds
use Rattle.wire.proofs.place.part_at.Reads as part_at
use Rattle.wire.proofs.refusal.Refusal.number.Kinds as number-kinds
use Rattle.wire.proofs.refusal.Refusal.number.Reads as number
use Rattle.wire.proofs.refusal.Refusal.first.Kinds as first-kinds
use Rattle.wire.proofs.refusal.Refusal.first.Reads as first
use Rattle.wire.proofs.refusal.Refusal.second.Kinds as second-kinds
use Rattle.wire.proofs.refusal.Refusal.second.Reads as second

-- what is shown of a contract, as the check reads it: two results that meet it at the same arguments, whatever the two exits, are equal
abbrev pub Determined : (n : ℕ) (ps : List (ParamKind n)) (r : ResultKind n) → Out n ps r → Type 0
Determined n ps r Post =
    (κs : Lfts n) (a : Dens κs ps) (x y : AtExit (ended_of n ps r) κs) (r₁ r₂ : (res_t r κs).Denot) → Post κs a r₁ x → Post κs a r₂ y → r₁ ≡ r₂

-- ---- one law for every reader
-- where a tail begins
pub tail_back : (s : List ℕ) (t : ℕ) → t ≤ length s → length s - length (drop t s) ≡ t
tail_back s t h = omega (arith, length-drop t s)

-- the answer as seen, from the paper's, given a way back from the meaning to the value
abbrev pub seen_of : {A M : Type 0} → (M → A) → ℕ → Answer (Read M) → Seen A
seen_of back n (accepted (m leaving t)) = Ok (back m, n - length t)
seen_of back n (refused r) = Err (refusal_back r)

-- the value comes back from its meaning, and the next field begins within the message
abbrev pub Settles : {A M : Type 0} → (A → M) → (A → ℕ → Type 0) → List ℕ → (M → A) → Type 0
Settles {A} meaning Place s back = (a : A) (next : ℕ) → Place a next → (back (meaning a) ≡ a) × (next ≤ length s)

module _ {A M : Type 0} {meaning : A → M} {Place : A → ℕ → Type 0} (back : M → A) where
  seen_back : (s : List ℕ) → Settles meaning Place s back → (x : Seen A) → placed Place x → seen_of back (length s) (said meaning s x) ≡ x
  seen_back s settles (Ok (a, next)) h = ap₂ (λ (b : A) (n : ℕ). Ok (b, n)) (settles a next h).0 (tail_back s next (settles a next h).1)
  seen_back s settles (Err e) h = ap Err (refusal-back e)

  module _ {field : Reader M} {s : List ℕ} {at : ℕ} (settles : Settles meaning Place s back) where
    -- an answer that is right is the paper's, led back
    pub seen_is : {x : Seen A} → Right A M meaning field Place s at x → x ≡ seen_of back (length s) (field (drop at s))
    seen_is {x} h = sym (seen_back s settles x h.place) ∙ ap (seen_of back (length s)) h.paper

    -- two answers that are right are equal
    pub once : {r₁ r₂ : Seen A} → Right A M meaning field Place s at r₁ → Right A M meaning field Place s at r₂ → r₁ ≡ r₂
    once p q = seen_is p ∙ sym (seen_is q)

-- ---- numbers
-- how many bytes are available
pub available_at_determined : Determined 1 available-at-kinds.ps available-at-kinds.r available-at.Post
available_at_determined κs a x y r₁ r₂ p q = p ∙ sym q

-- the byte at a position, or the refusal
pub byte_at_determined : Determined 1 byte-at-kinds.ps byte-at-kinds.r byte_at.Post
byte_at_determined κs a x y r₁ r₂ = once (λ n. n) (λ n next h. (refl, h.1))

-- the number of eight bytes
pub eight_at_determined : Determined 1 eight-at-kinds.ps eight-at-kinds.r eight-at.Post
eight_at_determined κs a x y r₁ r₂ = once (λ n. n) (λ n next h. (refl, h.1))

-- ---- sizes
-- a size of a known width
pub read_be_uint_determined : Determined 1 read-be-uint-kinds.ps read-be-uint-kinds.r read-be-uint.Post
read_be_uint_determined κs a x y r₁ r₂ = once size_of (λ z next h. (size_back z h.0, h.1.1))

-- a group of one size
pub one_size_at_determined : Determined 1 one-size-at-kinds.ps one-size-at-kinds.r one-size-at.Post
one_size_at_determined κs a x y r₁ r₂ = once (λ xs. size_of (first_size xs)) (λ z next h. (size_back z h.0, h.1))

abbrev two_sizes_of : Size → Size → TwoSizes
two_sizes_of u c = record { uncompressed = u; compressed = c }

-- a group of two sizes
pub two_sizes_at_determined : Determined 1 two-sizes-at-kinds.ps two-sizes-at-kinds.r two-sizes-at.Post
two_sizes_at_determined κs a x y r₁ r₂ =
    once (λ xs. two_sizes_of (size_of (first_size xs)) (size_of (second_size xs)))
    (λ z next h. (ap₂ two_sizes_of (size_back z.uncompressed h.0) (size_back z.compressed h.1), h.2))

-- ---- parts of the message
-- the place of so many bytes from a position on
abbrev pub place_of : ℕ → ℕ → Place
place_of start len = record { start = start; len = len }

-- a place within the message comes back from its bytes, where its start is known
pub place_back : (s : List ℕ) (p : Place) {start : ℕ} → p.start ≡ start → p.start + p.len ≤ length s → place_of start (length (bytes_at s p)) ≡ p
place_back s p e h = ap₂ place_of (sym e) (length-take-le p.len (drop p.start s) (omega (arith, length-drop p.start s)))

-- a count and so many bytes
pub counted_at_determined : Determined 1 counted-at-kinds.ps counted-at-kinds.r counted-at.Post
counted_at_determined κs a x y r₁ r₂ =
    let (prefix, (s, (at, _))) = a in
    once (λ b. place_of (at + prefix_len prefix) (length b)) (λ p next h. (place_back s.now p h.0 (omega (arith, h.1, h.2)), h.2))

-- of two parts the pointers are the same, and the bytes are
pub part_at_determined : (κs : Lfts 1) (a : Dens κs part-at-kinds.ps) (x y : AtExit (ended_of 1 part-at-kinds.ps part-at-kinds.r) κs) (r₁ r₂ : Bor (List ℕ))
    → part_at.Post κs a r₁ x → part_at.Post κs a r₂ y → (r₁.ref_ptr ≡ r₂.ref_ptr) × (r₁.now ≡ r₂.now)
part_at_determined κs a x y r₁ r₂ p q = (p.0 ∙ sym q.0, p.1 ∙ sym q.1)

-- ---- refusals
-- a refusal's number
pub refusal_number_determined : Determined 0 number-kinds.ps number-kinds.r number.Post
refusal_number_determined κs a x y r₁ r₂ p q = p ∙ sym q

-- its first value
pub refusal_first_determined : Determined 0 first-kinds.ps first-kinds.r first.Post
refusal_first_determined κs a x y r₁ r₂ p q = p ∙ sym q

-- its second value
pub refusal_second_determined : Determined 0 second-kinds.ps second-kinds.r second.Post
refusal_second_determined κs a x y r₁ r₂ p q = p ∙ sym q

-- ---- orders and widths
pub compare_determined : Determined 0 compare-kinds.ps compare-kinds.r compare.Post
compare_determined κs a x y r₁ r₂ p q = sym (order-back r₁) ∙ ap order_back (p ∙ sym q) ∙ order-back r₂

pub width_of_determined : Determined 0 width-of-kinds.ps width-of-kinds.r width_of_lem.Post
width_of_determined κs a x y r₁ r₂ p q = smallest_once p q

pub width_of_both_determined : Determined 0 width-of-both-kinds.ps width-of-both-kinds.r width-of-both.Post
width_of_both_determined κs a x y r₁ r₂ p q = smallest_once p q
