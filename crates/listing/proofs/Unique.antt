-- No second answer, and no second final contents, meets the contract of a public function of this crate.
-- Assumes nothing.
use mathlib.Core.Path.{◌≡◌, refl, sym, ap, ap₂, ◌∙◌}
use mathlib.Core.List.{List}
use mathlib.Core.Option as paper-option
use Rattle.std.specs.Prelude.{Option, Some, None, Result, Ok, Err}
use Prim.Native.Nat.{ℕ}
use lib.Dec.{eqb}
use Rattle.paper.specs.Choice.{pick}
use Rattle.paper.specs.Answer.{Answer, accepted, refused}
use Rattle.paper.specs.Listing as paper
use Rattle.paper.specs.Listing.{by_status_mask, by_severity_mask, Head, Found}
use Rattle.paper.specs.Changes.{Compared}
use Rattle.wire.proofs.Refusals.{refusal_back, refusal-back}
use Rattle.wire.proofs.Unique.{Determined}
use Rattle.wire.proofs.UniqueWriting.{WritesOnce, wrote_once}
use Rattle.wire.specs.declared.refusal.Refusal.{Refusal}
use Rattle.listing.specs.Listing.{sub_of, head_said, record_said}
use Rattle.listing.specs.Index.{IndexedRight, look_said}
use Rattle.listing.specs.Changes.{which_said, changes_told, ComparedRight}
use Rattle.dtc.specs.declared.status.Mask.{Mask}
use Rattle.dtc.specs.declared.status.Status.{Status}
use Rattle.listing.specs.declared.SubFunction.{SubFunction}
use Rattle.listing.specs.declared.SubFunction.TheVariants.{ByStatusMask, BySeverityMask}
use Rattle.listing.specs.declared.Listed.{Listed}
use Rattle.listing.specs.declared.index.Indexed.{Indexed}
use Rattle.listing.specs.declared.changes.ChangesRefusal.{ChangesRefusal}
use Rattle.listing.specs.declared.changes.ChangesRefusal.TheVariants.{First, Second, Room}
use Rattle.listing.proofs.SubFunction.byte.Kinds as byte-kinds
use Rattle.listing.proofs.SubFunction.byte.Reads as byte
use Rattle.listing.proofs.sub_function_said.Kinds as sub-function-said-kinds
use Rattle.listing.proofs.sub_function_said.Reads as sub-function-said
use Rattle.listing.proofs.read_listing.Kinds as read-listing-kinds
use Rattle.listing.proofs.read_listing.Reads as read-listing
use Rattle.listing.proofs.record_at.Kinds as record-at-kinds
use Rattle.listing.proofs.record_at.Reads as record-at
use Rattle.listing.proofs.index.index_listing.Kinds as index-listing-kinds
use Rattle.listing.proofs.index.index_listing.Reads as index-listing
use Rattle.listing.proofs.changes.read_once.Kinds as read-once-kinds
use Rattle.listing.proofs.changes.read_once.Reads as read-once
use Rattle.listing.proofs.index.look_up.Kinds as look-up-kinds
use Rattle.listing.proofs.index.look_up.Reads as look_up
use Rattle.listing.proofs.write.put_head.Kinds as put-head-kinds
use Rattle.listing.proofs.write.put_head.Reads as put-head
use Rattle.listing.proofs.write.put_record.Kinds as put-record-kinds
use Rattle.listing.proofs.write.put_record.Reads as put_record
use Rattle.listing.proofs.write.write_listing.Kinds as write-listing-kinds
use Rattle.listing.proofs.write.write_listing.Reads as write-listing
use Rattle.listing.proofs.changes.listing_changes.Kinds as listing-changes-kinds
use Rattle.listing.proofs.changes.listing_changes.Reads as listing-changes

pub byte_determined : Determined 0 byte-kinds.ps byte-kinds.r byte.Post
byte_determined κs a x y r₁ r₂ p q = p ∙ sym q

-- ---- the answers that the paper's stand for
sub_back : paper.SubFunction → SubFunction
sub_back by_status_mask = ByStatusMask
sub_back by_severity_mask = BySeverityMask

sub_back_lem : (f : SubFunction) → sub_back (sub_of f) ≡ f
unfolding sub_back
sub_back_lem ByStatusMask = refl
sub_back_lem BySeverityMask = refl

pub sub_function_said_determined : Determined 1 sub-function-said-kinds.ps sub-function-said-kinds.r sub-function-said.Post
sub_function_said_determined κs a x y r₁ r₂ p q = sym (sub_back_lem r₁) ∙ ap sub_back (p ∙ sym q) ∙ sub_back_lem r₂

abbrev mask_of : {K : Type 0} → ℕ → Mask K
mask_of b = record { bits = b; names = record {} }

abbrev pub listed_back : paper.Listed → Listed
listed_back r = record {
  known = r.known;
  severity = mask_of r.severity;
  functional_unit = r.functional_unit;
  code = record { high_byte = r.code.high; middle_byte = r.code.middle; low_byte = r.code.low };
  status = mask_of r.status;
}

abbrev pub head_back : Answer Head → Result (Mask Status × ℕ) Refusal
head_back (accepted h) = Ok (mask_of h.mask, h.records)
head_back (refused e) = Err (refusal_back e)

pub head-back : (r : Result (Mask Status × ℕ) Refusal) → head_back (head_said r) ≡ r
head-back (Ok (m, n)) = refl
head-back (Err e) = ap Err (refusal-back e)

abbrev record_back : paper-option.Option paper.Listed → Option Listed
record_back paper-option.none = None
record_back (paper-option.some r) = Some (listed_back r)

record-back : (r : Option Listed) → record_back (record_said r) ≡ r
record-back None = refl
record-back (Some r) = refl

abbrev look_back : Answer Found → Result (ℕ × Listed) Refusal
look_back (accepted x) = Ok (x.place, listed_back x.«record»)
look_back (refused e) = Err (refusal_back e)

look-back : (r : Result (ℕ × Listed) Refusal) → look_back (look_said r) ≡ r
look-back (Ok (k, r)) = refl
look-back (Err e) = ap Err (refusal-back e)

-- ---- reading
pub read_listing_determined : Determined 1 read-listing-kinds.ps read-listing-kinds.r read-listing.Post
read_listing_determined κs a x y r₁ r₂ p q = sym (head-back r₁) ∙ ap head_back (p ∙ sym q) ∙ head-back r₂

pub record_at_determined : Determined 1 record-at-kinds.ps record-at-kinds.r record-at.Post
record_at_determined κs a x y r₁ r₂ p q = sym (record-back r₁) ∙ ap record_back (p ∙ sym q) ∙ record-back r₂

-- ---- the index and the lookup
abbrev indexed_back : Result (Mask Status × ℕ) Refusal → paper.Index → Indexed
indexed_back l x = record { listing = l; index = record { counts = x.counts; firsts = x.firsts } }

-- also for whoever hands it on
pub indexed_once : (a : Answer paper.Listing) (r₁ r₂ : Indexed) → IndexedRight a r₁ → IndexedRight a r₂ → r₁ ≡ r₂
indexed_once a r₁ r₂ p q = ap₂ indexed_back (sym (head-back r₁.listing) ∙ ap head_back (p.head ∙ sym q.head) ∙ head-back r₂.listing) (p.index ∙ sym q.index)

pub index_listing_determined : Determined 1 index-listing-kinds.ps index-listing-kinds.r index-listing.Post
index_listing_determined κs a x y r₁ r₂ p q = indexed_once _ r₁ r₂ p q

pub read_once_determined : Determined 1 read-once-kinds.ps read-once-kinds.r read-once.Post
read_once_determined κs a x y r₁ r₂ p q = sym (head-back r₁) ∙ ap head_back (p ∙ sym q) ∙ head-back r₂

pub look_up_determined : Determined 3 look-up-kinds.ps look-up-kinds.r look_up.Post
look_up_determined κs a x y r₁ r₂ p q = sym (look-back r₁) ∙ ap look_back (p ∙ sym q) ∙ look-back r₂

-- ---- writing: the buffer too
pub put_head_determined : WritesOnce 1 put-head-kinds.ps put-head-kinds.r (λ κs x. x.1.1.0) put-head.Post
put_head_determined κs a x y r₁ r₂ p q = wrote_once p q

pub put_record_determined : WritesOnce 1 put-record-kinds.ps put-record-kinds.r (λ κs x. x.1.1.0) put_record.Post
put_record_determined κs a x y r₁ r₂ p q = wrote_once p q

pub write_listing_determined : WritesOnce 2 write-listing-kinds.ps write-listing-kinds.r (λ κs x. x.1.1.1.0) write-listing.Post
write_listing_determined κs a x y r₁ r₂ p q = wrote_once p q

-- ---- the comparison: which listing was refused too. Also for whoever hands it on
changes_back : ℕ → Answer ℕ → Result ℕ ChangesRefusal
changes_back which (accepted n) = Ok n
changes_back which (refused e) = Err (pick (eqb which 1) First (pick (eqb which 2) Second Room) (refusal_back e))

changes-back : (r : Result ℕ ChangesRefusal) → changes_back (which_said r) (changes_told r) ≡ r
unfolding changes_back
changes-back (Ok n) = refl
changes-back (Err (First e)) = ap (λ x. Err (First x)) (refusal-back e)
changes-back (Err (Second e)) = ap (λ x. Err (Second x)) (refusal-back e)
changes-back (Err (Room e)) = ap (λ x. Err (Room x)) (refusal-back e)

pub compared_once : {c : Compared} {r q : Result ℕ ChangesRefusal} {x y : List ℕ} → ComparedRight c r x → ComparedRight c q y → (r ≡ q) × (x ≡ y)
compared_once {r = r} {q} h k = (sym (changes-back r) ∙ ap₂ changes_back (h.which ∙ sym k.which) (h.answer ∙ sym k.answer) ∙ changes-back q, h.contents ∙ sym k.contents)

pub listing_changes_determined : WritesOnce 3 listing-changes-kinds.ps listing-changes-kinds.r (λ κs x. x.1.1.1.1.0) listing-changes.Post
listing_changes_determined κs a x y r₁ r₂ p q = compared_once p q
