-- The answers of a comparison, by what reading each of the two listings answered.
-- Assumes nothing.
use mathlib.Core.Path.{◌≡◌, refl, sym, ap, ◌∙◌, subst}
use mathlib.Core.List.{List}
use Prim.Native.Nat.{ℕ}
use Rattle.std.specs.Prelude.{Result, Ok, Err, MatchResult}
use Rattle.std.specs.Result.{IsErrAnd}
use Rattle.std.proofs.lemmas.Result.{err_from_is_err_and}
use Rattle.paper.specs.Answer.{accepted, refused}
use Rattle.paper.specs.Listing.{SubFunction, Listing}
use Rattle.paper.specs.Changes.{entries_bytes, changes, read_for_changes, compared}
use Rattle.paper.proofs.Changes.{first-refused, second-refused, both-good}
use Rattle.wire.specs.Refusals.{row}
use Rattle.wire.specs.Writing.{told, Wrote}
use Rattle.wire.specs.declared.refusal.Refusal.{Refusal}
use Rattle.listing.specs.Changes.{which_said, changes_told, ComparedRight}
use Rattle.listing.specs.declared.changes.ChangesRefusal.{ChangesRefusal}
use Rattle.listing.specs.declared.changes.ChangesRefusal.TheVariants.{First, Second, Room}

-- ---- an answer whose error was put into another
abbrev pub Mapped : {A E D : Type 0} → (E → D) → Result A E → Result A D → Type 0
Mapped f r q = MatchResult r (λ x. q ≡ Ok x) (λ e. IsErrAnd q (λ d. d ≡ f e))

pub mapped_ok : {A E D : Type 0} (f : E → D) (r : Result A E) {q : Result A D} {x : A} → Mapped f r q → q ≡ Ok x → r ≡ Ok x
mapped_ok f (Ok y) h is = cc
mapped_ok f (Err e) h is = absurd (subst (λ t. IsErrAnd t (λ d. d ≡ f e)) is h)

pub mapped_err : {A E D : Type 0} (f : E → D) (r : Result A E) {q : Result A D} {d : D} → Mapped f r q → q ≡ Err d → (e : E) × (r ≡ Err e) × (d ≡ f e)
mapped_err f (Ok y) h is = cc
mapped_err f (Err e) h is = (e, refl, subst (λ t. IsErrAnd t (λ d. d ≡ f e)) is h)

-- the refusal of the room says what it says, and is of neither listing
room_which : (w : Result ℕ Refusal) (q : Result ℕ ChangesRefusal) → Mapped Room w q → which_said q ≡ 0
room_which (Ok n) q m = ap which_said m
room_which (Err e) q m = let p = err_from_is_err_and q m in ap which_said (p.1 ∙ ap Err p.2)

room_told : (w : Result ℕ Refusal) (q : Result ℕ ChangesRefusal) → Mapped Room w q → changes_told q ≡ told w
room_told (Ok n) q m = ap changes_told m
room_told (Err e) q m = let p = err_from_is_err_and q m in ap changes_told (p.1 ∙ ap Err p.2)

-- ---- the answers of the call
module _ (f g : SubFunction) (s t room : List ℕ) where
  pub first_said : {e : Refusal} → refused (row e) ≡ read_for_changes f s → ComparedRight (compared f s g t room) (Err (First e)) room
  first_said h = rw (first-refused f g s t room (sym h)) (record { which = refl; answer = refl; contents = refl })

  module _ {x : Listing} (first : accepted x ≡ read_for_changes f s) where
    pub second-said : {e : Refusal} → refused (row e) ≡ read_for_changes g t → ComparedRight (compared f s g t room) (Err (Second e)) room
    second-said h = rw (second-refused f g s t room (sym first) (sym h)) (record { which = refl; answer = refl; contents = refl })

    pub both-said : {y : Listing} → accepted y ≡ read_for_changes g t → (w : Result ℕ Refusal) {after : List ℕ} → Wrote (accepted (entries_bytes (changes x.records y.records))) room w after
        → {q : Result ℕ ChangesRefusal} → Mapped Room w q → ComparedRight (compared f s g t room) q after
    both-said h w wrote mapped = rw (both-good f g s t room (sym first) (sym h)) (record { which = room_which w _ mapped; answer = room_told w _ mapped ∙ wrote.answer; contents = wrote.contents })
