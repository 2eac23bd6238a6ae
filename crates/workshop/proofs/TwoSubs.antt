-- The comparison behind the door for changes, by whether the sub-functions are known; and the record of what it says.
-- Assumes nothing.
use Prim.Native.Nat.{ℕ}
use mathlib.Core.Path.{◌≡◌, refl, sym, ap, ap₂, ◌∙◌}
use mathlib.Core.List.{List}
use Rattle.std.specs.Prelude.{Result, Ok, Err}
use Rattle.paper.specs.Answer.{Answer, accepted, refused}
use Rattle.paper.specs.Listing.{SubFunction, Listing, read_listing, Head, head_of}
use Rattle.paper.specs.Changes.{without_repeats, read_for_changes, compared_in, compared, Compared}
use Rattle.paper.proofs.Choice.{never}
use Rattle.wire.specs.Refusals.{row}
use Rattle.wire.specs.declared.refusal.Refusal.{Refusal}
use Rattle.listing.specs.Changes.{which_said, changes_told, ComparedRight}
use Rattle.listing.specs.declared.changes.ChangesRefusal.{ChangesRefusal}
use Rattle.station.specs.Flat.{RecordOf}
use Rattle.workshop.specs.Changes.{changes_record, ComparedRecord}
use Rattle.workshop.specs.declared.changes.ChangesRecord.{ChangesRecord}

-- the first listing is refused
pub first_refused : (a b : Answer Listing) (room : List ℕ) {e : Refusal} → refused (row e) ≡ head_of a → ComparedRight (compared_in a b room) (Err (ChangesRefusal.First e)) room
first_refused (accepted l) b room h = absurd (never h)
first_refused (refused x) b room {e} h = let same : row e ≡ x = cc in record { which = refl; answer = rw same refl; contents = refl }

-- the first one is good, the second one is refused
pub second_refused : (a b : Answer Listing) (room : List ℕ) {h : Head} {e : Refusal} → accepted h ≡ head_of a → b ≡ refused (row e) → ComparedRight (compared_in a b room) (Err (ChangesRefusal.Second e)) room
second_refused (accepted l) b room h is = rw is (record { which = refl; answer = refl; contents = refl })
second_refused (refused x) b room h is = absurd (never (sym h))

-- what is read of a listing whose sub-function is known, in which no code stands twice
pub once_handed : (f : SubFunction) (s : List ℕ) {a : Answer Listing} → a ≡ read_listing f s → head_of (read_for_changes f s) ≡ head_of (without_repeats a)
unfolding read_for_changes
once_handed f s is = ap (λ (l : Answer Listing). head_of (without_repeats l)) (sym is)

-- both sub-functions are known
pub both_known : (f g : SubFunction) (s t room : List ℕ) {a b : Answer Listing} {r : Result ℕ ChangesRefusal} {after : List ℕ}
    → a ≡ read_listing f s → b ≡ read_listing g t → ComparedRight (compared f s g t room) r after → ComparedRight (compared_in (without_repeats a) (without_repeats b) room) r after
unfolding read_for_changes compared
both_known f g s t room first second right = rw (first, second) right

-- ---- the record
pub changes_flat : {x : Compared} {after : List ℕ} {r : ChangesRecord} (a : Result ℕ ChangesRefusal) → ComparedRight x a after
    → RecordOf (λ n r. r ≡ changes_record (which_said (Ok n)) (changes_told (Ok n))) (λ e r. r ≡ changes_record (which_said (Err e)) (changes_told (Err e))) a r → ComparedRecord x r after
changes_flat (Ok n) right is = (is ∙ ap₂ changes_record right.which right.answer, right.contents)
changes_flat (Err e) right is = (is ∙ ap₂ changes_record right.which right.answer, right.contents)
