-- What a comparison of two listings answers is what is printed of them; in room for 8,192 entries none is left out.
-- Assumes nothing.
use mathlib.Core.Path.{◌≡◌, refl, sym, ap}
use Prim.Native.Nat.{ℕ, ◌+◌, ◌*◌, ◌/◌, ◌≤◌, ◌<◌}
use mathlib.Core.Bool.{Bool, true, false}
use mathlib.Core.List.{List, ◌++◌}
use native.Mathlib.Omega.{arith}
use borrow.Author.Tests.{le-leb, lt-leb}
use lib.Dec.{leb}
use lib.ListN.{length, drop, length-append}
use Rattle.std.specs.Prelude.{Result, Ok, Err}
use Rattle.paper.specs.Choice.{pick, both}
use Rattle.paper.specs.Answer.{Refusal, Answer, accepted, refused, over, written}
use Rattle.paper.specs.ReadingProgram.{too_long, text_of}
use Rattle.paper.specs.Listing.{SubFunction, Listed, Listing}
use Rattle.paper.specs.Changes.{entries_bytes, of_first, of_second, entries_of, changes, read_for_changes, changes_in, refused_listing, compared}
use Rattle.paper.specs.ListingProgram.{sub_function_said}
use Rattle.paper.specs.ChangesProgram.{compared_text, changes_printed}
use Rattle.paper.proofs.Choice.{never}
use Rattle.paper.proofs.Listing.{accepted-is}
use Rattle.paper.proofs.Changes.{length_entries, of_few, one-of-first, one-of-second, accepted_once}
use Rattle.wire.specs.Refusals.{row}
use Rattle.listing.specs.Changes.{which_said, changes_told, ComparedRight}
use Rattle.listing.specs.declared.changes.ChangesRefusal.{ChangesRefusal}
use Rattle.listing.specs.declared.changes.ChangesRefusal.TheVariants.{First, Second, Room}
use Rattle.changes_text.specs.Entries.{changes_said, refused_said}
use Rattle.changes_text.proofs.Lines.{changes_back}

-- ---- how much is listed
-- a listing that can be compared has at most 4,096 records
abbrev Few : Answer Listing → Type 0
Few (accepted l) = length l.records ≤ 4096
Few (refused e) = Unit {0}

few : (f : SubFunction) (s : List ℕ) → Few (read_for_changes f s)
few f s = by (read_for_changes f s) refl
  where
    by : (a : Answer Listing) → read_for_changes f s ≡ a → Few a
    by (accepted l) e = (accepted-is f s ((accepted_once f s l).0 e).0).1
    by (refused r) e = tt

-- at most one entry of each record
entries-few : (xs ys : List Listed) → length (changes xs ys) ≤ length xs + length ys
unfolding changes
entries-few xs ys =
    omega (arith, length-append (entries_of of_first ys xs) (entries_of of_second xs ys), of_few of_first ys one-of-first xs, of_few of_second xs one-of-second ys)

-- ---- what is said of an answer
-- bytes were written: they are n / 6 entries, all there, and what is said of them is printed; or it is the refusal that is
abbrev pub Said : (a b : Answer Listing) → Result ℕ ChangesRefusal → (after : List ℕ) → Type 0
Said a b (Ok n) after = (n / 6 ≤ 8192) × (6 * (n / 6) ≤ length after) × (changes_said (n / 6) after ≡ compared_text a b)
Said a b (Err e) after = refused_said e ≡ compared_text a b

-- the entries are written, and found again
listed : (x y : Listing) (n : ℕ) (old : List ℕ) {after : List ℕ} → length x.records ≤ 4096 → length y.records ≤ 4096 → 49152 ≤ length old
    → accepted n ≡ (written (changes_in (accepted x) (accepted y)) old).answer → after ≡ (written (changes_in (accepted x) (accepted y)) old).contents
    → Said (accepted x) (accepted y) (Ok n) after
unfolding over
listed x y n old {after} k l room e h =
    let es = changes x.records y.records in
    let long = length_entries es in
    let fits : length (entries_bytes es) ≤ length old = omega (arith, entries-few x.records y.records) in
    let many : accepted n ≡ accepted (length (entries_bytes es)) = rw (le-leb _ _ fits) at e in
    let is : after ≡ entries_bytes es ++ drop (length (entries_bytes es)) old = rw (le-leb _ _ fits) at h in
    let six : n ≡ length (entries_bytes es) = cc in
    let sixth : n / 6 ≡ length es = omega arith in (
      omega (arith, entries-few x.records y.records),
      omega (arith, ap length is, length-append (entries_bytes es) (drop (length (entries_bytes es)) old)),
      rw (sixth, is) (changes_back es (drop (length (entries_bytes es)) old)),
    )

-- there is room for them
no_seven : (x y : Listing) (r : Refusal) (old : List ℕ) → length x.records ≤ 4096 → length y.records ≤ 4096 → 49152 ≤ length old
    → refused r ≡ (written (changes_in (accepted x) (accepted y)) old).answer → ⊥
no_seven x y r old k l room e =
    let es = changes x.records y.records in
    let fits : length (entries_bytes es) ≤ length old = omega (arith, length_entries es, entries-few x.records y.records) in
    never (rw (le-leb _ _ fits) at e)

said : (a b : Answer Listing) → Few a → Few b → (r : Result ℕ ChangesRefusal) (old : List ℕ) {after : List ℕ} → 49152 ≤ length old
    → which_said r ≡ refused_listing a b → changes_told r ≡ (written (changes_in a b) old).answer → after ≡ (written (changes_in a b) old).contents → Said a b r after
said (refused r) b k l (Ok n) old room i e h = absurd (never (sym e))
said (refused r) b k l (Err (First x)) old room i e h = let same : row x ≡ r = cc in rw same refl
said (refused r) b k l (Err (Second x)) old room i e h = absurd (omega (arith, i))
said (refused r) b k l (Err (Room x)) old room i e h = absurd (omega (arith, i))
said (accepted x) (refused r) k l (Ok n) old room i e h = absurd (never (sym e))
said (accepted x) (refused r) k l (Err (First y)) old room i e h = absurd (omega (arith, i))
said (accepted x) (refused r) k l (Err (Second y)) old room i e h = let same : row y ≡ r = cc in rw same refl
said (accepted x) (refused r) k l (Err (Room y)) old room i e h = absurd (omega (arith, i))
said (accepted x) (accepted y) k l (Ok n) old room i e h = listed x y n old k l room e h
said (accepted x) (accepted y) k l (Err (First z)) old room i e h = absurd (omega (arith, i))
said (accepted x) (accepted y) k l (Err (Second z)) old room i e h = absurd (omega (arith, i))
said (accepted x) (accepted y) k l (Err (Room z)) old room i e h = absurd (no_seven x y (row z) old k l room e)

-- of any two files
pub compared-said : (f g : SubFunction) (s t old : List ℕ) (r : Result ℕ ChangesRefusal) {after : List ℕ} → 49152 ≤ length old → ComparedRight (compared f s g t old) r after
    → Said (read_for_changes f s) (read_for_changes g t) r after
unfolding compared
compared-said f g s t old r room c = said (read_for_changes f s) (read_for_changes g t) (few f s) (few g t) r old room c.which c.answer c.contents

-- ---- all that is printed
module _ (s t : List ℕ) where
  pub first-long : 65536 < length s → text_of too_long ≡ changes_printed s t
  unfolding changes_printed
  first-long h = rw (lt-leb _ _ h)

  pub second-long : 65536 < length t → text_of too_long ≡ changes_printed s t
  unfolding changes_printed
  second-long h = rw (lt-leb _ _ h) (by (leb (length s) 65536))
    where
      by : (ok : Bool) → text_of too_long ≡ pick (both ok false) (compared_text (read_for_changes (sub_function_said s) s) (read_for_changes (sub_function_said t) t)) (text_of too_long)
      by true = refl
      by false = refl

  pub not_long : length s ≤ 65536 → length t ≤ 65536 → compared_text (read_for_changes (sub_function_said s) s) (read_for_changes (sub_function_said t) t) ≡ changes_printed s t
  unfolding changes_printed
  not_long h k = rw (le-leb _ _ h, le-leb _ _ k)
