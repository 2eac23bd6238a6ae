-- What the comparison of two listings cites: when two records are the same, what is listed of one, and a turn of each of its loops.
-- Assumes nothing.
use mathlib.Core.Path.{◌≡◌, refl, sym, ap, ◌∙◌}
use Prim.Native.Nat.{ℕ, ◌+◌, ◌*◌, ◌≤◌, ◌<◌}
use mathlib.Core.Bool.{Bool, true, false, ◌&&◌}
use mathlib.Core.List.{List, [], ◌∷◌, ◌++◌}
use mathlib.Core.Option.{some}
use native.Mathlib.Numerals.{add-one}
use native.Mathlib.Omega.{arith}
use lib.ListN.{length, get_elem?, take, drop, length-append}
use lib.Seq.{take_all}
use lib.Dec.{ltb}
use Rattle.std.proofs.lemmas.List.{append-nil}
use Rattle.paper.specs.Choice.{both}
use Rattle.paper.specs.Answer.{Refusal, repeated, Answer, accepted, refused}
use Rattle.paper.specs.Tally.{count}
use Rattle.paper.specs.Listing.{SubFunction, Listed, listing, read_listing, has_code, Found, find}
use Rattle.paper.specs.Changes.{Entry, gone, differs, added, entry_bytes, entries_bytes, of_first, of_second, entries_of, changes, first_repeated, read_for_changes}
use Rattle.paper.proofs.Listing.{length_records, record_there}
use Rattle.paper.proofs.Repeats.{stood_found, stood_none, Repeating, repeating_ends, repeating_found, repeating_on}
use Rattle.paper.proofs.Changes.{length_entries, entries_append, of_more, of_fewer, of_few, one-of-first, one-of-second, read-repeated, read_once}
use Rattle.wire.specs.Writing.{Filled}
use Rattle.wire.proofs.Over.{rest, back, over_length, filled_none, filled_more, filled_as}
use Rattle.listing.specs.Listing.{records_of, record_here}
use Rattle.listing.specs.Changes.{of_half, entry_of, half_bytes}
use Rattle.listing.specs.declared.changes.Half.{Half}
use Rattle.listing.specs.declared.changes.Half.TheVariants.{First, Second}

-- ---- four tests, as `==` of tuples has them, two of them of masks, and as the paper has them
pub all_four : (w x y z : Bool) → (((w && true) && x) && (y && true)) && z ≡ both w (both x (both y z))
all_four true true true z = refl
all_four true true false z = refl
all_four true false y z = refl
all_four false x y z = refl

-- ---- what is listed of a record
pub one_entry : (e : Entry) → entry_bytes e ≡ entries_bytes (e ∷ [])
unfolding entries_bytes
one_entry e = sym (append-nil (entry_bytes e))

pub six_bytes : (e : Entry) → 6 ≡ length (entries_bytes (e ∷ []))
six_bytes e = rw (← one_entry e) (by e)
  where
    by : (x : Entry) → 6 ≡ length (entry_bytes x)
    by (gone c old) = refl
    by (differs c old new) = refl
    by (added c new) = refl

pub no_entry : [] ≡ entries_bytes []
unfolding entries_bytes
no_entry = refl

pub entry-is : (half : Half) (qs : List Listed) {r x : Listed} {a : Answer Found} {es : List Entry} → es ≡ of_half half r a → r ≡ x → a ≡ find 0 r.code qs → entries_bytes es ≡ entry_of half qs x
entry-is half qs said is found = rw (said, found, ← is)

-- ---- the search for a code that stood before
module _ (f : SubFunction) (s : List ℕ) (n k : ℕ) where
  pub stood_so : {r : Listed} {x : Found} → r ≡ record_here f s k → accepted x ≡ find 0 r.code (records_of f n s) → ltb x.place k ≡ ltb 0 (count (has_code (record_here f s k).code) (take k (records_of f n s)))
  stood_so is e = rw (← is) (stood_found _ k (records_of f n s) (sym e))

  pub stood_not : {r : Listed} {e : Refusal} → r ≡ record_here f s k → refused e ≡ find 0 r.code (records_of f n s) → false ≡ ltb 0 (count (has_code (record_here f s k).code) (take k (records_of f n s)))
  stood_not is e = rw (← is) (stood_none _ k (records_of f n s) (sym e))

  module _ (now : Repeating (records_of f n s) k) where
    pub repeat_ends : n ≤ k → k ≤ n → first_repeated (records_of f n s) ≡ n
    repeat_ends l g = let all : k ≡ n = omega arith in rw all at (repeating_ends (records_of f n s) k now (omega (arith, length_records f n (drop 3 s))))

    module _ (below : k < n) where
      here : get_elem? (records_of f n s) k ≡ some (record_here f s k)
      here = record_there f n k (drop 3 s) below

      pub repeat_found : ltb 0 (count (has_code (record_here f s k).code) (take k (records_of f n s))) ≡ true → first_repeated (records_of f n s) ≡ k
      repeat_found e = repeating_found (records_of f n s) k now _ here e

      pub repeat_on : ltb 0 (count (has_code (record_here f s k).code) (take k (records_of f n s))) ≡ false → Repeating (records_of f n s) (k + 1)
      repeat_on e = rw (add-one k) (repeating_on (records_of f n s) k now _ here e)

-- ---- what is listed of the first k records of one listing, against the other
module _ (half : Half) (qs : List Listed) where
  one-of-half : (r : Listed) (a : Answer Found) → length (of_half half r a) ≤ 1
  one-of-half = by half
    where
      by : (h : Half) (r : Listed) (a : Answer Found) → length (of_half h r a) ≤ 1
      by First = one-of-first
      by Second = one-of-second

  -- six bytes at most of each
  pub half-few : (rs : List Listed) → length (half_bytes half qs rs) ≤ 6 * length rs
  unfolding half_bytes
  half-few rs = omega (arith, length_entries (entries_of (of_half half) qs rs), of_few (of_half half) qs one-of-half rs)

  -- no more of the first k than of all
  pub half_fewer : (rs : List Listed) (k : ℕ) → length (half_bytes half qs (take k rs)) ≤ length (half_bytes half qs rs)
  unfolding half_bytes
  half_fewer rs k = omega (arith, length_entries (entries_of (of_half half) qs rs), length_entries (entries_of (of_half half) qs (take k rs)), of_fewer (of_half half) qs rs k)

-- of none
none_yet : (half : Half) (qs : List Listed) → [] ≡ half_bytes half qs []
unfolding half_bytes entries_of entries_bytes
none_yet half qs = refl

pub len_starts : (half : Half) (qs : List Listed) → 0 ≡ length (half_bytes half qs [])
len_starts half qs = ap length (none_yet half qs)

pub put-starts : (half : Half) (qs : List Listed) {old : List ℕ} → Filled (half_bytes half qs []) old old
put-starts half qs = filled_as (none_yet half qs) filled_none

-- of the first k of the n records of a listing
abbrev pub up_to : Half → List Listed → SubFunction → List ℕ → ℕ → ℕ → List ℕ
up_to half qs f s n k = half_bytes half qs (take k (records_of f n s))

module _ (half : Half) (qs : List Listed) (f : SubFunction) (s : List ℕ) (n : ℕ) where
  -- all of them
  pub all_of : {k : ℕ} → n ≤ k → up_to half qs f s n k ≡ half_bytes half qs (records_of f n s)
  all_of {k} l = ap (half_bytes half qs) (take_all k (records_of f n s) (omega (arith, length_records f n (drop 3 s))))

  -- no more than of all
  pub within : (k : ℕ) → length (up_to half qs f s n k) ≤ length (half_bytes half qs (records_of f n s))
  within k = half_fewer half qs (records_of f n s) k

  pub few_of : length (half_bytes half qs (records_of f n s)) ≤ 6 * n
  few_of = omega (arith, half-few half qs (records_of f n s), length_records f n (drop 3 s))

  -- one record more
  module _ (k : ℕ) (below : k < n) {bytes : List ℕ} (is : bytes ≡ entry_of half qs (record_here f s k)) where
    more : up_to half qs f s n k ++ bytes ≡ up_to half qs f s n (k + 1)
    unfolding half_bytes
    more =
        let of = of_half half in
        sym (ap (λ (j : ℕ). up_to half qs f s n j) (add-one k) ∙ ap entries_bytes (of_more of qs (records_of f n s) k (record_there f n k (drop 3 s) below)) ∙ entries_append (entries_of of qs (take k (records_of f n s))) _ ∙ ap (λ (b : List ℕ). up_to half qs f s n k ++ b) (sym is))

    pub len_more : {len size : ℕ} → len ≡ length (up_to half qs f s n k) → size ≡ length bytes → len + size ≡ length (up_to half qs f s n (k + 1))
    len_more p q = omega (arith, length-append (up_to half qs f s n k) bytes, ap length more)

    pub put-more : {old xs ys : List ℕ} (at : ℕ) → at ≡ length (up_to half qs f s n k) → Filled (up_to half qs f s n k) old xs → Filled bytes (rest at xs) ys → Filled (up_to half qs f s n (k + 1)) old (back at xs ys)
    put-more {ys = ys} at e before now = filled_as more (filled_more {ys = ys} at before now (sym e))

  -- the room is as long as it was
  pub same-room : (k : ℕ) {old xs : List ℕ} → length (half_bytes half qs (records_of f n s)) ≤ length old → Filled (up_to half qs f s n k) old xs → length xs ≡ length old
  same-room k {old} h filled =
      let short : length (up_to half qs f s n k) ≤ length old = omega (arith, within k) in
      ap length (filled.given_room short) ∙ over_length (up_to half qs f s n k) old short

  -- the next entry begins within it
  pub begins-within : (k : ℕ) {at : ℕ} {old xs : List ℕ} → length (half_bytes half qs (records_of f n s)) ≤ length old → at ≡ length (up_to half qs f s n k) → Filled (up_to half qs f s n k) old xs → at ≤ length xs
  begins-within k h e filled = omega (arith, within k, same-room k h filled)

-- ---- both halves
pub both_halves : (rs qs : List Listed) → half_bytes First qs rs ++ half_bytes Second rs qs ≡ entries_bytes (changes rs qs)
unfolding half_bytes changes
both_halves rs qs = sym (entries_append (entries_of of_first qs rs) (entries_of of_second rs qs))

pub both-lengths : (rs qs : List Listed) {a b : ℕ} → a ≡ length (half_bytes First qs rs) → b ≡ length (half_bytes Second rs qs) → length (entries_bytes (changes rs qs)) ≡ a + b
both-lengths rs qs p q = omega (arith, length-append (half_bytes First qs rs) (half_bytes Second rs qs), ap length (both_halves rs qs))

-- ---- reading, and then 17
module _ (f : SubFunction) (s : List ℕ) (g : SubFunction) (n : ℕ) (t : List ℕ) {h : SubFunction} {m : ℕ} (read : accepted (listing h m (records_of g n t)) ≡ read_listing f s) where
  many : length (records_of g n t) ≡ n
  many = length_records g n (drop 3 t)

  -- a code stands twice
  pub repeats : {place : ℕ} → first_repeated (records_of g n t) ≡ place → place < n → refused (repeated place) ≡ read_for_changes f s
  repeats is below = rw (← is) (sym (read-repeated f s (sym read) (rw (is, many) below)))

  -- none does
  pub repeats_not : first_repeated (records_of g n t) ≡ n → accepted (listing h m (records_of g n t)) ≡ read_for_changes f s
  repeats_not is = sym (read_once f s (sym read) (is ∙ sym many))
