-- A turn of each loop over a listing's records: one record more in the index, and one step of a search.
-- Assumes nothing.
use mathlib.Core.Path.{◌≡◌, refl, sym, ap, ap₂, ◌∙◌}
use Prim.Native.Nat.{ℕ, ◌+◌, ◌-◌, ◌≤◌, ◌<◌}
use mathlib.Core.Bool.{Bool, true, false, ◌&&◌}
use mathlib.Core.List.{List, [], ◌∷◌, ◌++◌}
use mathlib.Core.Option.{some}
use native.Mathlib.Numerals.{add-one}
use native.Mathlib.Omega.{arith}
use borrow.Author.Tests.{eq-eqb, ne_eqb}
use lib.ListN.{get_or, get_elem?, set, drop, replicate}
use lib.Dec.{eqb}
use lib.Pointwise.{pointwise}
use Rattle.paper.specs.Choice.{both}
use Rattle.paper.specs.Answer.{accepted}
use Rattle.paper.specs.TroubleCode.{TroubleCode}
use Rattle.paper.specs.Listing.{SubFunction, Listed, one_by_one, records_in, how_many, first_with, Index, index_of, own_index, has_code, find}
use Rattle.paper.proofs.Listing.{length_records, record_there, records-more}
use Rattle.paper.proofs.ListingIndex.{own_accepted, own_only, no_counts, no_firsts, counted-more, new_first, old_first, count_small, count_at, first_at, Searching, search_starts, search_within, search_found, search_less, search_on}
use Rattle.dtc.specs.Status.{same_code}
use Rattle.listing.specs.Listing.{records_of, record_here}
use Rattle.std.specs.Prelude.{Option, Some, None}
use Rattle.std.specs.Option.{ok_or}
use Rattle.std.specs.Bool.{Decides}
use Rattle.std.proofs.lemmas.Bool.Decides.{Decides-eqb}
use Rattle.std.proofs.lemmas.Slice.Eq.{slice_eq-Decides}
use Rattle.wire.specs.declared.refusal.Refusal.{Refusal}
use Rattle.listing.specs.declared.Listed as listing
use Rattle.listing.specs.Index.{index_said, numbers_in, found_said, look_said}
use Rattle.listing.specs.Searchable.{searched}
use Rattle.listing.specs.declared.searchable.Searchable.{Searchable}

-- ---- the index
-- before the first record: all zeros
pub none-counted : (f : SubFunction) (s : List ℕ) → replicate 256 0 ≡ (index_of (records_of f 0 s)).counts
unfolding one_by_one records_in
none-counted f s = sym no_counts

pub none_first : (f : SubFunction) (s : List ℕ) → replicate 256 0 ≡ (index_of (records_of f 0 s)).firsts
unfolding one_by_one records_in
none_first f s = sym no_firsts

more : (f : SubFunction) (s : List ℕ) (k : ℕ) → records_of f (k + 1) s ≡ records_of f k s ++ (record_here f s k ∷ [])
more f s k = ap (λ (j : ℕ). records_in f j (drop 3 s)) (add-one k) ∙ records-more f k (drop 3 s)

module _ (f : SubFunction) (s : List ℕ) (k h : ℕ) (cs : List ℕ) (is : h ≡ (record_here f s k).code.high) (small : h < 256) (counts : cs ≡ (index_of (records_of f k s)).counts) where
  below : (record_here f s k).code.high < 256
  below = rw (← is) small

  -- no count is larger than the number of records so far
  pub counted : get_or cs h 0 ≤ k
  counted = rw counts (omega (arith, count_small (records_of f k s) h small, length_records f k (drop 3 s)))

  pub counts_turn : set cs h (get_or cs h 0 + 1) ≡ (index_of (records_of f (k + 1) s)).counts
  counts_turn = rw (counts, is, more f s k) (counted-more (records_of f k s) (record_here f s k) below)

  -- the place is stored where no record before it had the high byte
  pub new_turn : {fs new : List ℕ} → fs ≡ (index_of (records_of f k s)).firsts → get_or cs h 0 ≡ 0 → new ≡ set fs h k → new ≡ (index_of (records_of f (k + 1) s)).firsts
  new_turn firsts z e =
      let none : get_or (index_of (records_of f k s)).counts (record_here f s k).code.high 0 ≡ 0 = rw (counts, is) at z in
      e ∙ rw (firsts, is, more f s k) (ap (set (index_of (records_of f k s)).firsts (record_here f s k).code.high) (sym (length_records f k (drop 3 s))) ∙ new_first (records_of f k s) (record_here f s k) below none)

  pub old_turn : {fs new : List ℕ} → fs ≡ (index_of (records_of f k s)).firsts → (get_or cs h 0 ≡ 0 → ⊥) → new ≡ fs → new ≡ (index_of (records_of f (k + 1) s)).firsts
  old_turn firsts z e =
      let some : get_or (index_of (records_of f k s)).counts (record_here f s k).code.high 0 ≡ 0 → ⊥ = rw (counts, is) at z in
      e ∙ rw (firsts, more f s k) (old_first (records_of f k s) (record_here f s k) below some)

-- all records were counted
pub all-counted : (f : SubFunction) (s : List ℕ) {cs fs : List ℕ} {k n : ℕ} → k ≤ n → n ≤ k → cs ≡ (index_of (records_of f k s)).counts → fs ≡ (index_of (records_of f k s)).firsts → numbers_in cs fs ≡ index_of (records_of f n s)
all-counted f s {k = k} {n} l g p q = let same : n ≡ k = omega arith in rw same (ap₂ numbers_in p q)

-- ---- the own index
-- what `==` tells of two lists of numbers
pub same_lists : (xs ys : List ℕ) → Decides (pointwise eqb xs ys) (xs ≡ ys)
same_lists xs ys = slice_eq-Decides Decides-eqb xs ys _ refl

-- it is accepted, and no other index is
pub own_decided : (rs : List Listed) (cs fs : List ℕ) → Decides (own_index rs (numbers_in cs fs)) (numbers_in cs fs ≡ index_of rs)
own_decided rs cs fs = (own_only rs _, λ e. ap (own_index rs) e ∙ own_accepted rs)

-- the numbers that are accepted are those of the index that is searched by
pub own_numbers : (x : Searchable) (cs fs : List ℕ) → own_index (searched x) (numbers_in cs fs) ≡ true → numbers_in cs fs ≡ index_said x.index
own_numbers x cs fs e = (own_decided (searched x) cs fs).0 e ∙ sym x.own

module _ (rs : List Listed) (cs fs : List ℕ) (own : numbers_in cs fs ≡ index_of rs) where
  pub own_count : {h high : ℕ} → h < 256 → h ≡ high → get_or cs h 0 ≡ how_many rs high
  own_count {h} small e = ap (λ (x : Index). get_or x.counts h 0) own ∙ count_at rs h small ∙ ap (how_many rs) e

  pub own_first : {h high : ℕ} → h < 256 → h ≡ high → get_or fs h 0 ≡ first_with rs high
  own_first {h} small e = ap (λ (x : Index). get_or x.firsts h 0) own ∙ first_at rs h small ∙ ap (first_with rs) e

-- ---- the search
-- two codes are compared as `==` does it
three : (x y z : Bool) → both x (both y z) ≡ x && (y && z)
three true true z = refl
three true false z = refl
three false y z = refl

pub code_same : (a b : TroubleCode) {same : Bool} → same ≡ eqb a.high b.high && (eqb a.middle b.middle && eqb a.low b.low) → same_code a b ≡ same
code_same a b is = three (eqb a.high b.high) (eqb a.middle b.middle) (eqb a.low b.low) ∙ sym is

-- it starts where the index says
pub started : (f : SubFunction) (s : List ℕ) (n : ℕ) (c : TroubleCode) {x : Index} {h : ℕ} → x ≡ index_of (records_of f n s) → h < 256 → h ≡ c.high
    → Searching c (records_of f n s) (get_or x.firsts h 0) (get_or x.counts h 0)
started f s n c own small is = rw (own_first (records_of f n s) _ _ own small is, own_count (records_of f n s) _ _ own small is) (search_starts c (records_of f n s))

module _ (f : SubFunction) (s : List ℕ) (n : ℕ) (c : TroubleCode) (k left : ℕ) (now : Searching c (records_of f n s) k left) (some_left : 0 < left) where
  -- some are left, so that there is a record here
  pub here_is : k < n
  here_is = omega (arith, search_within c (records_of f n s) k left now some_left, length_records f n (drop 3 s))

  module _ (r : Listed) (is : r ≡ record_here f s k) where
    stands : get_elem? (records_of f n s) k ≡ some r
    stands = rw is (record_there f n k (drop 3 s) here_is)

    -- the code that was asked for
    pub found_here : same_code r.code c ≡ true → accepted (record { place = k; «record» = r }) ≡ find 0 c (records_of f n s)
    unfolding has_code
    found_here e = sym (search_found c (records_of f n s) k left now r stands e)

    -- another, with the high byte
    pub used_up : same_code r.code c ≡ false → {a b : ℕ} → a ≡ r.code.high → b ≡ c.high → a ≡ b → Searching c (records_of f n s) (k + 1) (left - 1)
    unfolding has_code
    used_up e p q same = rw (add-one k) (search_less c (records_of f n s) k left now r stands (eq-eqb _ _ (sym p ∙ same ∙ q)) e)

    -- and with another one
    pub passed_over : {a b : ℕ} → a ≡ r.code.high → b ≡ c.high → (a ≡ b → ⊥) → Searching c (records_of f n s) (k + 1) left
    passed_over p q other = rw (add-one k) (search_on c (records_of f n s) k left now r stands (ne_eqb _ _ (λ same. other (p ∙ same ∙ sym q))))

-- where none was found, it is 16
pub looked : (found : Option (ℕ × listing.Listed)) → look_said (ok_or found Refusal.NoSuchCode) ≡ found_said found
looked (Some x) = refl
looked None = refl
