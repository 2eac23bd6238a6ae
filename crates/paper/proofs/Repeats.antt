-- Document 02, Req 11: 17 tells the first record whose code stood before it, and a search for the code by an index tells whether it did.
-- Assumes nothing.
use mathlib.Core.Path.{◌≡◌, refl, sym, ap, ◌∙◌}
use Prim.Native.Nat.{ℕ, zero, suc, ◌+◌, ◌≤◌, ◌<◌}
use mathlib.Core.Bool.{Bool, true, false, true≢false}
use mathlib.Core.List.{List, [], ◌∷◌, ◌++◌, append_assoc, append-nil}
use mathlib.Core.Logic.{◌↔◌, ⊎_elim}
use mathlib.Core.Option.{some}
use native.Mathlib.Nat.{zero-add, add-zero, not-suc-le-zero, le_of_suc-le-suc}
use native.Mathlib.Omega.{arith}
use lib.ListN.{length, get_elem?, take, drop, drop_of_length-le}
use lib.Dec.{ltb}
use borrow.Author.Tests.{ltb-true, lt-ltb, le-ltb}
use Rattle.paper.specs.Choice.{pick}
use Rattle.paper.specs.Answer.{Refusal, Answer, accepted, refused}
use Rattle.paper.specs.TroubleCode.{TroubleCode}
use Rattle.paper.specs.Tally.{count}
use Rattle.paper.specs.Listing.{Listed, has_code, Found, find, NoneHas}
use Rattle.paper.specs.Changes.{NoRepeats, repeated_after, first_repeated, FirstRepeat}
use Rattle.paper.proofs.Choice.{cut}
use Rattle.paper.proofs.ListingIndex.{finds_first, finds_none, no-other-refusal}
use Rattle.paper.proofs.InOrder.{nothing, there_below, take_there, drop_there}

-- ---- one code, one place
pub one_place : (rs : List Listed) → NoRepeats rs → (i j : ℕ) {r q : Listed} → get_elem? rs i ≡ some r → get_elem? rs j ≡ some q → r.code ≡ q.code → i ≡ j
one_place rs h i j {r} {q} p w e = ⊎_elim (λ l. absurd (h i j r q l p w e)) (λ g. ⊎_elim (λ l. absurd (h j i q r l w p (sym e))) (λ l. omega arith) (cut j i)) (cut i j)

pub one_record : (rs : List Listed) → NoRepeats rs → (i j : ℕ) {r q : Listed} → get_elem? rs i ≡ some r → get_elem? rs j ≡ some q → r.code ≡ q.code → r ≡ q
one_record rs h i j {q = q} p w e = let same : i ≡ j = one_place rs h i j p w e in let w : get_elem? rs i ≡ some q = rw same w in cc

-- a refused search found none
pub none_there : (c : TroubleCode) (rs : List Listed) {e : Refusal} → find 0 c rs ≡ refused e → NoneHas c rs
none_there c rs h = (finds_none c rs).0 (h ∙ ap refused (no-other-refusal c rs h))

-- ---- a code that stands twice
-- the record that was found stands before place k
abbrev found_before : ℕ → Answer Found → Bool
found_before k (accepted x) = ltb x.place k
found_before k (refused e) = false

module _ (c : TroubleCode) where
  none_before : (i k : ℕ) (rs : List Listed) → i ≤ k → found_before i (find k c rs) ≡ false
  unfolding find
  none_before i k [] h = refl
  none_before i k (r ∷ rs) h = by (has_code c r) (none_before i (suc k) rs (omega arith))
    where
      by : (t : Bool) → found_before i (find (suc k) c rs) ≡ false → found_before i (pick t (accepted (record { place = k; «record» = r })) (find (suc k) c rs)) ≡ false
      by true e = le-ltb k i h
      by false e = e

  -- it does exactly if one of the first k records has the code
  found_from : (i k : ℕ) (rs : List Listed) → found_before (i + k) (find i c rs) ≡ ltb 0 (count (has_code c) (take k rs))
  unfolding find count
  found_from i zero rs = none_before (i + 0) i rs (omega arith)
  found_from i (suc k) [] = refl
  found_from i (suc k) (r ∷ rs) = by (has_code c r) (found_from (suc i) k rs)
    where
      by : (t : Bool) → found_before (suc i + k) (find (suc i) c rs) ≡ ltb 0 (count (has_code c) (take k rs))
          → found_before (i + suc k) (pick t (accepted (record { place = i; «record» = r })) (find (suc i) c rs)) ≡ ltb 0 (pick t 1 0 + count (has_code c) (take k rs))
      by true e = lt-ltb i (i + suc k) (omega arith) ∙ sym (lt-ltb 0 (1 + count (has_code c) (take k rs)) (omega arith))
      by false e = let next : i + suc k ≡ suc i + k = omega arith in rw (next, zero-add (count (has_code c) (take k rs))) e

  found_before_lem : (k : ℕ) (rs : List Listed) → found_before k (find 0 c rs) ≡ ltb 0 (count (has_code c) (take k rs))
  found_before_lem k rs = rw (zero-add k) at (found_from 0 k rs)

  pub stood_found : (k : ℕ) (rs : List Listed) {x : Found} → find 0 c rs ≡ accepted x → ltb x.place k ≡ ltb 0 (count (has_code c) (take k rs))
  stood_found k rs h = ap (found_before k) (sym h) ∙ found_before_lem k rs

  pub stood_none : (k : ℕ) (rs : List Listed) {e : Refusal} → find 0 c rs ≡ refused e → false ≡ ltb 0 (count (has_code c) (take k rs))
  stood_none k rs h = ap (found_before k) (sym h) ∙ found_before_lem k rs

  -- in places
  place_stood : (rs : List Listed) (k j : ℕ) {r : Listed} → j < k → get_elem? rs j ≡ some r → r.code ≡ c → ltb 0 (count (has_code c) (take k rs)) ≡ true
  place_stood rs k j {r} l at e = sym (found_before_lem k rs) ∙ by (find 0 c rs) refl
    where
      by : (a : Answer Found) → find 0 c rs ≡ a → found_before k a ≡ true
      by (refused d) f = absurd (none_there c rs f j r at e)
      by (accepted x) f = ⊎_elim (λ g. absurd (((finds_first c rs x).0 f).earlier j r g at e)) (λ g. lt-ltb x.place k (omega arith)) (cut j x.place)

  stood_place : (rs : List Listed) (k : ℕ) → ltb 0 (count (has_code c) (take k rs)) ≡ true → (j : ℕ) × (r : Listed) × (j < k) × (get_elem? rs j ≡ some r) × (r.code ≡ c)
  stood_place rs k t = by (find 0 c rs) refl (found_before_lem k rs ∙ t)
    where
      by : (a : Answer Found) → find 0 c rs ≡ a → found_before k a ≡ true → (j : ℕ) × (r : Listed) × (j < k) × (get_elem? rs j ≡ some r) × (r.code ≡ c)
      by (refused d) f e = absurd (true≢false (sym e))
      by (accepted x) f e = let g = (finds_first c rs x).0 f in (x.place, x.«record», ltb-true _ _ e, g.stands, g.has)

-- the code of r stands among these records
abbrev stood : Listed → List Listed → Bool
stood r before = ltb 0 (count (has_code r.code) before)

pub repeated_le : (before rs : List Listed) → repeated_after before rs ≤ length rs
unfolding repeated_after
repeated_le before [] = omega arith
repeated_le before (r ∷ rs) = by (stood r before) (repeated_le (before ++ (r ∷ [])) rs)
  where
    by : (t : Bool) → repeated_after (before ++ (r ∷ [])) rs ≤ length rs → pick t 0 (suc (repeated_after (before ++ (r ∷ [])) rs)) ≤ suc (length rs)
    by true l = omega arith
    by false l = omega arith

-- of those before it none had a code that stood before
repeated-earlier : (before rs : List Listed) (j : ℕ) (q : Listed) → j < repeated_after before rs → get_elem? rs j ≡ some q → stood q (before ++ take j rs) ≡ false
unfolding repeated_after
repeated-earlier before [] j q l at = absurd (nothing j at)
repeated-earlier before (r ∷ rs) j q l at = by j (stood r before) refl l at (repeated-earlier (before ++ (r ∷ [])) rs)
  where
    by : (j : ℕ) (t : Bool) → stood r before ≡ t → j < pick t 0 (suc (repeated_after (before ++ (r ∷ [])) rs)) → get_elem? (r ∷ rs) j ≡ some q
        → ((i : ℕ) (p : Listed) → i < repeated_after (before ++ (r ∷ [])) rs → get_elem? rs i ≡ some p → stood p ((before ++ (r ∷ [])) ++ take i rs) ≡ false)
        → stood q (before ++ take j (r ∷ rs)) ≡ false
    by j true t l at ih = absurd (not-suc-le-zero l)
    by zero false t l at ih = let same : r ≡ q = cc in rw (append-nil before, ← same) t
    by (suc j) false t l at ih = rw (append_assoc before (r ∷ []) (take j rs)) at (ih j q (le_of_suc-le-suc l) at)

-- where it is no end, it has one
abbrev Again : (before rs : List Listed) → ℕ → Type 0
Again before rs k = (q : Listed) × (get_elem? rs k ≡ some q) × (stood q (before ++ take k rs) ≡ true)

repeated-again : (before rs : List Listed) → repeated_after before rs < length rs → Again before rs (repeated_after before rs)
unfolding repeated_after
repeated-again before [] l = absurd (not-suc-le-zero l)
repeated-again before (r ∷ rs) l = by (stood r before) refl l (repeated-again (before ++ (r ∷ [])) rs)
  where
    m : ℕ
    m = repeated_after (before ++ (r ∷ [])) rs

    by : (t : Bool) → stood r before ≡ t → pick t 0 (suc m) < suc (length rs) → (m < length rs → Again (before ++ (r ∷ [])) rs m) → Again before (r ∷ rs) (pick t 0 (suc m))
    by true t l ih = (r, refl, rw (append-nil before) t)
    by false t l ih = let (q, at, e) = ih (le_of_suc-le-suc l) in (q, at, rw (append_assoc before (r ∷ []) (take m rs)) at e)

module _ (rs : List Listed) where
  -- before the place that is told no code stands twice
  once_before : (i j : ℕ) (r q : Listed) → i < j → j < first_repeated rs → get_elem? rs i ≡ some r → get_elem? rs j ≡ some q → r.code ≡ q.code → ⊥
  once_before i j r q l h p w e = true≢false (sym (place_stood q.code rs j i l p e) ∙ repeated-earlier [] rs j q h w)

  told-first : first_repeated rs < length rs → FirstRepeat rs (first_repeated rs)
  told-first l =
      let (q, at, e) = repeated-again [] rs l in
      let (j, r, h, p, s) = stood_place q.code rs (first_repeated rs) e in
      record { again = (j, r, q, h, p, at, s); earlier = once_before }

  -- as many as there are records exactly if no code stands twice
  pub repeats-none : (first_repeated rs ≡ length rs) ↔ NoRepeats rs
  repeats-none = (λ e i j r q l p w. once_before i j r q l (omega (arith, there_below rs j w)) p w, to)
    where
      to : NoRepeats rs → first_repeated rs ≡ length rs
      to h = ⊎_elim (λ l. let (j, r, q, b, p, w, s) = (told-first l).again in absurd (h j (first_repeated rs) r q b p w s)) (λ g. omega (arith, repeated_le [] rs)) (cut (first_repeated rs) (length rs))

  -- and else the place of the first record whose code stood before it
  pub repeats-first : (k : ℕ) → ((first_repeated rs ≡ k) × (k < length rs)) ↔ FirstRepeat rs k
  repeats-first k = (λ (e, l). rw e at (told-first (rw (← e) at l)), to)
    where
      to : FirstRepeat rs k → (first_repeated rs ≡ k) × (k < length rs)
      to f =
          let (j, r, q, b, p, w, s) = f.again in
          let small : k < length rs = there_below rs k w in
          (⊎_elim (λ l. absurd (once_before j k r q b l p w s)) (λ g. ⊎_elim (λ l. absurd (later l small)) (λ h. omega arith) (cut (first_repeated rs) k)) (cut k (first_repeated rs)), small)
        where
          later : first_repeated rs < k → k < length rs → ⊥
          later l small = let (i, x, y, b, p, w, s) = (told-first (omega arith)).again in f.earlier i (first_repeated rs) x y b l p w s

-- ---- the search for it, one record after the other
-- at place k of the search for a code that stood before: it is not among the first k, and what is told from here on is what is told
pub record Repeating (rs : List Listed) (k : ℕ) : Type 0 where
  pub same : k + repeated_after (take k rs) (drop k rs) ≡ first_repeated rs

pub repeating_starts : (rs : List Listed) → Repeating rs 0
repeating_starts rs = record { same = zero-add _ }

module _ (rs : List Listed) (k : ℕ) (now : Repeating rs k) where
  -- none is left
  pub repeating_ends : length rs ≤ k → first_repeated rs ≡ k
  unfolding repeated_after
  repeating_ends l = sym now.same ∙ rw (drop_of_length-le rs l) (add-zero k)

  module _ (r : Listed) (at : get_elem? rs k ≡ some r) where
    -- the code of the next record stood before it
    pub repeating_found : ltb 0 (count (has_code r.code) (take k rs)) ≡ true → first_repeated rs ≡ k
    unfolding repeated_after
    repeating_found e = sym now.same ∙ rw (drop_there rs k at, e) (add-zero k)

    -- it didn't
    pub repeating_on : ltb 0 (count (has_code r.code) (take k rs)) ≡ false → Repeating rs (suc k)
    unfolding repeated_after
    repeating_on e =
        let next : repeated_after (take k rs) (drop k rs) ≡ suc (repeated_after (take (suc k) rs) (drop (suc k) rs)) = rw (drop_there rs k at, take_there rs k at, e) in
        record { same = omega (arith, now.same) }
