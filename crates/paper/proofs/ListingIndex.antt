-- Document 02, Req 09: what an index counts, and that a lookup finds the first record that has the code. Over lists of records, so that no sub-function is named.
-- Assumes nothing.
use mathlib.Core.Path.{◌≡◌, refl, sym, ap, ap₂, ◌∙◌}
use Prim.Native.Nat.{ℕ, zero, suc, ◌+◌, ◌-◌, ◌≤◌, ◌<◌}
use mathlib.Core.Bool.{Bool, true, false, true≢false}
use mathlib.Core.List.{List, [], ◌∷◌, ◌++◌, map}
use mathlib.Core.Logic.{◌↔◌}
use mathlib.Core.Option.{some}
use native.Mathlib.Nat.{zero-add, add-zero, suc-add, not-suc-le-zero, le_of_suc-le-suc}
use native.Mathlib.Omega.{arith}
use lib.ListN.{length, get_or, get_elem?, set, drop, replicate, length-drop}
use lib.Dec.{eqb, ltb}
use borrow.Author.Tests.{eqb-true, eqb-false, eq-eqb, ne_eqb, lt-ltb, ltb-true}
use Rattle.paper.specs.Choice.{pick}
use Rattle.paper.specs.Answer.{Refusal, accepted, refused, no_such_code, out_of_range}
use Rattle.paper.specs.Bytes.{Bytes}
use Rattle.paper.specs.TroubleCode.{TroubleCode, trouble_code}
use Rattle.paper.specs.Tally.{count, sum}
use Rattle.paper.specs.Listing.{SubFunction, by_status_mask, by_severity_mask, Listed, record_bytes, Listing, read_listing, records_bytes, listing_bytes}
use Rattle.paper.specs.Listing.{first_place, has_high, how_many, first_with, numbers_from, Index, index_of, same_numbers, own_index, has_code, Found, find, look_up, First, NoneHas}
use Rattle.paper.proofs.Choice.{both_true, never}
use Rattle.paper.proofs.Bytes.{bytes-right}
use Rattle.paper.proofs.Count.{one, count_append, count_le, split-count, from, one-equal, value_at, set_value, map_same}
use Rattle.paper.proofs.Listing.{accepted-is}
use Rattle.paper.proofs.InOrder.{nothing, there_below, drop_there}

-- ---- the place of the first
module _ {A : Type 0} (test : A → Bool) where
  -- among two lists: that of the first list where it has any, else one of the second
  first_append : (xs ys : List A) → first_place test (xs ++ ys) ≡ pick (eqb (count test xs) 0) (length xs + first_place test ys) (first_place test xs)
  unfolding first_place count
  first_append [] ys = sym (zero-add _)
  first_append (x ∷ xs) ys = by (test x) (first_append xs ys)
    where
      rest : (b : Bool) → suc (pick b (length xs + first_place test ys) (first_place test xs)) ≡ pick b (suc (length xs) + first_place test ys) (suc (first_place test xs))
      rest true = sym (suc-add _ _)
      rest false = refl

      by : (b : Bool) → first_place test (xs ++ ys) ≡ pick (eqb (count test xs) 0) (length xs + first_place test ys) (first_place test xs)
          → pick b 0 (suc (first_place test (xs ++ ys))) ≡ pick (eqb (pick b 1 0 + count test xs) 0) (suc (length xs) + first_place test ys) (pick b 0 (suc (first_place test xs)))
      by true h = let ne : 1 + count test xs ≡ 0 → ⊥ = λ e. omega arith in rw (ne_eqb _ _ ne)
      by false h = rw (zero-add (count test xs), h) (rest (eqb (count test xs) 0))

-- ---- one record more
module _ (rs : List Listed) (r : Listed) (h : ℕ) where
  -- it has the high byte
  many-here : has_high h r ≡ true → how_many (rs ++ (r ∷ [])) h ≡ how_many rs h + 1
  unfolding count
  many-here e = count_append (has_high h) rs (r ∷ []) ∙ rw e

  -- it has another
  many_other : has_high h r ≡ false → how_many (rs ++ (r ∷ [])) h ≡ how_many rs h
  unfolding count
  many_other e = count_append (has_high h) rs (r ∷ []) ∙ rw e (add-zero _)

  -- where none before it has the high byte, it is the first
  first_new : has_high h r ≡ true → how_many rs h ≡ 0 → first_with (rs ++ (r ∷ [])) h ≡ length rs
  unfolding first_place
  first_new e z =
      let some : how_many (rs ++ (r ∷ [])) h ≡ 0 → ⊥ = λ q. omega (arith, many-here e) in
      rw (ne_eqb _ _ some, first_append (has_high h) rs (r ∷ []), z, e) (add-zero _)

  -- else the first stays
  first_old : (how_many rs h ≡ 0 → ⊥) → first_with (rs ++ (r ∷ [])) h ≡ first_with rs h
  first_old z =
      let some : how_many (rs ++ (r ∷ [])) h ≡ 0 → ⊥ = λ q. omega (arith, count_append (has_high h) rs (r ∷ [])) in
      rw (ne_eqb _ _ some, ne_eqb _ _ z, first_append (has_high h) rs (r ∷ []), ne_eqb _ _ z)

  first_other : has_high h r ≡ false → first_with (rs ++ (r ∷ [])) h ≡ first_with rs h
  first_other e = by (eqb (how_many rs h) 0) refl
    where
      by : (b : Bool) → eqb (how_many rs h) 0 ≡ b → first_with (rs ++ (r ∷ [])) h ≡ first_with rs h
      by true z = let none : how_many rs h ≡ 0 = eqb-true _ _ z in rw (many_other e, none)
      by false z = first_old (eqb-false _ _ z)

-- ---- the lists of an index, over M high bytes: with 256 they would be written out wherever they stand
numbers_are : (k n : ℕ) → numbers_from k n ≡ from k n
unfolding numbers_from
numbers_are k zero = refl
numbers_are k (suc n) = ap (λ (ks : List ℕ). k ∷ ks) (numbers_are (suc k) n)

abbrev counts_to : ℕ → List Listed → List ℕ
counts_to M rs = map (how_many rs) (numbers_from 0 M)

abbrev firsts_to : ℕ → List Listed → List ℕ
firsts_to M rs = map (first_with rs) (numbers_from 0 M)

value_to : (f : ℕ → ℕ) (M i : ℕ) → i < M → get_or (map f (numbers_from 0 M)) i 0 ≡ f i
value_to f M i h = rw (numbers_are 0 M) (value_at f 0 M i 0 h ∙ ap f (zero-add i))

-- a store at place i, where two rules differ there alone
set_to : (f g : ℕ → ℕ) (M i : ℕ) {v : ℕ} → i < M → v ≡ g i → ((j : ℕ) → (j ≡ i → ⊥) → f j ≡ g j) → set (map f (numbers_from 0 M)) i v ≡ map g (numbers_from 0 M)
set_to f g M i h e o = rw (numbers_are 0 M, e) (rw (zero-add i) at (set_value f g 0 M i h (λ j q. o j (λ p. q (p ∙ sym (zero-add i))))))

module _ (M : ℕ) (rs : List Listed) (r : Listed) (small : r.code.high < M) where
  abbrev more : List Listed
  more = rs ++ (r ∷ [])

  its_own : has_high r.code.high r ≡ true
  its_own = eq-eqb r.code.high r.code.high refl

  other : (j : ℕ) → (j ≡ r.code.high → ⊥) → has_high j r ≡ false
  other j ne = ne_eqb _ _ (λ e. ne (sym e))

  counts-more : set (counts_to M rs) r.code.high (how_many rs r.code.high + 1) ≡ counts_to M more
  counts-more = set_to (how_many rs) (how_many more) M r.code.high small (sym (many-here rs r r.code.high its_own)) (λ j ne. sym (many_other rs r j (other j ne)))

  firsts_new : how_many rs r.code.high ≡ 0 → set (firsts_to M rs) r.code.high (length rs) ≡ firsts_to M more
  firsts_new z = set_to (first_with rs) (first_with more) M r.code.high small (sym (first_new rs r r.code.high its_own z)) (λ j ne. sym (first_other rs r j (other j ne)))

  firsts_old : (how_many rs r.code.high ≡ 0 → ⊥) → firsts_to M rs ≡ firsts_to M more
  firsts_old z = map_same (first_with rs) (first_with more) (numbers_from 0 M) (λ j. sym (by j (has_high j r) refl))
    where
      by : (j : ℕ) (b : Bool) → has_high j r ≡ b → first_with more j ≡ first_with rs j
      by j true e = let same : r.code.high ≡ j = eqb-true _ _ e in first_old rs r j (rw (← same) z)
      by j false e = first_other rs r j e

-- ---- the index itself
pub count_at : (rs : List Listed) (h : ℕ) → h < 256 → get_or (index_of rs).counts h 0 ≡ how_many rs h
unfolding index_of
count_at rs h small = value_to (how_many rs) 256 h small

pub first_at : (rs : List Listed) (h : ℕ) → h < 256 → get_or (index_of rs).firsts h 0 ≡ first_with rs h
unfolding index_of
first_at rs h small = value_to (first_with rs) 256 h small

-- of no records: all zeros
zeros : (f : ℕ → ℕ) (k n : ℕ) → ((j : ℕ) → f j ≡ 0) → map f (numbers_from k n) ≡ replicate n 0
unfolding numbers_from
zeros f k zero h = refl
zeros f k (suc n) h = ap₂ (λ (x : ℕ) (xs : List ℕ). x ∷ xs) (h k) (zeros f (suc k) n h)

pub no_counts : (index_of []).counts ≡ replicate 256 0
unfolding index_of count
no_counts = zeros (how_many []) 0 256 (λ j. refl)

pub no_firsts : (index_of []).firsts ≡ replicate 256 0
unfolding index_of count
no_firsts = zeros (first_with []) 0 256 (λ j. refl)

-- with one record more, whose high byte is h: a count one higher, and its place where it is the first
module _ (rs : List Listed) (r : Listed) (small : r.code.high < 256) where
  pub counted-more : set (index_of rs).counts r.code.high (get_or (index_of rs).counts r.code.high 0 + 1) ≡ (index_of (rs ++ (r ∷ []))).counts
  unfolding index_of
  counted-more = rw (count_at rs r.code.high small) (counts-more 256 rs r small)

  pub new_first : get_or (index_of rs).counts r.code.high 0 ≡ 0 → set (index_of rs).firsts r.code.high (length rs) ≡ (index_of (rs ++ (r ∷ []))).firsts
  unfolding index_of
  new_first z = firsts_new 256 rs r small (sym (count_at rs r.code.high small) ∙ z)

  pub old_first : (get_or (index_of rs).counts r.code.high 0 ≡ 0 → ⊥) → (index_of rs).firsts ≡ (index_of (rs ++ (r ∷ []))).firsts
  unfolding index_of
  old_first z = firsts_old 256 rs r small (λ q. z (count_at rs r.code.high small ∙ q))

-- a count is at most as large as the number of records
pub count_small : (rs : List Listed) (h : ℕ) → h < 256 → get_or (index_of rs).counts h 0 ≤ length rs
count_small rs h small = rw (count_at rs h small) (count_le (has_high h) rs)

-- ---- the counts add up to the records
-- every high byte is below 256
abbrev pub HighBytes : List Listed → Type 0
HighBytes [] = Unit {0}
HighBytes (r ∷ rs) = (r.code.high < 256) × HighBytes rs

abbrev is_byte : Listed → Bool
is_byte r = ltb r.code.high 256

all-bytes : (rs : List Listed) → HighBytes rs → count is_byte rs ≡ length rs
unfolding count
all-bytes [] h = refl
all-bytes (r ∷ rs) h = rw (lt-ltb _ _ h.0) (omega (arith, all-bytes rs h.1))

count-all : (rs : List Listed) → count (λ (r : Listed). true) rs ≡ length rs
unfolding count
count-all [] = refl
count-all (r ∷ rs) = omega (arith, count-all rs)

sum_to : (M : ℕ) (rs : List Listed) → ((r : Listed) → is_byte r ≡ true → r.code.high < M) → count is_byte rs ≡ length rs → sum (counts_to M rs) ≡ length rs
sum_to M rs small e =
    rw (numbers_are 0 M)
    (split-count has_high (λ (r : Listed). true) is_byte (from 0 M) (λ r p. one-equal r.code.high 0 M (omega arith) (omega (arith, small r p))) rs e ∙ count-all rs)

pub counts-sum : (rs : List Listed) → HighBytes rs → sum (index_of rs).counts ≡ length rs
unfolding index_of
counts-sum rs h = sum_to 256 rs (λ r p. ltb-true _ _ p) (all-bytes rs h)

-- the records of a message have bytes
high-bytes : (f : SubFunction) (rs : List Listed) → Bytes (records_bytes f rs) → HighBytes rs
unfolding records_bytes
high-bytes f [] h = tt
high-bytes by_status_mask (r ∷ rs) h = (h.0, high-bytes by_status_mask rs (bytes-right (record_bytes by_status_mask r) (records_bytes by_status_mask rs) h))
high-bytes by_severity_mask (r ∷ rs) h = (h.1.1.0, high-bytes by_severity_mask rs (bytes-right (record_bytes by_severity_mask r) (records_bytes by_severity_mask rs) h))

pub read-bytes : (f : SubFunction) (s : List ℕ) {l : Listing} → Bytes s → read_listing f s ≡ accepted l → HighBytes l.records
unfolding listing_bytes
read-bytes f s {l} bytes e = let (_, _, _, is) = accepted-is f s e in high-bytes l.sub_function l.records (rw is at bytes).1.1.1

pub counts_add_up : (f : SubFunction) (s : List ℕ) {l : Listing} → Bytes s → read_listing f s ≡ accepted l → sum (index_of l.records).counts ≡ length l.records
counts_add_up f s {l} bytes e = counts-sum l.records (read-bytes f s bytes e)

-- ---- the listing's own index
pub same_self : (xs : List ℕ) → same_numbers xs xs ≡ true
unfolding same_numbers
same_self [] = refl
same_self (x ∷ xs) = rw (eq-eqb x x refl) (same_self xs)

pub same-is : (xs ys : List ℕ) → same_numbers xs ys ≡ true → xs ≡ ys
unfolding same_numbers
same-is [] [] e = refl
same-is [] (y ∷ ys) e = absurd (true≢false (sym e))
same-is (x ∷ xs) [] e = absurd (true≢false (sym e))
same-is (x ∷ xs) (y ∷ ys) e = let (p, q) = both_true (eqb x y) (same_numbers xs ys) e in ap₂ (λ (z : ℕ) (zs : List ℕ). z ∷ zs) (eqb-true _ _ p) (same-is xs ys q)

-- it is accepted, and no other is
pub own_accepted : (rs : List Listed) → own_index rs (index_of rs) ≡ true
own_accepted rs = rw (same_self (index_of rs).counts, same_self (index_of rs).firsts) refl

pub own_only : (rs : List Listed) (x : Index) → own_index rs x ≡ true → x ≡ index_of rs
own_only rs x e =
    let (p, q) = both_true (same_numbers x.counts (index_of rs).counts) _ e in
    ap₂ (λ (cs fs : List ℕ). record { counts = cs; firsts = fs }) (same-is _ _ p) (same-is _ _ q)

-- ---- the first record that has the code
has-is : (c : TroubleCode) (r : Listed) → has_code c r ≡ true → r.code ≡ c
unfolding has_code
has-is c r e =
    let (h, e₁) = both_true (eqb r.code.high c.high) _ e in
    let (m, l) = both_true (eqb r.code.middle c.middle) (eqb r.code.low c.low) e₁ in
    let high : r.code.high ≡ c.high = eqb-true _ _ h in
    let middle : r.code.middle ≡ c.middle = eqb-true _ _ m in
    let low : r.code.low ≡ c.low = eqb-true _ _ l in
    ap₂ (λ (x y : ℕ). trouble_code x y r.code.low) high middle ∙ ap (trouble_code c.high c.middle) low

is-has : (c : TroubleCode) (r : Listed) → r.code ≡ c → has_code c r ≡ true
unfolding has_code
is-has c r e = rw (eq-eqb _ _ (ap TroubleCode.high e), eq-eqb _ _ (ap TroubleCode.middle e), eq-eqb _ _ (ap TroubleCode.low e)) refl

not_has : (c : TroubleCode) (r : Listed) → has_code c r ≡ false → r.code ≡ c → ⊥
not_has c r e q = true≢false (sym (is-has c r q) ∙ e)

-- the record that was found, j places after the first of these
abbrev FoundFrom : ℕ → TroubleCode → List Listed → Found → Type 0
FoundFrom k c rs x = (j : ℕ) × (x.place ≡ k + j) × First c rs (record { place = j; «record» = x.«record» })

found_from : (k : ℕ) (c : TroubleCode) (rs : List Listed) (x : Found) → find k c rs ≡ accepted x → FoundFrom k c rs x
unfolding find
found_from k c [] x e = absurd (never e)
found_from k c (r ∷ rs) x e = by (has_code c r) refl (found_from (suc k) c rs x) e
  where
    here : has_code c r ≡ true → accepted (record { place = k; «record» = r }) ≡ accepted x → FoundFrom k c (r ∷ rs) x
    here h q =
        let is : x ≡ record { place = k; «record» = r } = cc in
        rw is (0, sym (add-zero k), record { stands = refl; has = has-is c r h; earlier = λ i y l g e. not-suc-le-zero l })

    there : has_code c r ≡ false → FoundFrom (suc k) c rs x → FoundFrom k c (r ∷ rs) x
    there h (j, p, g) = (suc j, omega arith, record { stands = g.stands; has = g.has; earlier = before })
      where
        before : (i : ℕ) (y : Listed) → i < suc j → get_elem? (r ∷ rs) i ≡ some y → y.code ≡ c → ⊥
        before zero y l w q = let same : r ≡ y = cc in not_has c r h (ap Listed.code same ∙ q)
        before (suc i) y l w q = g.earlier i y (le_of_suc-le-suc l) w q

    by : (b : Bool) → has_code c r ≡ b → (find (suc k) c rs ≡ accepted x → FoundFrom (suc k) c rs x)
        → pick b (accepted (record { place = k; «record» = r })) (find (suc k) c rs) ≡ accepted x → FoundFrom k c (r ∷ rs) x
    by true h ih q = here h q
    by false h ih q = there h (ih q)

not_so : (b : Bool) → (b ≡ true → ⊥) → b ≡ false
not_so true h = absurd (h refl)
not_so false h = refl

-- the first one is found
there_found : (k : ℕ) (c : TroubleCode) (rs : List Listed) (x : Found) → First c rs x → find k c rs ≡ accepted (record { place = k + x.place; «record» = x.«record» })
unfolding find
there_found k c [] x g = absurd (nothing x.place g.stands)
there_found k c (r ∷ rs) x g = by x.place refl (there_found (suc k) c rs)
  where
    by : (j : ℕ) → x.place ≡ j → ((y : Found) → First c rs y → find (suc k) c rs ≡ accepted (record { place = suc k + y.place; «record» = y.«record» }))
        → find k c (r ∷ rs) ≡ accepted (record { place = k + x.place; «record» = x.«record» })
    by zero e ih =
        let is : some r ≡ some x.«record» = rw e at g.stands in
        let same : r ≡ x.«record» = cc in
        let none : k + 0 ≡ k = add-zero k in
        rw (e, same, is-has c x.«record» g.has, none)
    by (suc j) e ih =
        let other : has_code c r ≡ false = not_so (has_code c r) (λ h. g.earlier 0 r (omega arith) refl (has-is c r h)) in
        let rest : First c rs (record { place = j; «record» = x.«record» })
        = record { stands = rw e at g.stands; has = g.has; earlier = λ i y l w q. g.earlier (suc i) y (omega arith) w q } in
        let further : k + suc j ≡ suc k + j = omega arith in
        rw (e, other, further) (ih (record { place = j; «record» = x.«record» }) rest)

pub finds_first : (c : TroubleCode) (rs : List Listed) (x : Found) → (find 0 c rs ≡ accepted x) ↔ First c rs x
finds_first c rs x = (to, λ g. there_found 0 c rs x g ∙ ap (λ (j : ℕ). accepted (record { place = j; «record» = x.«record» })) (zero-add x.place))
  where
    to : find 0 c rs ≡ accepted x → First c rs x
    to e = let (j, p, g) = found_from 0 c rs x e in let same : x.place ≡ j = omega arith in record { stands = rw same g.stands; has = g.has; earlier = rw same g.earlier }

-- 16 exactly if no record has it, and no other refusal
none_has : (k : ℕ) (c : TroubleCode) (rs : List Listed) → NoneHas c rs → find k c rs ≡ refused no_such_code
unfolding find
none_has k c [] h = refl
none_has k c (r ∷ rs) h = rw (not_so (has_code c r) (λ e. h 0 r refl (has-is c r e))) (none_has (suc k) c rs (λ i y g q. h (suc i) y g q))

refused_none : (k : ℕ) (c : TroubleCode) (rs : List Listed) {e : Refusal} → find k c rs ≡ refused e → (e ≡ no_such_code) × NoneHas c rs
unfolding find
refused_none k c [] {e} q = (cc, λ i y g w. nothing i g)
refused_none k c (r ∷ rs) {e} q = by (has_code c r) refl (refused_none (suc k) c rs) q
  where
    by : (b : Bool) → has_code c r ≡ b → (find (suc k) c rs ≡ refused e → (e ≡ no_such_code) × NoneHas c rs)
        → pick b (accepted (record { place = k; «record» = r })) (find (suc k) c rs) ≡ refused e → (e ≡ no_such_code) × NoneHas c (r ∷ rs)
    by true h ih q = absurd (never (sym q))
    by false h ih q = let (is, others) = ih q in (is, all others)
      where
        all : NoneHas c rs → NoneHas c (r ∷ rs)
        all others zero y g w = let same : r ≡ y = cc in not_has c r h (ap Listed.code same ∙ w)
        all others (suc i) y g w = others i y g w

pub finds_none : (c : TroubleCode) (rs : List Listed) → (find 0 c rs ≡ refused no_such_code) ↔ NoneHas c rs
finds_none c rs = (λ e. (refused_none 0 c rs e).1, none_has 0 c rs)

pub no-other-refusal : (c : TroubleCode) (rs : List Listed) {e : Refusal} → find 0 c rs ≡ refused e → e ≡ no_such_code
no-other-refusal c rs e = (refused_none 0 c rs e).0

-- ---- a search that starts at the first record with the high byte, and ends when as many were seen as have it
-- another high byte: another code
other_high : (c : TroubleCode) (r : Listed) → has_high c.high r ≡ false → has_code c r ≡ false
unfolding has_code
other_high c r e = rw e

module _ (c : TroubleCode) where
  -- records before the first with the high byte are passed over: none has the code, and none is counted
  passed_over_lem : (k : ℕ) (rs : List Listed) → find k c rs ≡ find (k + first_place (has_high c.high) rs) c (drop (first_place (has_high c.high) rs) rs)
  unfolding find first_place
  passed_over_lem k [] = refl
  passed_over_lem k (r ∷ rs) = by (has_high c.high r) refl (passed_over_lem (suc k) rs)
    where
      p : ℕ
      p = first_place (has_high c.high) rs

      by : (b : Bool) → has_high c.high r ≡ b → find (suc k) c rs ≡ find (suc k + p) c (drop p rs)
          → find k c (r ∷ rs) ≡ find (k + pick b 0 (suc p)) c (drop (pick b 0 (suc p)) (r ∷ rs))
      by true e ih = let none : k + 0 ≡ k = add-zero k in rw none
      by false e ih = let further : k + suc p ≡ suc k + p = omega arith in rw (further, other_high c r e) ih

many-after : (h : ℕ) (rs : List Listed) → how_many (drop (first_place (has_high h) rs) rs) h ≡ how_many rs h
unfolding first_place count
many-after h [] = refl
many-after h (r ∷ rs) = by (has_high h r) refl (many-after h rs)
  where
    p : ℕ
    p = first_place (has_high h) rs

    by : (b : Bool) → has_high h r ≡ b → how_many (drop p rs) h ≡ how_many rs h → how_many (drop (pick b 0 (suc p)) (r ∷ rs)) h ≡ how_many (r ∷ rs) h
    by true e ih = refl
    by false e ih = rw e (ih ∙ sym (zero-add _))

first_le : (h : ℕ) (rs : List Listed) → first_place (has_high h) rs ≤ length rs
unfolding first_place
first_le h [] = omega arith
first_le h (r ∷ rs) = by (has_high h r) (first_le h rs)
  where
    by : (b : Bool) → first_place (has_high h) rs ≤ length rs → pick b 0 (suc (first_place (has_high h) rs)) ≤ suc (length rs)
    by true l = omega arith
    by false l = omega arith

-- at place k of a search: so many records from here on have the high byte, and what is found from here on is what is found
pub record Searching (c : TroubleCode) (rs : List Listed) (k left : ℕ) : Type 0 where
  pub within : k ≤ length rs
  pub many : left ≡ how_many (drop k rs) c.high
  pub same : find k c (drop k rs) ≡ find 0 c rs

-- it starts where the index says
pub search_starts : (c : TroubleCode) (rs : List Listed) → Searching c rs (first_with rs c.high) (how_many rs c.high)
search_starts c rs = by (eqb (how_many rs c.high) 0) refl
  where
    by : (b : Bool) → eqb (how_many rs c.high) 0 ≡ b → Searching c rs (pick b 0 (first_place (has_high c.high) rs)) (how_many rs c.high)
    by true e = record { within = omega arith; many = refl; same = refl }
    by false e = record {
      within = first_le c.high rs;
      many = sym (many-after c.high rs);
      same = sym (passed_over_lem c 0 rs ∙ ap (λ (j : ℕ). find j c (drop (first_place (has_high c.high) rs) rs)) (zero-add _));
    }

-- where none has the high byte, none has the code
none-counted : (c : TroubleCode) (k : ℕ) (rs : List Listed) → how_many rs c.high ≡ 0 → find k c rs ≡ refused no_such_code
unfolding find count
none-counted c k [] e = refl
none-counted c k (r ∷ rs) e = by (has_high c.high r) refl e (none-counted c (suc k) rs)
  where
    by : (b : Bool) → has_high c.high r ≡ b → one b + how_many rs c.high ≡ 0 → (how_many rs c.high ≡ 0 → find (suc k) c rs ≡ refused no_such_code) → find k c (r ∷ rs) ≡ refused no_such_code
    by true h q ih = absurd (omega arith)
    by false h q ih = rw (other_high c r h) (ih (omega arith))

module _ (c : TroubleCode) (rs : List Listed) (k left : ℕ) (now : Searching c rs k left) where
  -- none is left: no record has the code
  pub search_ends : left ≡ 0 → find 0 c rs ≡ refused no_such_code
  search_ends z = sym now.same ∙ none-counted c k (drop k rs) (sym now.many ∙ z)

  -- some are left: there is a record here
  pub search_within : 0 < left → k < length rs
  search_within h = omega (arith, now.many, count_le (has_high c.high) (drop k rs), length-drop k rs)

  module _ (r : Listed) (is : get_elem? rs k ≡ some r) where
    -- those that are left: this one, or not, and those behind it
    left_here : left ≡ one (has_high c.high r) + how_many (drop (suc k) rs) c.high
    unfolding count
    left_here = now.many ∙ ap (λ (xs : List Listed). how_many xs c.high) (drop_there rs k is)

    -- it has the code
    pub search_found : has_code c r ≡ true → find 0 c rs ≡ accepted (record { place = k; «record» = r })
    unfolding find
    search_found e = sym now.same ∙ rw (drop_there rs k is, e)

    -- it has the high byte, and not the code
    pub search_less : has_high c.high r ≡ true → has_code c r ≡ false → Searching c rs (suc k) (left - 1)
    unfolding find
    search_less h e = record {
      within = there_below rs k is;
      many = omega (arith, rw h at left_here);
      same = sym (rw (drop_there rs k is, e) refl) ∙ now.same;
    }

    -- it has another high byte
    pub search_on : has_high c.high r ≡ false → Searching c rs (suc k) left
    unfolding find
    search_on h = record {
      within = there_below rs k is;
      many = omega (arith, rw h at left_here);
      same = sym (rw (drop_there rs k is, other_high c r h) refl) ∙ now.same;
    }

-- ---- the cases of a lookup
module _ (f : SubFunction) (s : List ℕ) (x : Index) (c : TroubleCode) where
  pub look_refused : {e : Refusal} → read_listing f s ≡ refused e → look_up f s x c ≡ refused e
  unfolding look_up
  look_refused e = rw e

  module _ {l : Listing} (read : read_listing f s ≡ accepted l) where
    pub look_not_own : own_index l.records x ≡ false → look_up f s x c ≡ refused (out_of_range 0)
    unfolding look_up
    look_not_own e = rw (read, e)

    pub look_own : own_index l.records x ≡ true → look_up f s x c ≡ find 0 c l.records
    unfolding look_up
    look_own e = rw (read, e)
