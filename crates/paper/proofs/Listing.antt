-- Document 02, Req 09 and Req 10: what is accepted is laid out as the requests say and the other way round, and what is written reads back. Whatever the sub-function: only the laws of one record go by cases.
-- Assumes nothing.
use mathlib.Core.Path.{◌≡◌, refl, sym, ap, ap₂, subst, ◌∙◌}
use Prim.Native.Nat.{ℕ, zero, suc, ◌+◌, ◌*◌, ◌-◌, ◌/◌, ◌%◌, ◌≤◌, ◌<◌}
use mathlib.Core.Bool.{Bool, true, false, not, true≢false}
use mathlib.Core.List.{List, [], ◌∷◌, ◌++◌, append-nil, append_assoc}
use mathlib.Core.Logic.{◌↔◌}
use mathlib.Core.Option.{some}
use native.Mathlib.Nat.{mul-suc, not-suc-le-zero, le_of_suc-le-suc, ne_of_lt}
use native.Mathlib.Omega.{arith}
use lib.ListN.{length, get_or, get_elem?, drop, length-append, length-drop}
use lib.Seq.{drop_at, drop-drop}
use lib.Dec.{leb, eqb}
use borrow.Author.Tests.{leb-true, eqb-true, le-leb, lt-leb, eq-eqb, ne_eqb}
use Rattle.paper.specs.Choice.{pick, both}
use Rattle.paper.specs.Answer.{accepted, refused, too_short, cut, out_of_range, too_many, unknown_service}
use Rattle.paper.specs.Bytes.{Bytes}
use Rattle.paper.specs.TroubleCode.{trouble_code}
use Rattle.paper.specs.Joined.{Each}
use Rattle.paper.specs.Listing.{SubFunction, by_status_mask, by_severity_mask, sub_function_byte, Listed, unknown_severity, known_severity, record_size, record_of, record_bytes, Listing, listing, answer_byte, one_by_one, records_in, whole_records, read_listing}
use Rattle.paper.specs.Listing.{records_bytes, listing_bytes, first_place, unfit, first_unfit, write_listing, handed_size, handed_of, handed_in, write_handed, InForm, ListingWay}
use Rattle.paper.proofs.Choice.{both_true, check_passed}

-- ---- one record
pub length_record : (f : SubFunction) (r : Listed) → length (record_bytes f r) ≡ record_size f
length_record by_status_mask r = refl
length_record by_severity_mask r = refl

-- a record in the form of the sub-function is found again
record-back : (f : SubFunction) (r : Listed) (t : List ℕ) → InForm f r → record_of f (record_bytes f r ++ t) ≡ r
record-back by_status_mask r t (k, s, u) = rw (k, s, u)
record-back by_severity_mask r t k = rw k

in_form : (f : SubFunction) (s : List ℕ) → InForm f (record_of f s)
in_form by_status_mask s = (refl, refl, refl)
in_form by_severity_mask s = refl

record_laid : (f : SubFunction) (s : List ℕ) → record_size f ≤ length s → record_bytes f (record_of f s) ++ drop (record_size f) s ≡ s
record_laid by_status_mask (a ∷ b ∷ c ∷ d ∷ s) h = refl
record_laid by_status_mask (a ∷ b ∷ c ∷ []) h = absurd (omega arith)
record_laid by_status_mask (a ∷ b ∷ []) h = absurd (omega arith)
record_laid by_status_mask (a ∷ []) h = absurd (omega arith)
record_laid by_status_mask [] h = absurd (omega arith)
record_laid by_severity_mask (a ∷ b ∷ c ∷ d ∷ e ∷ g ∷ s) h = refl
record_laid by_severity_mask (a ∷ b ∷ c ∷ d ∷ e ∷ []) h = absurd (omega arith)
record_laid by_severity_mask (a ∷ b ∷ c ∷ d ∷ []) h = absurd (omega arith)
record_laid by_severity_mask (a ∷ b ∷ c ∷ []) h = absurd (omega arith)
record_laid by_severity_mask (a ∷ b ∷ []) h = absurd (omega arith)
record_laid by_severity_mask (a ∷ []) h = absurd (omega arith)
record_laid by_severity_mask [] h = absurd (omega arith)

-- n bytes that no cut record ends, and the bytes of n records
pub no_cut : (f : SubFunction) (n : ℕ) → n % record_size f ≡ 0 → n ≡ record_size f * (n / record_size f)
no_cut by_status_mask n h = omega arith
no_cut by_severity_mask n h = omega arith

pub all_whole : (f : SubFunction) (n : ℕ) → ((record_size f * n) / record_size f ≡ n) × ((record_size f * n) % record_size f ≡ 0)
all_whole by_status_mask n = (omega arith, omega arith)
all_whole by_severity_mask n = (omega arith, omega arith)

-- ---- records one after the other
further : (a k : ℕ) → a + a * k ≡ a * suc k
further a k = omega (arith, mul-suc a k)

module _ (size : ℕ) (of : List ℕ → Listed) where
  nothing-before : size * 0 ≡ 0
  nothing-before = omega arith

  -- behind the first, the one at place k begins after those before it
  behind_first : {A : Type 0} (g : List ℕ → A) (k : ℕ) (s : List ℕ) → g (drop (size * k) (drop size s)) ≡ g (drop (size * suc k) s)
  behind_first g k s = ap g (drop-drop (size * k) size s ∙ ap (λ (j : ℕ). drop j s) (further size k))

  pub length_each : (n : ℕ) (s : List ℕ) → length (one_by_one size of n s) ≡ n
  unfolding one_by_one
  length_each zero s = refl
  length_each (suc n) s = ap suc (length_each n (drop size s))

  -- the record at place k stands before those behind it
  pub each_there : (n k : ℕ) (s : List ℕ) → k < n → drop k (one_by_one size of n s) ≡ of (drop (size * k) s) ∷ drop (suc k) (one_by_one size of n s)
  unfolding one_by_one
  each_there zero k s h = absurd (not-suc-le-zero h)
  each_there (suc n) zero s h = rw nothing-before
  each_there (suc n) (suc k) s h = each_there n k (drop size s) (le_of_suc-le-suc h) ∙ behind_first (λ (t : List ℕ). of t ∷ drop (suc k) (one_by_one size of n (drop size s))) k s

  each_at : (n k : ℕ) (s : List ℕ) → k < n → get_elem? (one_by_one size of n s) k ≡ some (of (drop (size * k) s))
  unfolding one_by_one
  each_at zero k s h = absurd (not-suc-le-zero h)
  each_at (suc n) zero s h = rw nothing-before
  each_at (suc n) (suc k) s h = each_at n k (drop size s) (le_of_suc-le-suc h) ∙ behind_first (λ (t : List ℕ). some (of t)) k s

  -- one record more
  pub each_more : (n : ℕ) (s : List ℕ) → one_by_one size of (suc n) s ≡ one_by_one size of n s ++ (of (drop (size * n) s) ∷ [])
  unfolding one_by_one
  each_more zero s = rw nothing-before
  each_more (suc n) s = ap (λ (rs : List Listed). of s ∷ rs) (each_more n (drop size s) ∙ behind_first (λ (t : List ℕ). one_by_one size of n (drop size s) ++ (of t ∷ [])) n s)

-- ---- the records of a sub-function
pub length_records : (f : SubFunction) (n : ℕ) (s : List ℕ) → length (records_in f n s) ≡ n
unfolding records_in
length_records f = length_each (record_size f) (record_of f)

pub record_there : (f : SubFunction) (n k : ℕ) (s : List ℕ) → k < n → get_elem? (records_in f n s) k ≡ some (record_of f (drop (record_size f * k) s))
unfolding records_in
record_there f = each_at (record_size f) (record_of f)

pub records-more : (f : SubFunction) (n : ℕ) (s : List ℕ) → records_in f (suc n) s ≡ records_in f n s ++ (record_of f (drop (record_size f * n) s) ∷ [])
unfolding records_in
records-more f = each_more (record_size f) (record_of f)

pub length_bytes : (f : SubFunction) (rs : List Listed) → length (records_bytes f rs) ≡ record_size f * length rs
unfolding records_bytes
length_bytes f [] = omega arith
length_bytes f (r ∷ rs) = rw length-append (omega (arith, length_record f r, length_bytes f rs, mul-suc (record_size f) (length rs)))

pub bytes-more : (f : SubFunction) (rs : List Listed) (r : Listed) → records_bytes f (rs ++ (r ∷ [])) ≡ records_bytes f rs ++ record_bytes f r
unfolding records_bytes
bytes-more f [] r = append-nil (record_bytes f r)
bytes-more f (x ∷ rs) r = ap (λ (t : List ℕ). record_bytes f x ++ t) (bytes-more f rs r) ∙ sym (append_assoc (record_bytes f x) (records_bytes f rs) (record_bytes f r))

pub records_back : (f : SubFunction) (rs : List Listed) → Each (InForm f) rs → records_in f (length rs) (records_bytes f rs) ≡ rs
unfolding one_by_one records_in records_bytes
records_back f [] form = refl
records_back f (r ∷ rs) (here, others) =
    ap₂ (λ (x : Listed) (s : List ℕ). x ∷ records_in f (length rs) s) (record-back f r (records_bytes f rs) here) (drop_at (record_bytes f r) (records_bytes f rs) (record_size f) (length_record f r))
    ∙ ap (λ (xs : List Listed). r ∷ xs) (records_back f rs others)

all_in_form : (f : SubFunction) (n : ℕ) (s : List ℕ) → Each (InForm f) (records_in f n s)
unfolding one_by_one records_in
all_in_form f zero s = tt
all_in_form f (suc n) s = (in_form f s, all_in_form f n (drop (record_size f) s))

pub records-laid : (f : SubFunction) (n : ℕ) (s : List ℕ) → length s ≡ record_size f * n → records_bytes f (records_in f n s) ≡ s
unfolding one_by_one records_in records_bytes
records-laid f zero [] h = refl
records-laid f zero (b ∷ s) h = absurd (omega arith)
records-laid f (suc n) s h =
    let long : length s ≡ record_size f * n + record_size f = h ∙ mul-suc (record_size f) n in
    ap (λ (t : List ℕ). record_bytes f (record_of f s) ++ t) (records-laid f n (drop (record_size f) s) (omega (arith, length-drop (record_size f) s)))
    ∙ record_laid f s (omega arith)

-- ---- a listing
-- what an accepted message is
pub accepted-is : (f : SubFunction) (s : List ℕ) {l : Listing} → read_listing f s ≡ accepted l → (l.sub_function ≡ f) × (length l.records ≤ 4096) × Each (InForm f) l.records × (s ≡ listing_bytes l)
unfolding read_listing listing_bytes
accepted-is f s {l} e =
    let (long, e₁) = check_passed (leb 3 (length s)) (too_short 3 (length s)) _ e in
    let (first, e₂) = check_passed (both (eqb (get_or s 0 0) answer_byte) (eqb (get_or s 1 0) (sub_function_byte f))) (unknown_service 0) _ e₁ in
    let (few, e₃) = check_passed (leb (whole_records f s) 4096) too_many _ e₂ in
    let (whole, e₄) = check_passed (eqb ((length s - 3) % record_size f) 0) cut _ e₃ in
    let (a, b) = both_true (eqb (get_or s 0 0) answer_byte) _ first in
    let is : l ≡ listing f (get_or s 2 0) (records_in f (whole_records f s) (drop 3 s)) = cc in
    rw is (refl, rw (length_records f (whole_records f s) (drop 3 s)) (leb-true _ _ few), all_in_form f (whole_records f s) (drop 3 s), laid s (leb-true _ _ long) (eqb-true _ _ a) (eqb-true _ _ b) (eqb-true _ _ whole))
  where
    laid : (s : List ℕ) → 3 ≤ length s → get_or s 0 0 ≡ answer_byte → get_or s 1 0 ≡ sub_function_byte f → (length s - 3) % record_size f ≡ 0
        → s ≡ answer_byte ∷ sub_function_byte f ∷ get_or s 2 0 ∷ records_bytes f (records_in f (whole_records f s) (drop 3 s))
    laid (a ∷ b ∷ c ∷ s) h p q w =
        let less : length (a ∷ b ∷ c ∷ s) - 3 ≡ length s = omega arith in
        rw (p, q, less, records-laid f (length s / record_size f) s (no_cut f (length s) (rw less at w))) refl
    laid (a ∷ b ∷ []) h p q w = absurd (omega arith)
    laid (a ∷ []) h p q w = absurd (omega arith)
    laid [] h p q w = absurd (omega arith)

-- the bytes of a listing are accepted
pub bytes-accepted : (l : Listing) → length l.records ≤ 4096 → Each (InForm l.sub_function) l.records → read_listing l.sub_function (listing_bytes l) ≡ accepted l
unfolding read_listing listing_bytes
bytes-accepted l few form =
    let f = l.sub_function in
    let n = length l.records in
    let w = all_whole f n in
    let less : length (listing_bytes l) - 3 ≡ record_size f * n = omega (arith, length_bytes f l.records) in
    rw (le-leb 3 (length (listing_bytes l)) (omega arith), eq-eqb (sub_function_byte f) (sub_function_byte f) refl, less, w.0, le-leb n 4096 few, eq-eqb _ 0 w.1, records_back f l.records form) refl

-- accepted exactly if laid out so
pub listing_layout : (f : SubFunction) (s : List ℕ) (l : Listing) → Bytes s → (read_listing f s ≡ accepted l) ↔ ListingWay f l s
listing_layout f s l bytes = (to, back)
  where
    to : read_listing f s ≡ accepted l → ListingWay f l s
    to e = let (k, few, form, is) = accepted-is f s e in record { kind = k; few = few; form = form; bytes = subst Bytes is bytes; is = is }

    back : ListingWay f l s → read_listing f s ≡ accepted l
    back w = rw (w.is, ← w.kind) (bytes-accepted l w.few (rw w.kind w.form))

-- ---- what can be written
-- every record that fits is passed over in the search for one that doesn't
none-unfit : (f : SubFunction) (rs : List Listed) → Each (InForm f) rs → first_place (unfit f) rs ≡ length rs
unfolding first_place
none-unfit f [] form = refl
none-unfit by_status_mask (r ∷ rs) (here, others) = rw here.0 (ap suc (none-unfit by_status_mask rs others))
none-unfit by_severity_mask (r ∷ rs) (here, others) = rw here (ap suc (none-unfit by_severity_mask rs others))

-- where severity and functional unit are unknown, both are 0
abbrev pub UnknownIsZero : Listed → Type 0
UnknownIsZero r = r.known ≡ false → (r.severity ≡ 0) × (r.functional_unit ≡ 0)

-- where none is found, every record fits: one whose severity is unknown must hold zeros to be in form
fit : (f : SubFunction) (r : Listed) → UnknownIsZero r → unfit f r ≡ false → InForm f r
fit by_status_mask r z e = let (s, u) = z e in (e, s, u)
fit by_severity_mask r z e = by r.known e
  where
    by : (b : Bool) → not b ≡ false → b ≡ true
    by true h = refl
    by false h = absurd (true≢false h)

all_fit : (f : SubFunction) (rs : List Listed) → Each UnknownIsZero rs → first_place (unfit f) rs ≡ length rs → Each (InForm f) rs
unfolding first_place
all_fit f [] z e = tt
all_fit f (r ∷ rs) (here, others) e = by (unfit f r) refl e (all_fit f rs others)
  where
    by : (b : Bool) → unfit f r ≡ b → pick b 0 (suc (first_place (unfit f) rs)) ≡ suc (length rs) → (first_place (unfit f) rs ≡ length rs → Each (InForm f) rs) → Each (InForm f) (r ∷ rs)
    by true h q ih = absurd (omega arith)
    by false h q ih = (fit f r here h, ih (omega arith))

-- what is written reads back, and what was read is written so
pub written_read : (l : Listing) {s : List ℕ} → Each UnknownIsZero l.records → write_listing l ≡ accepted s → read_listing l.sub_function s ≡ accepted l
unfolding write_listing
written_read l {s} z e =
    let (few, e₁) = check_passed (leb (length l.records) 4096) too_many _ e in
    let (fits, is) = check_passed (eqb (first_unfit l) (length l.records)) (out_of_range (first_unfit l)) (accepted (listing_bytes l)) e₁ in
    let same : s ≡ listing_bytes l = cc in
    rw same (bytes-accepted l (leb-true _ _ few) (all_fit l.sub_function l.records z (eqb-true _ _ fits)))

pub read-written : (f : SubFunction) (s : List ℕ) {l : Listing} → read_listing f s ≡ accepted l → write_listing l ≡ accepted s
unfolding write_listing
read-written f s {l} e =
    let (k, few, form, is) = accepted-is f s e in
    rw (le-leb _ _ few, eq-eqb (first_unfit l) (length l.records) (rw k (none-unfit f l.records form)), ← is) refl

-- ---- refusals
-- more than 4,096 whole records, a cut one or not
pub too_many_lem : (f : SubFunction) (s : List ℕ) → 3 ≤ length s → get_or s 0 0 ≡ answer_byte → get_or s 1 0 ≡ sub_function_byte f → 4096 < whole_records f s → read_listing f s ≡ refused too_many
unfolding read_listing
too_many_lem f s h a b m = rw (le-leb _ _ h, eq-eqb _ _ a, eq-eqb _ _ b, lt-leb _ _ m) refl

pub not_written : (l : Listing) → 4096 < length l.records → write_listing l ≡ refused too_many
unfolding write_listing
not_written l m = rw (lt-leb _ _ m) refl

-- a record that can't be written so
pub unfit-refused : (l : Listing) → length l.records ≤ 4096 → first_unfit l < length l.records → write_listing l ≡ refused (out_of_range (first_unfit l))
unfolding write_listing
unfit-refused l few h = rw (le-leb _ _ few, ne_eqb (first_unfit l) _ (ne_of_lt h)) refl

pub fit_written : (l : Listing) → length l.records ≤ 4096 → first_unfit l ≡ length l.records → write_listing l ≡ accepted (listing_bytes l)
unfolding write_listing
fit_written l few h = rw (le-leb _ _ few, eq-eqb (first_unfit l) _ h) refl

-- ---- records handed over
pub length_handed : (n : ℕ) (b : List ℕ) → length (handed_in n b) ≡ n
unfolding handed_in
length_handed = length_each handed_size handed_of

pub handed_there : (n k : ℕ) (b : List ℕ) → k < n → drop k (handed_in n b) ≡ handed_of (drop (handed_size * k) b) ∷ drop (suc k) (handed_in n b)
unfolding handed_in
handed_there = each_there handed_size handed_of

pub handed_more : (n : ℕ) (b : List ℕ) → handed_in (suc n) b ≡ handed_in n b ++ (handed_of (drop (handed_size * n) b) ∷ [])
unfolding handed_in
handed_more = each_more handed_size handed_of

-- where their severity is unknown, they hold zeros
handed_zero : (n : ℕ) (b : List ℕ) → Each UnknownIsZero (handed_in n b)
unfolding one_by_one handed_in
handed_zero zero b = tt
handed_zero (suc n) b = (by (eqb (get_or b 0 0) 0), handed_zero n (drop handed_size b))
  where
    by : (mark : Bool) → UnknownIsZero (pick mark (unknown_severity (trouble_code (get_or b 3 0) (get_or b 4 0) (get_or b 5 0)) (get_or b 6 0)) (known_severity (get_or b 1 0) (get_or b 2 0) (trouble_code (get_or b 3 0) (get_or b 4 0) (get_or b 5 0)) (get_or b 6 0)))
    by true h = (refl, refl)
    by false h = absurd (true≢false h)

-- the cases of writing them
pub handed_many : (f : SubFunction) (m : ℕ) (b : List ℕ) → 4096 < length b / handed_size → write_handed f m b ≡ refused too_many
unfolding write_handed
handed_many f m b h = rw (lt-leb _ _ h)

pub handed_cut : (f : SubFunction) (m : ℕ) (b : List ℕ) → length b / handed_size ≤ 4096 → (length b % handed_size ≡ 0 → ⊥) → write_handed f m b ≡ refused cut
unfolding write_handed
handed_cut f m b h e = rw (le-leb _ _ h, ne_eqb _ _ e)

pub handed_whole : (f : SubFunction) (m : ℕ) (b : List ℕ) → length b / handed_size ≤ 4096 → length b % handed_size ≡ 0
    → write_handed f m b ≡ write_listing (listing f m (handed_in (length b / handed_size) b))
unfolding write_handed
handed_whole f m b h e = rw (le-leb _ _ h, eq-eqb _ _ e)

-- and they read back
pub handed_read : (f : SubFunction) (m : ℕ) (b : List ℕ) {s : List ℕ} → write_handed f m b ≡ accepted s → read_listing f s ≡ accepted (listing f m (handed_in (length b / handed_size) b))
unfolding write_handed
handed_read f m b e =
    let (_, e₁) = check_passed (leb (length b / handed_size) 4096) too_many _ e in
    let (_, e₂) = check_passed (eqb (length b % handed_size) 0) cut _ e₁ in
    written_read (listing f m (handed_in (length b / handed_size) b)) (handed_zero (length b / handed_size) b) e₂
