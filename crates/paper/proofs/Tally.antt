-- Document 02, Req 01: the records of a sheet one by one, and what is to hold of tables holds of everything that answers as the paper does.
-- Assumes nothing.
use mathlib.Core.Path.{◌≡◌, refl, sym, ap, ap₂, ◌∙◌}
use Prim.Native.Nat.{ℕ, zero, suc, ◌+◌, ◌*◌, ◌/◌, ◌%◌, ◌≤◌, ◌<◌}
use mathlib.Core.Bool.{Bool, true, false}
use mathlib.Core.List.{List, [], ◌∷◌, ◌++◌, map, zip_with, Perm}
use native.Mathlib.Nat.{suc-add, zero-add, not-suc-le-zero, le_of_suc-le-suc}
use native.Mathlib.Omega.{arith}
use lib.ListN.{length, get_or, take, drop, replicate, length-append, length-drop}
use lib.Seq.{get_or-take, get_or-drop, drop-drop, take-append-le, drop-append-le}
use lib.Dec.{leb, eqb}
use borrow.Author.Tests.{leb-true, eqb-true, eq-eqb, ne_eqb}
use Rattle.paper.specs.Choice.{pick, both}
use Rattle.paper.specs.Answer.{Answer, accepted, refused, cut, out_of_range, too_many, check, ◌then◌}
use Rattle.paper.specs.Utf8.{in_range}
use Rattle.paper.specs.Tally.{Entry, entry_of, entries, whole_records, records, in_ranges, good, all_good, count, months, refusal_numbers, of_month, of_month_and_number, table, good_length, tallied, table_of, sum, plus, TablesRight}
use Rattle.paper.proofs.Choice.{both_true, never, check_passed, then_passed}
use Rattle.paper.proofs.Count.{one, count_append, all_pass_lem, count_perm, sum_zeros, split-count, one-equal, map_same, zip_values}

-- ---- the records, one by one
length_entries : (n : ℕ) (s : List ℕ) → length (entries n s) ≡ n
unfolding entries
length_entries zero s = refl
length_entries (suc n) s = ap suc (length_entries n (drop 8 s))

pub length_records : (s : List ℕ) → length (records s) ≡ whole_records s
unfolding records
length_records s = length_entries (whole_records s) s

-- the record at place k begins at byte 8 × k
entry_at : (n k : ℕ) (s : List ℕ) (d : Entry) → k < n → get_or (entries n s) k d ≡ entry_of (take 8 (drop (8 * k) s))
unfolding entries
entry_at zero k s d h = absurd (not-suc-le-zero h)
entry_at (suc n) zero s d h = refl
entry_at (suc n) (suc k) s d h =
    entry_at n k (drop 8 s) d (le_of_suc-le-suc h)
    ∙ ap (λ (t : List ℕ). entry_of (take 8 t)) (drop-drop (8 * k) 8 s)
    ∙ ap (λ (j : ℕ). entry_of (take 8 (drop j s))) (omega_at k)
  where
    omega_at : (k : ℕ) → 8 + 8 * k ≡ 8 * suc k
    omega_at k = omega arith

-- a byte of a record, in the sheet
byte_at : (s : List ℕ) (at i : ℕ) → i < 8 → get_or (take 8 (drop at s)) i 0 ≡ get_or s (at + i) 0
byte_at s at i h = get_or-take 8 (drop at s) i 0 h ∙ get_or-drop at s i 0

-- what is judged and counted of the record at place k
pub record Stands (s : List ℕ) (k : ℕ) (e : Entry) : Type 0 where
  pub month : e.month ≡ get_or s (8 * k) 0
  pub direction : e.direction ≡ get_or s (8 * k + 2) 0
  pub number : e.number ≡ get_or s (8 * k + 3) 0

pub record_stands : (s : List ℕ) (k : ℕ) (d : Entry) → k < whole_records s → Stands s k (get_or (records s) k d)
unfolding records
record_stands s k d h = rw (entry_at (whole_records s) k s d h) (record {
  month = byte_at s (8 * k) 0 (omega arith) ∙ ap (λ (j : ℕ). get_or s j 0) (omega_zero (8 * k));
  direction = byte_at s (8 * k) 2 (omega arith);
  number = byte_at s (8 * k) 3 (omega arith);
})
  where
    omega_zero : (n : ℕ) → n + 0 ≡ n
    omega_zero n = omega arith

-- ---- the ranges
pub record Ranges (m d n : ℕ) : Type 0 where
  pub from : 1 ≤ m
  pub to : m ≤ 12
  pub small : n ≤ 9

pub in-ranges : (m d n : ℕ) → in_ranges m d n ≡ true → Ranges m d n
unfolding in_ranges in_range
in-ranges m d n e =
    let (a, b) = both_true (in_range (1, 12) m) _ e in
    let (f, t) = both_true (leb 1 m) (leb m 12) a in
    let (_, c) = both_true (in_range (0, 1) d) (in_range (0, 9) n) b in
    let (_, u) = both_true (leb 0 n) (leb n 9) c in
    record { from = leb-true _ _ f; to = leb-true _ _ t; small = leb-true _ _ u }

-- the records are all good exactly if as many are as there are
pub all-good : (k : ℕ) (es : List Entry) → all_good k es ≡ accepted tt → count good es ≡ length es
unfolding all_good count
all-good k [] e = refl
all-good k (x ∷ es) e = let (p, q) = check_passed (good x) (out_of_range k) (all_good (suc k) es) e in rw p (omega (arith, all-good (suc k) es q))

pub good-all : (k : ℕ) (es : List Entry) → count good es ≡ length es → all_good k es ≡ accepted tt
unfolding all_good
good-all k [] e = refl
good-all k (x ∷ es) e = let (p, q) = all_pass_lem good x es e in rw p (good-all (suc k) es q)

-- ---- what an accepted sheet has
pub record Accepted (s : List ℕ) (t : List (List ℕ)) : Type 0 where
  pub whole : length s % 8 ≡ 0
  pub good : count good (records s) ≡ length (records s)
  pub is : t ≡ table (records s)

pub accepted-has : (s : List ℕ) {t : List (List ℕ)} → tallied s ≡ accepted t → Accepted s t
unfolding tallied
accepted-has s e =
    let (_, l, f) = then_passed (good_length (length s)) (all_good 0 (records s) then accepted (table (records s))) e in
    let (_, g) = check_passed (leb (whole_records s) 65536) too_many (check (eqb (length s % 8) 0) cut (accepted tt)) l in
    let (_, p, q) = then_passed (all_good 0 (records s)) (accepted (table (records s))) f in
    record { whole = eqb-true _ _ (check_passed _ cut _ g).0; good = all-good 0 (records s) p; is = cc }

-- ---- a month's cells, and all cells
-- the number of a good record is one of ten
ten-numbers : (m : ℕ) (e : Entry) → good e ≡ true → sum (map (λ (n : ℕ). one (of_month_and_number m n e)) refusal_numbers) ≡ one (of_month m e)
ten-numbers m e g = by (of_month m e)
  where
    small : e.number ≤ 9
    small = (in-ranges e.month e.direction e.number g).small

    by : (b : Bool) → sum (map (λ (n : ℕ). one (both b (eqb e.number n))) refusal_numbers) ≡ one b
    by true = one-equal e.number 0 10 (omega arith) (omega (arith, small))
    by false = sum_zeros refusal_numbers

-- its month is one of twelve
twelve-months : (e : Entry) → good e ≡ true → sum (map (λ (m : ℕ). one (of_month m e)) months) ≡ one true
twelve-months e g = let r = in-ranges e.month e.direction e.number g in one-equal e.month 1 12 r.from (omega (arith, r.to))

month-sum : (m : ℕ) (es : List Entry) → count good es ≡ length es → sum (map (λ (n : ℕ). count (of_month_and_number m n) es) refusal_numbers) ≡ count (of_month m) es
month-sum m es h = split-count (of_month_and_number m) (of_month m) good refusal_numbers (ten-numbers m) es h

pub month-cells : (es : List Entry) → count good es ≡ length es → map sum (table es) ≡ map (λ (m : ℕ). count (of_month m) es) months
unfolding table
month-cells es g = map_same (λ (m : ℕ). sum (map (λ (n : ℕ). count (of_month_and_number m n) es) refusal_numbers)) (λ (m : ℕ). count (of_month m) es) months (λ m. month-sum m es g)

-- a test that all pass counts all
count-all : (es : List Entry) → count (λ (e : Entry). true) es ≡ length es
unfolding count
count-all [] = refl
count-all (e ∷ es) = omega (arith, count-all es)

pub all-cells : (es : List Entry) → count good es ≡ length es → sum (map sum (table es)) ≡ length es
all-cells es g = ap sum (month-cells es g) ∙ split-count of_month (λ (e : Entry). true) good months twelve-months es g ∙ count-all es

-- ---- the order of the records
pub table_perm : {es fs : List Entry} → Perm es fs → table es ≡ table fs
unfolding table
table_perm {es} {fs} p = map_same _ _ months (λ m. map_same _ _ refusal_numbers (λ n. count_perm (of_month_and_number m n) p))

-- the table of some records, or zeros where one is not good
abbrev zeros : List (List ℕ)
zeros = replicate 12 (replicate 10 0)

by_count : (k : ℕ) (es : List Entry) (t : List (List ℕ)) → table_of (all_good k es then accepted t) ≡ pick (eqb (count good es) (length es)) t zeros
by_count k es t = by (all_good k es) refl
  where
    by : (a : Answer (Unit {0})) → all_good k es ≡ a → table_of (a then accepted t) ≡ pick (eqb (count good es) (length es)) t zeros
    by (accepted u) p = rw (eq-eqb _ _ (all-good k es p)) refl
    by (refused r) p = let ne : count good es ≡ length es → ⊥ = λ e. never (sym p ∙ good-all k es e) in rw (ne_eqb _ _ ne) refl

-- the table of a sheet of n bytes, of whose records t is the table or zeros
abbrev after_length : ℕ → List (List ℕ) → List (List ℕ)
after_length n t = pick (leb (n / 8) 65536) (pick (eqb (n % 8) 0) t zeros) zeros

after-length : (b c : Bool) (a : Answer (List (List ℕ))) → table_of (check b too_many (check c cut (accepted (tt {0}))) then a) ≡ pick b (pick c (table_of a) zeros) zeros
after-length true true a = refl
after-length true false a = refl
after-length false c a = refl

judged : (s : List ℕ) → table_of (tallied s) ≡ after_length (length s) (pick (eqb (count good (records s)) (length (records s))) (table (records s)) zeros)
unfolding tallied
judged s = rw (after-length (leb (whole_records s) 65536) (eqb (length s % 8) 0) (all_good 0 (records s) then accepted (table (records s))), by_count 0 (records s)) refl

pub order-kept : (s u : List ℕ) → length s ≡ length u → Perm (records s) (records u) → table_of (tallied s) ≡ table_of (tallied u)
order-kept s u l p = judged s ∙ ap₂ (λ (n : ℕ) (t : List (List ℕ)). after_length n t) l same ∙ sym (judged u)
  where
    same : pick (eqb (count good (records s)) (length (records s))) (table (records s)) zeros ≡ pick (eqb (count good (records u)) (length (records u))) (table (records u)) zeros
    same = rw (count_perm good p, table_perm p, length_records s, length_records u, l) refl

-- ---- two sheets joined
entries_join : (n m : ℕ) (s u : List ℕ) → length s ≡ 8 * n → entries (n + m) (s ++ u) ≡ entries n s ++ entries m u
unfolding entries
entries_join zero m [] u h = ap (λ (k : ℕ). entries k u) (zero-add m)
entries_join zero m (b ∷ s) u h = absurd (omega arith)
entries_join (suc n) m s u h =
    let enough : 8 ≤ length s = omega arith in
    let rest : length (drop 8 s) ≡ 8 * n = omega (arith, length-drop 8 s) in
    ap (λ (k : ℕ). entries k (s ++ u)) (suc-add n m)
    ∙ ap₂ (λ (a b : List ℕ). entry_of a ∷ entries (n + m) b) (take-append-le 8 s u enough) (drop-append-le 8 s u enough)
    ∙ ap (λ (es : List Entry). entry_of (take 8 s) ∷ es) (entries_join n m (drop 8 s) u rest)

-- the records of two sheets, the first of which has no piece of a record at its end
pub records_join : (s u : List ℕ) → length s % 8 ≡ 0 → records (s ++ u) ≡ records s ++ records u
unfolding records
records_join s u h =
    let whole : length s ≡ 8 * (length s / 8) = omega arith in
    let both : length (s ++ u) / 8 ≡ length s / 8 + length u / 8 = omega (arith, length-append s u) in
    ap (λ (n : ℕ). entries n (s ++ u)) both ∙ entries_join (length s / 8) (length u / 8) s u whole

-- a cell
abbrev cell : List Entry → ℕ → ℕ → ℕ
cell es m n = count (of_month_and_number m n) es

pub table_join : (es fs : List Entry) → table (es ++ fs) ≡ plus (table es) (table fs)
unfolding table
table_join es fs =
    map_same _ _ months (λ m. map_same _ _ refusal_numbers (λ n. count_append (of_month_and_number m n) es fs) ∙ sym (zip_values ◌+◌ (cell es m) (cell fs m) refusal_numbers))
    ∙ sym (zip_values (zip_with ◌+◌) (λ (m : ℕ). map (cell es m) refusal_numbers) (λ (m : ℕ). map (cell fs m) refusal_numbers) months)

-- two sheets of good length whose records are good
pub join_accepted : (s u : List ℕ) {t v : List (List ℕ)} → Accepted s t → Accepted u v → good_length (length (s ++ u)) ≡ accepted tt → tallied (s ++ u) ≡ accepted (plus t v)
unfolding tallied
join_accepted s u {t} {v} h g long =
    let all : count good (records (s ++ u)) ≡ length (records (s ++ u)) =
    rw (records_join s u h.whole, count_append good (records s) (records u), length-append (records s) (records u), h.good, g.good) refl in
    rw (long, good-all 0 (records (s ++ u)) all)
    (ap accepted (ap table (records_join s u h.whole) ∙ table_join (records s) (records u) ∙ sym (ap₂ plus h.is g.is)))

-- ---- so it holds of everything that answers as the paper does
pub tables_right : (Answers : List ℕ → Answer (List (List ℕ)) → Type 0) → ((s : List ℕ) (a : Answer (List (List ℕ))) → Answers s a → a ≡ tallied s) → TablesRight Answers
tables_right Answers right = record {
  month = λ {s} {t} h. let x = accepted-has s (sym (right s (accepted t) h)) in rw x.is (month-cells (records s) x.good);
  all = λ {s} {t} h. let x = accepted-has s (sym (right s (accepted t) h)) in rw x.is (all-cells (records s) x.good);
  order = λ {s} {u} {a} {b} l p h g. ap table_of (right s a h) ∙ order-kept s u l p ∙ sym (ap table_of (right u b g));
  joined = λ {s} {u} {t} {v} {a} h g long k.
      right (s ++ u) a k ∙ join_accepted s u (accepted-has s (sym (right s (accepted t) h))) (accepted-has u (sym (right u (accepted v) g))) long;
}

-- of the paper's own answers first
pub paper_tables_right : TablesRight (λ (s : List ℕ) (a : Answer (List (List ℕ))). a ≡ tallied s)
paper_tables_right = tables_right (λ (s : List ℕ) (a : Answer (List (List ℕ))). a ≡ tallied s) (λ s a h. h)
