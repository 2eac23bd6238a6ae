-- Document 02, Req 01, "Wrong loads by month": the year's sheet of refusals, from records of 8 bytes without a header.
use Rattle.std.specs.Prelude.{ℕ, zero, suc, ◌+◌, ◌/◌, ◌%◌, ◌≡◌, Bool, length, get_or, take, drop, replicate, leb, eqb}
use mathlib.Core.List.{List, [], ◌∷◌, ◌++◌, map, zip_with, Perm}
use Rattle.paper.specs.Choice.{pick, both}
use Rattle.paper.specs.Answer.{cut, out_of_range, too_many, Answer, accepted, refused, check, ◌then◌}
use Rattle.paper.specs.Bytes.{of_bytes}
use Rattle.paper.specs.Utf8.{in_range}

-- ---- a record
-- the fields: the direction is 0 for a request and 1 for a response, the number is the refusal's
pub record Entry : Type 0 where
  pub month : ℕ
  pub station : ℕ
  pub direction : ℕ
  pub number : ℕ
  pub coach : ℕ

-- where they stand in 8 bytes: the coach number in four, high first
abbrev pub entry_of : List ℕ → Entry
entry_of b = record { month = get_or b 0 0; station = get_or b 1 0; direction = get_or b 2 0; number = get_or b 3 0; coach = of_bytes (drop 4 b) }

-- n records, one after the other
unfoldable pub entries : ℕ → List ℕ → List Entry
entries zero s = []
entries (suc n) s = entry_of (take 8 s) ∷ entries n (drop 8 s)

-- how many whole records some bytes have
abbrev pub whole_records : List ℕ → ℕ
whole_records s = length s / 8

-- the whole records of some bytes
unfoldable pub records : List ℕ → List Entry
records s = entries (whole_records s) s

-- ---- the ranges
-- month 1 to 12, direction 0 or 1, refusal number 0 to 9
unfoldable pub in_ranges : (month direction number : ℕ) → Bool
in_ranges m d n = both (in_range (1, 12) m) (both (in_range (0, 1) d) (in_range (0, 9) n))

-- station and coach number may be anything
abbrev pub good : Entry → Bool
good e = in_ranges e.month e.direction e.number

-- 11 at the first record with a field out of range, carrying its place; k is the place of the first of these
unfoldable pub all_good : ℕ → List Entry → Answer (Unit {0})
all_good k [] = accepted tt
all_good k (e ∷ es) = check (good e) (out_of_range k) (all_good (suc k) es)

-- ---- the table
-- how many elements of a list pass a test
unfoldable pub count : {A : Type 0} → (A → Bool) → List A → ℕ
count test [] = 0
count test (x ∷ xs) = pick (test x) 1 0 + count test xs

-- January to December
abbrev pub months : List ℕ
months = 1 ∷ 2 ∷ 3 ∷ 4 ∷ 5 ∷ 6 ∷ 7 ∷ 8 ∷ 9 ∷ 10 ∷ 11 ∷ 12 ∷ []

-- 0 is accepted
abbrev pub refusal_numbers : List ℕ
refusal_numbers = 0 ∷ 1 ∷ 2 ∷ 3 ∷ 4 ∷ 5 ∷ 6 ∷ 7 ∷ 8 ∷ 9 ∷ []

-- the record has this month
abbrev pub of_month : ℕ → Entry → Bool
of_month m e = eqb e.month m

-- and this refusal number
abbrev pub of_month_and_number : ℕ → ℕ → Entry → Bool
of_month_and_number m n e = both (of_month m e) (eqb e.number n)

-- twelve months by ten refusal numbers, each cell a count of records
unfoldable pub table : List Entry → List (List ℕ)
table es = map (λ (m : ℕ). map (λ (n : ℕ). count (of_month_and_number m n) es) refusal_numbers) months

-- ---- the answer
-- 12 for more whole records than 65,536, then 10 when the length is no multiple of 8
abbrev pub good_length : ℕ → Answer (Unit {0})
good_length n = check (leb (n / 8) 65536) too_many (check (eqb (n % 8) 0) cut (accepted tt))

-- 12, then 10, then 11, else the table
unfoldable pub tallied : List ℕ → Answer (List (List ℕ))
tallied s = good_length (length s) then all_good 0 (records s) then accepted (table (records s))

-- each refusal gives a table of zeros
abbrev pub table_of : Answer (List (List ℕ)) → List (List ℕ)
table_of (accepted t) = t
table_of (refused e) = replicate 12 (replicate 10 0)

-- and what the call beside the table says: accepted, or the refusal
abbrev pub verdict : Answer (List (List ℕ)) → Answer (Unit {0})
verdict (accepted t) = accepted tt
verdict (refused e) = refused e

-- ---- what is to hold of tables, whoever makes them
-- some numbers added up
unfoldable pub sum : List ℕ → ℕ
sum [] = 0
sum (x ∷ xs) = x + sum xs

-- two tables added, cell by cell
abbrev pub plus : List (List ℕ) → List (List ℕ) → List (List ℕ)
plus t u = zip_with (zip_with ◌+◌) t u

-- `Answers s a`: the sheet s was answered with a
pub record TablesRight (Answers : List ℕ → Answer (List (List ℕ)) → Type 0) : Type 0 where
  -- a month's cells add up to its records
  pub month : {s : List ℕ} {t : List (List ℕ)} → Answers s (accepted t) → map sum t ≡ map (λ (m : ℕ). count (of_month m) (records s)) months
  -- all cells add up to all records
  pub all : {s : List ℕ} {t : List (List ℕ)} → Answers s (accepted t) → sum (map sum t) ≡ length (records s)
  -- the table does not depend on the order of the records
  pub order : {s u : List ℕ} {a b : Answer (List (List ℕ))} → length s ≡ length u → Perm (records s) (records u) → Answers s a → Answers u b → table_of a ≡ table_of b
  -- two sheets joined are accepted where they are not too long, and their table is the sum of the two
  pub joined : {s u : List ℕ} {t v : List (List ℕ)} {a : Answer (List (List ℕ))} → Answers s (accepted t) → Answers u (accepted v)
      → good_length (length (s ++ u)) ≡ accepted tt → Answers (s ++ u) a → a ≡ accepted (plus t v)
