-- What each turn of a loop over the records shows, and what follows for the sheet.
-- Assumes nothing.
use mathlib.Core.Path.{◌≡◌, refl, sym, ap, ◌∙◌}
use Prim.Native.Nat.{ℕ, zero, suc, ◌+◌, ◌*◌, ◌/◌, ◌%◌, ◌≤◌, ◌<◌}
use mathlib.Core.Bool.{Bool, true, false}
use mathlib.Core.List.{List, [], ◌∷◌}
use native.Mathlib.Numerals.{add-one}
use native.Mathlib.Omega.{arith}
use lib.ListN.{length, get_or, drop, drop_of_length-le}
use lib.Seq.{drop-cons}
use lib.Dec.{leb, eqb}
use borrow.Author.Tests.{leb-true}
use Rattle.paper.specs.Answer.{Refusal, cut, out_of_range, too_many, Answer, accepted, refused, check, ◌then◌}
use Rattle.std.specs.Simd.{first_chunks}
use Rattle.paper.specs.Tally.{Entry, entry_of, entries, whole_records, records, in_ranges, good, all_good, table, good_length, tallied}
use Rattle.paper.proofs.Choice.{check_passed}
use Rattle.paper.proofs.Tally.{length_records, record_stands}

-- ---- the records, as the parts of eight bytes
-- the record at place k
abbrev pub record_at : List ℕ → ℕ → Entry
record_at s k = get_or (records s) k (entry_of [])

entry_in : (n k : ℕ) (s : List ℕ) → get_or (entries n s) k (entry_of []) ≡ entry_of (get_or (first_chunks 8 n s) k [])
unfolding entries
entry_in zero k s = refl
entry_in (suc n) zero s = refl
entry_in (suc n) (suc k) s = entry_in n k (drop 8 s)

pub record_of : (s : List ℕ) (k : ℕ) {parts : List (List ℕ)} → parts ≡ first_chunks 8 (whole_records s) s → record_at s k ≡ entry_of (get_or parts k [])
unfolding records
record_of s k is = rw is (entry_in (whole_records s) k s)

-- the bytes of a part that are judged and counted are the sheet's
pub record BytesOf (s : List ℕ) (k : ℕ) (part : List ℕ) : Type 0 where
  pub month : get_or s (8 * k) 0 ≡ get_or part 0 0
  pub direction : get_or s (8 * k + 2) 0 ≡ get_or part 2 0
  pub number : get_or s (8 * k + 3) 0 ≡ get_or part 3 0

pub bytes_of : (s : List ℕ) (k : ℕ) {parts : List (List ℕ)} → parts ≡ first_chunks 8 (whole_records s) s → k < whole_records s → BytesOf s k (get_or parts k [])
bytes_of s k is within =
    let e = record_stands s k (entry_of []) within in
    let same = record_of s k is in
    record { month = sym e.month ∙ ap Entry.month same; direction = sym e.direction ∙ ap Entry.direction same; number = sym e.number ∙ ap Entry.number same }

-- ---- a turn
-- all records before place k are good, so that the judgement of the others is that of all
abbrev pub GoodSoFar : List ℕ → ℕ → Type 0
GoodSoFar s k = all_good k (drop k (records s)) ≡ all_good 0 (records s)

-- whether the three fields that are judged are in their ranges, of the sheet's bytes at place k
abbrev pub judged_bytes : List ℕ → ℕ → Bool
judged_bytes s k = in_ranges (get_or s (8 * k) 0) (get_or s (8 * k + 2) 0) (get_or s (8 * k + 3) 0)

pub judged_of : {s : List ℕ} {k : ℕ} {part : List ℕ} → BytesOf s k part → judged_bytes s k ≡ in_ranges (get_or part 0 0) (get_or part 2 0) (get_or part 3 0)
judged_of h = rw (h.month, h.direction, h.number) refl

module _ (s : List ℕ) (k : ℕ) (within : k < whole_records s) where
  bytes-judged : judged_bytes s k ≡ good (record_at s k)
  bytes-judged = let e = record_stands s k (entry_of []) within in rw (e.month, e.direction, e.number) refl

  step : drop k (records s) ≡ record_at s k ∷ drop (suc k) (records s)
  step = drop-cons (records s) k (entry_of []) (omega (arith, length_records s))

  -- past a good record
  pub good_record_turn : GoodSoFar s k → good (record_at s k) ≡ true → GoodSoFar s (k + 1)
  unfolding all_good
  good_record_turn so_far here = rw add-one (rw (step, here) at so_far)

  pub good_turn : GoodSoFar s k → judged_bytes s k ≡ true → GoodSoFar s (k + 1)
  good_turn so_far g = good_record_turn so_far (sym bytes-judged ∙ g)

  -- at one that is not
  pub bad_record_turn : GoodSoFar s k → good (record_at s k) ≡ false → all_good 0 (records s) ≡ refused (out_of_range k)
  unfolding all_good
  bad_record_turn so_far here = sym (rw (step, here) at so_far)

  pub bad_turn : GoodSoFar s k → judged_bytes s k ≡ false → all_good 0 (records s) ≡ refused (out_of_range k)
  bad_turn so_far g = bad_record_turn so_far (sym bytes-judged ∙ g)

-- past the last one
pub no-more : (s : List ℕ) (k : ℕ) → whole_records s ≤ k → GoodSoFar s k → all_good 0 (records s) ≡ accepted tt
unfolding all_good
no-more s k h so_far = sym (rw (drop_of_length-le (records s) {i = k} (omega (arith, length_records s))) at so_far)

-- ---- the sheet
module _ (s : List ℕ) where
  -- the length is refused
  pub length_refused : {e : Refusal} → refused e ≡ good_length (length s) → refused e ≡ tallied s
  unfolding tallied
  length_refused h = ap (λ (a : Answer (Unit {0})). a then all_good 0 (records s) then accepted (table (records s))) h

  module _ (long : accepted tt ≡ good_length (length s)) where
    -- a record is refused
    pub record_refused : {e : Refusal} → all_good 0 (records s) ≡ refused e → refused e ≡ tallied s
    unfolding tallied
    record_refused h = rw (← long, h) refl

    -- all are good
    pub counted : all_good 0 (records s) ≡ accepted tt → accepted (table (records s)) ≡ tallied s
    unfolding tallied
    counted h = rw (← long, h) refl

-- a good length has at most 65,536 whole records
pub few : (n : ℕ) → accepted tt ≡ good_length n → n / 8 ≤ 65536
few n h = leb-true _ _ (check_passed (leb (n / 8) 65536) too_many (check (eqb (n % 8) 0) cut (accepted tt)) (sym h)).0
