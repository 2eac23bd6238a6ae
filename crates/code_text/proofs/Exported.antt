-- The lines of a listing's first records, one more, and what exporting answers. Assumes nothing.
use mathlib.Core.Path.{◌≡◌, refl, sym, ap, ◌∙◌}
use Prim.Native.Nat.{ℕ, zero, suc, ◌+◌, ◌-◌, ◌*◌, ◌%◌, ◌≤◌}
use mathlib.Core.List.{List, [], ◌∷◌, ◌++◌, append_assoc, append-nil}
use native.Mathlib.Numerals.{add-one}
use native.Mathlib.Omega.{arith}
use lib.ListN.{length, get_or, get_elem?, take, drop}
use lib.Dec.{leb, eqb}
use borrow.Author.Tests.{leb-true}
use lib.Seq.{length-take-le, take_all}
use Rattle.paper.specs.Choice.{both}
use Rattle.paper.specs.Answer.{Refusal, Answer, accepted, refused, too_short, unknown_service, too_many, cut}
use Rattle.paper.specs.Listing.{SubFunction, Listed, Listing, listing, answer_byte, sub_function_byte, record_size, records_in, whole_records, read_listing, Head, head_of, record_at}
use Rattle.paper.specs.CodeText.{line_text, lines_text, export_listing}
use Rattle.paper.proofs.Choice.{never, check_passed}
use Rattle.paper.proofs.Listing.{length_records}
use Rattle.paper.proofs.LineText.{length_lines}
use Rattle.paper.proofs.ListingText.{export_accepted, export_refused}
use Rattle.wire.specs.Writing.{Filled}
use Rattle.wire.proofs.Over.{rest, back, over_length, filled_none, filled_more, filled_as}
use Rattle.code_text.specs.Lines.{line_shown, records_read}

-- ---- of a list of records
one_more_lem : (rs : List Listed) (k : ℕ) → lines_text (take k rs) ++ line_shown (get_elem? rs k) ≡ lines_text (take (suc k) rs)
unfolding lines_text
one_more_lem [] zero = refl
one_more_lem [] (suc k) = refl
one_more_lem (r ∷ rs) zero = sym (append-nil (line_text r))
one_more_lem (r ∷ rs) (suc k) = append_assoc (line_text r) (lines_text (take k rs)) (line_shown (get_elem? rs k)) ∙ ap (λ (t : List ℕ). line_text r ++ t) (one_more_lem rs k)

-- ---- of a listing that was read
read_at : (a : Answer Listing) (k : ℕ) → record_at k a ≡ get_elem? (records_read a) k
read_at (accepted l) k = refl
read_at (refused e) zero = refl
read_at (refused e) (suc k) = refl

-- the lines of its first k records
abbrev pub lines_to : Answer Listing → ℕ → List ℕ
lines_to a k = lines_text (take k (records_read a))

module _ (a : Answer Listing) (n : ℕ) (count : length (records_read a) ≡ n) where
  length_to : (k : ℕ) → k ≤ n → length (lines_to a k) ≡ 12 * k
  length_to k h = length_lines (take k (records_read a)) ∙ ap (λ (j : ℕ). 12 * j) (length-take-le k (records_read a) (omega arith))

  pub no_line : {old : List ℕ} → Filled (lines_to a 0) old old
  unfolding lines_text
  no_line = filled_none

  next : (k : ℕ) → lines_to a k ++ line_shown (record_at k a) ≡ lines_to a (k + 1)
  next k = rw (read_at a k, add-one k) (one_more_lem (records_read a) k)

  pub line_more : (k : ℕ) {old xs ys : List ℕ} → k ≤ n → Filled (lines_to a k) old xs → Filled (line_shown (record_at k a)) (rest (12 * k) xs) ys → Filled (lines_to a (k + 1)) old (back (12 * k) xs ys)
  line_more k {ys = ys} h before here = filled_as (next k) (filled_more {ys = ys} (12 * k) before here (length_to k h))

  -- the room is as long as it was
  pub same-room : (k : ℕ) {old xs : List ℕ} → k ≤ n → 12 * n ≤ length old → Filled (lines_to a k) old xs → length xs ≡ length old
  same-room k {old} h room filled =
      let short : length (lines_to a k) ≤ length old = omega (arith, length_to k h) in
      ap length (filled.given_room short) ∙ over_length (lines_to a k) old short

  -- all of them
  pub all_lines : lines_to a n ≡ lines_text (records_read a)
  all_lines = ap lines_text (take_all n (records_read a) (omega arith))

  pub length_all : length (lines_text (records_read a)) ≡ 12 * n
  length_all = length_lines (records_read a) ∙ ap (λ (j : ℕ). 12 * j) count

-- ---- what was read is exported
-- few records are read
few_read : (f : SubFunction) (s : List ℕ) {l : Listing} → read_listing f s ≡ accepted l → length l.records ≤ 4096
unfolding read_listing
few_read f s {l} e =
    let (long, e₁) = check_passed (leb 3 (length s)) (too_short 3 (length s)) _ e in
    let (first, e₂) = check_passed (both (eqb (get_or s 0 0) answer_byte) (eqb (get_or s 1 0) (sub_function_byte f))) (unknown_service 0) _ e₁ in
    let (few, e₃) = check_passed (leb (whole_records f s) 4096) too_many _ e₂ in
    let (whole, e₄) = check_passed (eqb ((length s - 3) % record_size f) 0) cut _ e₃ in
    let is : l ≡ listing f (get_or s 2 0) (records_in f (whole_records f s) (drop 3 s)) = cc in
    rw (is, length_records f (whole_records f s) (drop 3 s)) (leb-true _ _ few)

module _ (f : SubFunction) (s : List ℕ) where
  pub read_count : {m n : ℕ} → accepted (record { mask = m; records = n }) ≡ head_of (read_listing f s) → (n ≤ 4096) × (length (records_read (read_listing f s)) ≡ n)
  read_count {m} {n} h = by (read_listing f s) refl h
    where
      by : (a : Answer Listing) → read_listing f s ≡ a → accepted (record { mask = m; records = n }) ≡ head_of a → (n ≤ 4096) × (length (records_read a) ≡ n)
      by (refused e) r q = absurd (never (sym q))
      by (accepted l) r q =
          let head : ◌≡◌ {A = Head} (record { mask = m; records = n }) (record { mask = l.mask; records = length l.records }) = cc in
          let many : n ≡ length l.records = ap Head.records head in
          (rw many (few_read f s r), sym many)

  pub read_exported : {m n : ℕ} → accepted (record { mask = m; records = n }) ≡ head_of (read_listing f s) → export_listing f s ≡ accepted (lines_text (records_read (read_listing f s)))
  read_exported {m} {n} h = by (read_listing f s) refl h
    where
      by : (a : Answer Listing) → read_listing f s ≡ a → accepted (record { mask = m; records = n }) ≡ head_of a → export_listing f s ≡ accepted (lines_text (records_read a))
      by (refused e) r q = absurd (never (sym q))
      by (accepted l) r q = export_accepted f s r

  pub refused_exported : {e : Refusal} → refused e ≡ head_of (read_listing f s) → export_listing f s ≡ refused e
  refused_exported {e} h = by (read_listing f s) refl h
    where
      by : (a : Answer Listing) → read_listing f s ≡ a → refused e ≡ head_of a → export_listing f s ≡ refused e
      by (refused x) r q = let same : e ≡ x = cc in rw same (export_refused f s r)
      by (accepted l) r q = absurd (never q)
