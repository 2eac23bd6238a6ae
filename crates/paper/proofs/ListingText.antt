-- Document 02, Req 12: a listing that is exported and imported again has the same codes and statuses in the same order, and a text that is imported and exported again is the same text.
-- Assumes nothing.
use mathlib.Core.Path.{◌≡◌, refl, sym, ap, ap₂, subst, ◌∙◌}
use Prim.Native.Nat.{ℕ, zero, suc, ◌+◌, ◌*◌, ◌/◌, ◌%◌, ◌≤◌, ◌<◌}
use mathlib.Core.Bool.{Bool, true, false}
use mathlib.Core.List.{List, [], ◌∷◌, ◌++◌, map}
use mathlib.Core.Logic.{◌↔◌, ◌⊎◌, inl, inr, ⊎_elim}
use native.Mathlib.Omega.{arith}
use lib.ListN.{length, get_or, drop, length-append, length-map, get_or-append}
use lib.Seq.{get_or_at}
use lib.Dec.{leb}
use borrow.Author.Tests.{leb-true, leb-false, le-leb, lt-leb, eqb-true}
use Rattle.paper.specs.Answer.{Refusal, Answer, accepted, refused, too_many, bad_character, check}
use Rattle.paper.specs.Bytes.{Bytes}
use Rattle.paper.specs.Joined.{Each}
use Rattle.paper.specs.Listing.{SubFunction, by_status_mask, by_severity_mask, Listed, record_bytes, Listing, listing, one_by_one, read_listing, records_bytes, listing_bytes, InForm}
use Rattle.paper.specs.CodeText.{lines_text, export_in, export_listing, lines, can_stand, records_in_lines, import_listing, without_severity, InRow, FirstBad, NoneBad}
use Rattle.paper.proofs.Choice.{never, check_passed}
use Rattle.paper.proofs.Bytes.{bytes_left, bytes-right}
use Rattle.paper.proofs.Listing.{length_bytes, accepted-is, bytes-accepted}
use Rattle.paper.proofs.Spelling.{row_in}
use Rattle.paper.proofs.TextPlaces.{Right, right-none, none_right, right-passes, bad-refused, passed_right, refused_by}
use Rattle.paper.proofs.LineText.{LineBytes, length_lines, length-in-lines, lines_back, lines-right, lines-spelt}

-- ---- what is exported
pub export_accepted : (f : SubFunction) (s : List ℕ) {l : Listing} → read_listing f s ≡ accepted l → export_listing f s ≡ accepted (lines_text l.records)
unfolding export_listing
export_accepted f s e = rw e

pub export_refused : (f : SubFunction) (s : List ℕ) {e : Refusal} → read_listing f s ≡ refused e → export_listing f s ≡ refused e
unfolding export_listing
export_refused f s e = rw e

-- ---- what is imported, in the order of the checks
abbrev pub imported_as : ℕ → List ℕ → List ℕ
imported_as m t = listing_bytes (listing by_status_mask m (records_in_lines (length t / 12) t))

module _ (m : ℕ) (t : List ℕ) where
  abbrev judged_few : Answer (List ℕ)
  judged_few = check (leb (length t / 12) 4096) too_many (accepted (imported_as m t))

  pub import_bad : (p : ℕ) → FirstBad lines t p → import_listing m t ≡ refused (bad_character p)
  unfolding import_listing
  import_bad p f = bad-refused lines t judged_few p f

  pub import_many : Right lines t → 4096 < length t / 12 → import_listing m t ≡ refused too_many
  unfolding import_listing
  import_many r h = right-passes lines t judged_few r ∙ rw (lt-leb _ _ h)

  pub import_good : Right lines t → length t / 12 ≤ 4096 → import_listing m t ≡ accepted (imported_as m t)
  unfolding import_listing
  import_good r h = right-passes lines t judged_few r ∙ rw (le-leb _ _ h)

  -- what was accepted
  import_is : {s : List ℕ} → import_listing m t ≡ accepted s → Right lines t × (length t / 12 ≤ 4096) × (s ≡ imported_as m t)
  unfolding import_listing
  import_is {s} e =
      let (r, e₁) = passed_right lines t judged_few e in
      let (few, e₂) = check_passed (leb (length t / 12) 4096) too_many (accepted (imported_as m t)) e₁ in
      (r, leb-true _ _ few, cc)

  -- ---- its refusals
  few-refused : {e : Refusal} → judged_few ≡ refused e → (e ≡ too_many) × (4096 < length t / 12)
  few-refused {e} q = by (leb (length t / 12) 4096) refl q
    where
      by : (b : Bool) → leb (length t / 12) 4096 ≡ b → check b too_many (accepted (imported_as m t)) ≡ refused e → (e ≡ too_many) × (4096 < length t / 12)
      by true w q = absurd (never (sym q))
      by false w q = (cc, leb-false _ _ w)

  -- 18 with the first place at which something can't stand, or 12 where there is none and the lines are too many; no other
  pub import_refused : {e : Refusal} → import_listing m t ≡ refused e → ((p : ℕ) × (e ≡ bad_character p) × FirstBad lines t p) ⊎ ((e ≡ too_many) × NoneBad lines t × (4096 < length t / 12))
  unfolding import_listing
  import_refused q = ⊎_elim inl (λ (r, w). let (is, many) = few-refused w in inr (is, right-none lines t r, many)) (refused_by lines t judged_few q)

  -- each exactly then
  pub bad-lines : (p : ℕ) → (import_listing m t ≡ refused (bad_character p)) ↔ FirstBad lines t p
  bad-lines p = (λ e. ⊎_elim (λ (q, is, f). subst (FirstBad lines t) (sym (ap Refusal.first is)) f) (λ (is, _, _). absurd (omega (arith, ap Refusal.number is))) (import_refused e), import_bad p)

  pub many-lines : (import_listing m t ≡ refused too_many) ↔ (NoneBad lines t × (4096 < length t / 12))
  many-lines =
      (λ e. ⊎_elim (λ (_, is, _). absurd (omega (arith, ap Refusal.number is))) (λ (_, none, many). (none, many)) (import_refused e), λ (none, many). import_many (none_right lines t none) many)

-- where there is no such place, they are whole lines
pub whole-lines : (t : List ℕ) → NoneBad lines t → length t ≡ 12 * (length t / 12)
whole-lines t n = let whole : length t % 12 ≡ 0 = eqb-true _ _ (none_right lines t n).ends in omega arith

-- ---- a listing, exported and imported
-- codes and statuses of a message are bytes
record-bytes : (f : SubFunction) (rs : List Listed) → Bytes (records_bytes f rs) → Each LineBytes rs
unfolding records_bytes
record-bytes f [] b = tt
record-bytes f (r ∷ rs) b = (own f (bytes_left (record_bytes f r) (records_bytes f rs) b), record-bytes f rs (bytes-right (record_bytes f r) (records_bytes f rs) b))
  where
    own : (f : SubFunction) → Bytes (record_bytes f r) → LineBytes r
    own by_status_mask b = b
    own by_severity_mask b = b.1.1

-- a record without its severity has the form of 0x02
without_form : (rs : List Listed) → Each (InForm by_status_mask) (map without_severity rs)
without_form [] = tt
without_form (r ∷ rs) = ((refl, refl, refl), without_form rs)

in_lines_form : (n : ℕ) (t : List ℕ) → Each (InForm by_status_mask) (records_in_lines n t)
unfolding one_by_one records_in_lines
in_lines_form zero t = tt
in_lines_form (suc n) t = ((refl, refl, refl), in_lines_form n (drop 12 t))

lines_imported : (m : ℕ) (rs : List Listed) → Each LineBytes rs → length rs ≤ 4096 → import_listing m (lines_text rs) ≡ accepted (listing_bytes (listing by_status_mask m (map without_severity rs)))
lines_imported m rs b few =
    let many : length (lines_text rs) / 12 ≡ length rs = omega (arith, length_lines rs) in
    import_good m (lines_text rs) (lines-right rs b) (omega arith) ∙ rw (many, lines_back rs b)

-- the same codes and statuses in the same order, with the mask of whoever imports
pub exported_imported : (f : SubFunction) (s : List ℕ) (m : ℕ) {l : Listing} {t : List ℕ} → Bytes s → read_listing f s ≡ accepted l → export_listing f s ≡ accepted t
    → (import_listing m t ≡ accepted (listing_bytes (listing by_status_mask m (map without_severity l.records))))
    × (read_listing by_status_mask (listing_bytes (listing by_status_mask m (map without_severity l.records))) ≡ accepted (listing by_status_mask m (map without_severity l.records)))
unfolding listing_bytes
exported_imported f s m {l} {t} b e x =
    let (_, few, _, is) = accepted-is f s e in
    let one : accepted t ≡ accepted (lines_text l.records) = sym x ∙ export_accepted f s e in
    let same : t ≡ lines_text l.records = cc in (
      rw same (lines_imported m l.records (record-bytes l.sub_function l.records (rw is at b).1.1.1) few),
      bytes-accepted (listing by_status_mask m (map without_severity l.records)) (rw (length-map l.records without_severity) few) (without_form l.records),
    )

-- of a 0x02 listing, with its own mask, it is the listing itself
form_without : (rs : List Listed) → Each (InForm by_status_mask) rs → map without_severity rs ≡ rs
form_without [] h = refl
form_without (r ∷ rs) ((k, s, u), h) = let same : without_severity r ≡ r = rw (k, s, u) in ap₂ (λ (x : Listed) (xs : List Listed). x ∷ xs) same (form_without rs h)

pub same-listing : (s : List ℕ) {l : Listing} {t : List ℕ} → Bytes s → read_listing by_status_mask s ≡ accepted l → export_listing by_status_mask s ≡ accepted t → import_listing l.mask t ≡ accepted s
unfolding listing_bytes
same-listing s {l} b e x =
    let (kind, _, form, is) = accepted-is by_status_mask s e in
    (exported_imported by_status_mask s l.mask b e x).0 ∙ rw (form_without l.records form, is, kind)

-- ---- however many lines
module _ (m : ℕ) (rs : List Listed) (b : Each LineBytes rs) where
  -- more than 4,096 are 12
  pub lines-too-many : 4096 < length rs → import_listing m (lines_text rs) ≡ refused too_many
  lines-too-many h = import_many m (lines_text rs) (lines-right rs b) (omega (arith, length_lines rs))

  -- a character behind them that can begin no line is 18 at its place, whether they are too many or not
  pub bad_behind : (c : ℕ) (t : List ℕ) → (InRow (can_stand lines 0) c → ⊥) → import_listing m (lines_text rs ++ (c ∷ t)) ≡ refused (bad_character (12 * length rs))
  bad_behind c t bad =
      let n = length_lines rs in
      let all : length (lines_text rs ++ (c ∷ t)) ≡ 12 * length rs + suc (length t) = omega (arith, length-append (lines_text rs) (c ∷ t)) in
      import_bad m (lines_text rs ++ (c ∷ t)) (12 * length rs) (record {
        within = omega arith;
        earlier = λ k h. rw (get_or-append (lines_text rs) (c ∷ t) 0 k (rw n h)) (row_in (can_stand lines k) (get_or (lines_text rs) k 0) ((lines-right rs b).stand k (rw n h)));
        here = λ h w. let first : (12 * length rs) % 12 ≡ 0 = omega arith in bad (rw (first, get_or_at (lines_text rs) c t 0 (12 * length rs) n) at w);
        ends = λ e w. omega arith;
      })

-- ---- a text, imported and exported
pub imported_exported : (m : ℕ) (t : List ℕ) {s : List ℕ} → import_listing m t ≡ accepted s → export_listing by_status_mask s ≡ accepted t
imported_exported m t {s} e =
    let (r, few, is) = import_is m t e in
    let n = length t / 12 in
    let read = bytes-accepted (listing by_status_mask m (records_in_lines n t)) (rw (length-in-lines n t) few) (in_lines_form n t) in
    rw is (export_accepted by_status_mask (imported_as m t) read ∙ ap accepted (lines-spelt n t (whole-lines t (right-none lines t r)) r.stand))

-- ---- how long they can be: with so much room 7 never comes
pub export_longest : (f : SubFunction) (s : List ℕ) {t : List ℕ} → export_listing f s ≡ accepted t → length t ≤ 49152
unfolding export_listing
export_longest f s {t} e = by (read_listing f s) refl e
  where
    by : (a : Answer Listing) → read_listing f s ≡ a → export_in a ≡ accepted t → length t ≤ 49152
    by (refused x) r q = absurd (never q)
    by (accepted l) r q = let is : lines_text l.records ≡ t = cc in rw (← is) (omega (arith, length_lines l.records, (accepted-is f s r).1))

pub import_longest : (m : ℕ) (t : List ℕ) {s : List ℕ} → import_listing m t ≡ accepted s → length s ≤ 16387
unfolding listing_bytes
import_longest m t e =
    let (_, few, is) = import_is m t e in
    omega (arith, ap length is, length_bytes by_status_mask (records_in_lines (length t / 12) t), length-in-lines (length t / 12) t)
