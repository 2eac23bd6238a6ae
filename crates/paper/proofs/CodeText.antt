-- Document 02, Req 12: what is written of a code reads back and the other way round, and no two codes are written alike.
-- Assumes nothing.
use mathlib.Core.Path.{◌≡◌, refl, sym, ap, ap₂, subst, ◌∙◌}
use Prim.Native.Nat.{ℕ, ◌+◌, ◌*◌, ◌/◌, ◌%◌, ◌≤◌, ◌<◌}
use mathlib.Core.List.{List, [], ◌∷◌}
use mathlib.Core.Logic.{◌↔◌, ⊎_elim}
use native.Mathlib.Nat.{zero-add}
use native.Mathlib.Omega.{arith}
use lib.ListN.{length, get_or, take, get_or-append}
use lib.Seq.{take_all}
use borrow.Author.Tests.{eqb-true}
use Rattle.paper.specs.Answer.{Refusal, Answer, accepted, refused, bad_character}
use Rattle.paper.specs.Bytes.{Bytes}
use Rattle.paper.specs.TroubleCode.{TroubleCode, trouble_code, trouble_code_bytes}
use Rattle.paper.specs.ReadingProgram.{ascii}
use Rattle.paper.specs.Listing.{first_place, numbers_from}
use Rattle.paper.specs.CodeText.{hex_digits, code_places, line_places, code_digits, spelt, code_text, one_code, place_in, digit, code_in, read_code_text, FirstBad, NoneBad}
use Rattle.paper.proofs.Choice.{never}
use Rattle.paper.proofs.Spelling.{Fits, fits_at, AllOnce, spelt_back, values_at, values_spelt, values_fit}
use Rattle.paper.proofs.TextPlaces.{Right, none_right, right-passes, bad-refused, passed_right, refused_by}

-- ---- a code and its digits
code_once : AllOnce code_places
unfolding code_places first_place numbers_from
code_once = refl

code_fits : (c : TroubleCode) → Bytes (trouble_code_bytes c) → Fits code_places (code_digits c)
unfolding code_places
code_fits c b = omega arith

-- a line begins with a code
pub code_row : (j : ℕ) → j < 8 → get_or line_places j [] ≡ get_or code_places j []
unfolding code_places line_places
code_row j h = get_or-append code_places (ascii " " ∷ hex_digits ∷ hex_digits ∷ ascii "\n" ∷ []) [] j h

pub length_code : (c : TroubleCode) → length (code_text c) ≡ 8
unfolding code_places code_text
length_code c = refl

-- the code that has these digits
pub code_of : (t : List ℕ) (c : TroubleCode) → ((j : ℕ) → j < 8 → digit t j ≡ get_or (code_digits c) j 0) → Bytes (trouble_code_bytes c) → code_in t ≡ c
code_of t c is b =
    let high : (code_in t).high ≡ c.high = omega (arith, is 0 (omega arith), is 1 (omega arith), is 2 (omega arith)) in
    let middle : (code_in t).middle ≡ c.middle = omega (arith, is 3 (omega arith), is 4 (omega arith)) in
    let low : (code_in t).low ≡ c.low = omega (arith, is 6 (omega arith), is 7 (omega arith)) in
    ap₂ (λ (x y : ℕ). trouble_code x y (code_in t).low) high middle ∙ ap (trouble_code c.high c.middle) low

code-in : (c : TroubleCode) → Bytes (trouble_code_bytes c) → code_in (code_text c) ≡ c
unfolding code_places code_text
code-in c b = code_of (code_text c) c (λ j h. rw (code_row j h) (spelt_back code_places (code_digits c) [] code_once (code_fits c b) j h)) b

-- ---- reading what was written
code-right : (c : TroubleCode) → Bytes (trouble_code_bytes c) → Right one_code (code_text c)
unfolding code_places code_text
code-right c b = record { stand = stand; ends = refl }
  where
    stand : (i : ℕ) → i < 8 → place_in (get_or code_places i []) (get_or (code_text c) i 0) < length (get_or code_places i [])
    stand i h = rw (spelt_back code_places (code_digits c) [] code_once (code_fits c b) i h) (fits_at code_places (code_digits c) (code_fits c b) i h)

-- what is written of a code reads back
pub code-back : (c : TroubleCode) → Bytes (trouble_code_bytes c) → read_code_text (code_text c) ≡ accepted c
unfolding read_code_text
code-back c b = right-passes one_code (code_text c) (accepted (code_in (code_text c))) (code-right c b) ∙ ap accepted (code-in c b)

-- two codes of bytes that are written alike are the same
pub codes_apart : (c d : TroubleCode) → Bytes (trouble_code_bytes c) → Bytes (trouble_code_bytes d) → code_text c ≡ code_text d → c ≡ d
codes_apart c d b e same =
    let one : ◌≡◌ {A = Answer TroubleCode} (accepted c) (accepted d) = sym (code-back c b) ∙ ap read_code_text same ∙ code-back d e in
    cc

-- ---- writing what was read
three_digits : (a b c : ℕ) → a < 4 → b < 4 → c < 16 → ((a * 64 + b * 16 + c) / 64 ≡ a) × ((a * 64 + b * 16 + c) / 16 % 4 ≡ b) × ((a * 64 + b * 16 + c) % 16 ≡ c) × (a * 64 + b * 16 + c < 256)
three_digits a b c x y z = omega arith

pub two_digits : (a b : ℕ) → a < 16 → b < 16 → ((a * 16 + b) / 16 ≡ a) × ((a * 16 + b) % 16 ≡ b) × (a * 16 + b < 256)
two_digits a b x y = omega arith

module _ (t : List ℕ) (f : Fits code_places (values_at code_places t 0)) where
  -- the digits of the code that is read are what the characters stand for
  pub digits_back : code_digits (code_in t) ≡ values_at code_places t 0
  unfolding code_places line_places
  digits_back =
      let high = three_digits (digit t 0) (digit t 1) (digit t 2) (omega arith) (omega arith) (omega arith) in
      let middle = two_digits (digit t 3) (digit t 4) (omega arith) (omega arith) in
      let low = two_digits (digit t 6) (digit t 7) (omega arith) (omega arith) in
      let dash : digit t 5 ≡ 0 = omega arith in
      rw (high.0, high.1, high.2, middle.0, middle.1, low.0, low.1, dash)

  pub bytes_in : Bytes (trouble_code_bytes (code_in t))
  unfolding code_places line_places
  bytes_in = omega arith

  -- and its text those characters
  pub code-spelt : 8 ≤ length t → code_text (code_in t) ≡ take 8 t
  unfolding code_places code_text
  code-spelt h = ap (spelt code_places) digits_back ∙ values_spelt code_places t 0 f h

-- eight characters, each of its row
right_is : (t : List ℕ) → Right one_code t → (length t ≡ 8) × Fits code_places (values_at code_places t 0)
unfolding code_places
right_is t r =
    let long : length t ≡ 8 = eqb-true _ _ r.ends in
    (long, values_fit code_places t 0 (λ j h. rw (zero-add j) (r.stand j (rw long h))))

-- what is read as a code is what is written of it, and its bytes are bytes
pub text_back : (t : List ℕ) {c : TroubleCode} → read_code_text t ≡ accepted c → (code_text c ≡ t) × Bytes (trouble_code_bytes c)
unfolding read_code_text
text_back t {c} e =
    let (r, is) = passed_right one_code t (accepted (code_in t)) e in
    let (long, fits) = right_is t r in
    let same : c ≡ code_in t = cc in
    rw same (code-spelt t fits (omega arith) ∙ take_all 8 t (omega arith), bytes_in t fits)

-- ---- refusals
-- 18 with the first place at which something can't stand, and no other
pub code-refused : (t : List ℕ) {e : Refusal} → read_code_text t ≡ refused e → (p : ℕ) × (e ≡ bad_character p) × FirstBad one_code t p
unfolding read_code_text
code-refused t q = ⊎_elim (λ w. w) (λ (r, w). absurd (never (sym w))) (refused_by one_code t (accepted (code_in t)) q)

pub bad-code : (t : List ℕ) (p : ℕ) → (read_code_text t ≡ refused (bad_character p)) ↔ FirstBad one_code t p
unfolding read_code_text
bad-code t p = (λ e. let (q, is, f) = code-refused t e in subst (FirstBad one_code t) (sym (ap Refusal.first is)) f, bad-refused one_code t (accepted (code_in t)) p)

-- where there is no such place, it is a code of eight characters
pub whole_code : (t : List ℕ) → NoneBad one_code t → (length t ≡ 8) × (read_code_text t ≡ accepted (code_in t))
unfolding read_code_text
whole_code t n = let r = none_right one_code t n in ((right_is t r).0, right-passes one_code t (accepted (code_in t)) r)

-- and each is one of its row
pub code-stands : (t : List ℕ) → NoneBad one_code t → (j : ℕ) → j < 8 → digit t j < length (get_or line_places j [])
code-stands t n j h = let r = none_right one_code t n in rw (code_row j h) (r.stand j (rw (right_is t r).0 h))
