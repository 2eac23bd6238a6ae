-- Text of which each byte fits after the three before it is UTF-8, but for a character that it breaks off. Assumes nothing.
use Prim.Native.Nat.{ℕ, zero, suc, ◌+◌, ◌-◌, ◌≤◌, ◌<◌}
use mathlib.Core.Path.{◌≡◌, sym, ap, subst, ◌∙◌}
use mathlib.Core.Bool.{Bool, true, false, ◌&&◌, ◌||◌, not, beq, and-false, or-true, and-eq-true_iff}
use mathlib.Mathlib.Data.Bool.Basic.{or-eq-false-eq-eq-false-and-eq-false as neither}
use mathlib.Core.Logic.{◌↔◌, ◌⊎◌, inl, inr, ⊎_elim}
use mathlib.Core.List.{List, [], ◌∷◌, ◌++◌, append_assoc, append-nil}
use native.Mathlib.Omega.{arith}
use native.Mathlib.Nat.{sub_right_comm}
use borrow.Author.Count.{below_more}
use borrow.Author.Tests.{ltb-false, leb-true, leb-false, eqb-true, eqb-false, not-true, le-ltb, le-leb, lt-leb, eq-eqb, ne_eqb}
use lib.Dec.{ltb, leb, eqb}
use lib.ListN.{length, get_or, take, drop, length-append, length-drop}
use lib.Seq.{append_snoc, take_at, take-take, length-take-le}
use Rattle.paper.specs.Utf8.{In, Tail, Utf8Char, utf8_1, utf8_2, utf8_3_e0, utf8_3_e1, utf8_3_ed, utf8_3_ee, utf8_4_f0, utf8_4_f1, utf8_4_f4, Utf8, none, more}
use Rattle.paper.proofs.Choice.{cut}
use Rattle.utf8.specs.Valid.{Valid}
use Rattle.utf8.specs.Ascii.{AsciiTo, AsciiStart}
use Rattle.utf8.specs.Fit.{Fits, FitTo, AllFit, Fitting, FitStart, unfinished_of}
use Rattle.utf8.proofs.Valid.{part_at}
use Rattle.utf8.proofs.Tests.{and_other, not_both, same}

-- ---- one byte: the tests of `fits_after`, and what they say
abbrev pub goes_on : ℕ → ℕ → ℕ → Bool
goes_on a b c = leb 0xF0 a || leb 0xE0 b || leb 0xC0 c

abbrev pub inside : ℕ → Bool
inside d = leb 0x80 d && leb d 0xBF

abbrev pub never : ℕ → Bool
never d = eqb d 0xC0 || eqb d 0xC1 || ltb 0xF4 d

abbrev pub overlong : ℕ → ℕ → Bool
overlong c d = eqb c 0xE0 && ltb d 0xA0 || eqb c 0xF0 && ltb d 0x90

abbrev pub surrogate : ℕ → ℕ → Bool
surrogate c d = eqb c 0xED && ltb 0x9F d

abbrev pub too_large : ℕ → ℕ → Bool
too_large c d = eqb c 0xF4 && ltb 0x8F d

abbrev pub wrong : ℕ → ℕ → Bool
wrong c d = never d || overlong c d || surrogate c d || too_large c d

fits : (a b c d : ℕ) → (beq (goes_on a b c) (inside d) && not (wrong c d)) ≡ true → Fits a b c d
fits a b c d e =
    let (g, w) = (and-eq-true_iff (beq (goes_on a b c) (inside d)) (not (wrong c d))).0 e in
    let (w3, l) = (neither (never d || overlong c d || surrogate c d) (too_large c d)).0 (not-true (wrong c d) w) in
    let (w2, u) = (neither (never d || overlong c d) (surrogate c d)).0 w3 in
    let (n, o) = (neither (never d) (overlong c d)).0 w2 in
    let (o1, o2) = (neither (eqb c 0xE0 && ltb d 0xA0) (eqb c 0xF0 && ltb d 0x90)).0 o in
    let s = sym (same (goes_on a b c) (inside d) g) in
    record {
      in_four = λ h. tail_of (s ∙ simp (le-leb 0xF0 a h));
      in_three = λ h. tail_of (s ∙ simp (le-leb 0xE0 b h, or-true));
      in_two = λ h. tail_of (s ∙ simp (le-leb 0xC0 c h, or-true));
      starts = λ x y z. first_of (s ∙ simp (lt-leb 0xF0 a x, lt-leb 0xE0 b y, lt-leb 0xC0 c z)) n;
      after_e0 = λ h. ltb-false d 0xA0 (and_other (eqb c 0xE0) (ltb d 0xA0) o1 (eq-eqb c 0xE0 h));
      after_ed = λ h. ltb-false 0x9F d (and_other (eqb c 0xED) (ltb 0x9F d) u (eq-eqb c 0xED h));
      after_f0 = λ h. ltb-false d 0x90 (and_other (eqb c 0xF0) (ltb d 0x90) o2 (eq-eqb c 0xF0 h));
      after_f4 = λ h. ltb-false 0x8F d (and_other (eqb c 0xF4) (ltb 0x8F d) l (eq-eqb c 0xF4 h));
    }
  where
    tail_of : inside d ≡ true → Tail d
    tail_of i = let (x, y) = (and-eq-true_iff (leb 0x80 d) (leb d 0xBF)).0 i in (leb-true 0x80 d x, leb-true d 0xBF y)

    first_of : inside d ≡ false → never d ≡ false → (d < 0x80) ⊎ In 0xC2 0xF4 d
    first_of i n =
        let (n2, h) = (neither (eqb d 0xC0 || eqb d 0xC1) (ltb 0xF4 d)).0 n in
        let (n0, n1) = (neither (eqb d 0xC0) (eqb d 0xC1)).0 n2 in
        let f : 0x80 ≤ d → 0xBF < d = λ l. leb-false d 0xBF (and_other (leb 0x80 d) (leb d 0xBF) i (le-leb 0x80 d l)) in
        ⊎_elim inl (λ l. inr (omega (arith, f l, ltb-false 0xF4 d h, eqb-false d 0xC0 n0, eqb-false d 0xC1 n1))) (cut d 0x80)

passes : (a b c d : ℕ) → Fits a b c d → (beq (goes_on a b c) (inside d) && not (wrong c d)) ≡ true
passes a b c d f =
    let (p, n) = placed in
    simp (
      p,
      n,
      not_both (eqb c 0xE0) (ltb d 0xA0) (λ e. le-ltb d 0xA0 (f.after_e0 (eqb-true c 0xE0 e))),
      not_both (eqb c 0xF0) (ltb d 0x90) (λ e. le-ltb d 0x90 (f.after_f0 (eqb-true c 0xF0 e))),
      not_both (eqb c 0xED) (ltb 0x9F d) (λ e. le-ltb 0x9F d (f.after_ed (eqb-true c 0xED e))),
      not_both (eqb c 0xF4) (ltb 0x8F d) (λ e. le-ltb 0x8F d (f.after_f4 (eqb-true c 0xF4 e))),
    )
  where
    Placed : Type 0
    Placed = (beq (goes_on a b c) (inside d) ≡ true) × (never d ≡ false)

    at_times : (d ≡ 0xC0 → ⊥) → (d ≡ 0xC1 → ⊥) → d ≤ 0xF4 → never d ≡ false
    at_times x y z = simp (ne_eqb d 0xC0 x, ne_eqb d 0xC1 y, le-ltb 0xF4 d z)

    in_one : goes_on a b c ≡ true → Tail d → Placed
    in_one g t = (simp (g, le-leb 0x80 d t.0, le-leb d 0xBF t.1), at_times (λ e. omega arith) (λ e. omega arith) (omega arith))

    begins-one : goes_on a b c ≡ false → (d < 0x80) ⊎ In 0xC2 0xF4 d → Placed
    begins-one g (inl l) = (simp (g, lt-leb 0x80 d l), at_times (λ e. omega arith) (λ e. omega arith) (omega arith))
    begins-one g (inr h) = (simp (g, lt-leb d 0xBF (omega arith), and-false), at_times (λ e. omega arith) (λ e. omega arith) h.1)

    placed : Placed
    placed =
        ⊎_elim (λ x. ⊎_elim (λ y. ⊎_elim (λ z. begins-one (simp (lt-leb 0xF0 a x, lt-leb 0xE0 b y, lt-leb 0xC0 c z)) (f.starts x y z))
        (λ z. in_one (simp (le-leb 0xC0 c z, or-true)) (f.in_two z))
        (cut c 0xC0)) (λ y. in_one (simp (le-leb 0xE0 b y, or-true)) (f.in_three y))
        (cut b 0xE0)) (λ x. in_one (simp (le-leb 0xF0 a x)) (f.in_four x))
        (cut a 0xF0)

-- they pass exactly where d can stand
pub fits_iff : (a b c d : ℕ) → ((beq (goes_on a b c) (inside d) && not (wrong c d)) ≡ true) ↔ Fits a b c d
fits_iff a b c d = (fits a b c d, passes a b c d)

-- ---- many bytes
-- one byte more
pub fit_turn : (s : List ℕ) (i : ℕ) (fit next : Bool) → 3 ≤ i → (fit ≡ true) ↔ FitTo s i
    → (next ≡ true) ↔ Fits (get_or s (i - 3) 0) (get_or s (i - 2) 0) (get_or s (i - 1) 0) (get_or s i 0) → ((fit && next) ≡ true) ↔ FitTo s (i + 1)
fit_turn s i fit next t h k =
    let and = and-eq-true_iff fit next in (
      (λ e. below_more _ i (h.0 (and.0 e).0) (λ _. k.0 (and.0 e).1)),
      (λ f. and.1 (h.1 (λ j l. f j (omega arith)), k.1 (f i (omega arith) t))),
    )

-- ASCII fits after ASCII, and at the start
ascii-fits : (a b c d : ℕ) → a < 0x80 → b < 0x80 → c < 0x80 → d < 0x80 → Fits a b c d
ascii-fits a b c d x y z w = record {
  in_four = λ h. absurd (omega arith);
  in_three = λ h. absurd (omega arith);
  in_two = λ h. absurd (omega arith);
  starts = λ h k l. inl w;
  after_e0 = λ e. absurd (omega arith);
  after_ed = λ e. absurd (omega arith);
  after_f0 = λ e. absurd (omega arith);
  after_f4 = λ e. absurd (omega arith);
}

pub ascii-fit : (s : List ℕ) (n : ℕ) → AsciiTo s n → FitTo s n
ascii-fit s n h i l t = ascii-fits _ _ _ _ (h (i - 3) (omega arith)) (h (i - 2) (omega arith)) (h (i - 1) (omega arith)) (h i l)

pub ascii_fitting : {s : List ℕ} {n : ℕ} → 3 ≤ n → AsciiStart s n → Fitting s n
ascii_fitting {s} {n} t h =
    let z : 0 < 0x80 = omega arith in
    let a = h.ascii in record {
      three = t;
      within = h.within;
      start = record {
        first = ascii-fits _ _ _ _ z z z (a 0 (omega arith));
        second = ascii-fits _ _ _ _ z z (a 0 (omega arith)) (a 1 (omega arith));
        third = ascii-fits _ _ _ _ z (a 0 (omega arith)) (a 1 (omega arith)) (a 2 (omega arith));
      };
      fit = ascii-fit s n a;
    }

-- what fits in a part of s fits in s
in_part : (s : List ℕ) (a m : ℕ) → a + m ≤ length s → AllFit (take m (drop a s)) → (i : ℕ) → a + 3 ≤ i → i < a + m
    → Fits (get_or s (i - 3) 0) (get_or s (i - 2) 0) (get_or s (i - 1) 0) (get_or s i 0)
in_part s a m l h i t j =
    let p : length (take m (drop a s)) ≡ m = length-take-le m (drop a s) (omega (arith, length-drop a s)) in
    rw (before 3 (omega arith), before 2 (omega arith), before 1 (omega arith), part_at s a m i (omega arith) (omega arith))
    at (h (i - a) (omega arith) (omega arith))
  where
    before : (k : ℕ) → k ≤ 3 → get_or (take m (drop a s)) (i - a - k) 0 ≡ get_or s (i - k) 0
    before k l = rw sub_right_comm (part_at s a m (i - k) (omega arith) (omega arith))

-- one block more, which the code lends as b with the three bytes before it
pub more-fits : {s : List ℕ} {at : ℕ} (n : ℕ) (b : List ℕ) → Fitting s at → n + 3 ≤ length (drop (at - 3) s) → b ≡ take (n + 3) (drop (at - 3) s) → AllFit b
    → Fitting s (at + n)
more-fits {s} {at} n b h l p f =
    let t = h.three in
    let w = h.within in
    let d = length-drop (at - 3) s in
    record {
      three = omega arith;
      within = omega arith;
      start = h.start;
      fit = λ i j k. ⊎_elim (λ m. h.fit i m k) (λ m. in_part s (at - 3) (n + 3) (omega arith) (rw p at f) i (omega arith) (omega arith)) (cut i at);
    }

-- ---- the text that fits
-- after a, b and c the character p is begun and not ended; where p is empty, none is
data Open : ℕ → ℕ → ℕ → List ℕ → Type 0 where
  shut : {a b c : ℕ} → a < 0xF0 → b < 0xE0 → c < 0xC0 → Open a b c []
  after_one : {a b c : ℕ} → b < 0xF0 → In 0xC2 0xF4 c → Open a b c (c ∷ [])
  after_two : {o a b c : ℕ} → In 0xE0 0xF4 b → Fits o a b c → Tail c → Open a b c (b ∷ c ∷ [])
  after-three : {n o a b c : ℕ} → In 0xF0 0xF4 a → Fits n o a b → Tail b → Tail c → Open a b c (a ∷ b ∷ c ∷ [])

-- `unfinished` finds the length of what is begun
open_size : {a b c : ℕ} {p : List ℕ} → Open a b c p → unfinished_of a b c ≡ length p
unfolding unfinished_of
open_size {a} {b} {c} (shut x y z) = simp (lt-leb 0xF0 a x, lt-leb 0xE0 b y, lt-leb 0xC0 c z)
open_size {a} {b} {c} (after_one x h) = simp (le-leb 0xC0 c (omega arith))
open_size {a} {b} {c} (after_two h f t) = simp (lt-leb 0xC0 c (omega arith), le-leb 0xE0 b h.0)
open_size {a} {b} {c} (after-three h f t u) = simp (lt-leb 0xC0 c (omega arith), lt-leb 0xE0 b (omega arith), le-leb 0xF0 a h.0)

-- the bytes of a character of three or four bytes, the second of which fits, are one
char_3 : {o p a b c : ℕ} → In 0xE0 0xEF a → Fits o p a b → Tail b → Tail c → Utf8Char (a ∷ b ∷ c ∷ [])
char_3 {a = a} {b} h f t u =
    ⊎_elim (λ l. utf8_3_e0 (h.0, omega arith) (f.after_e0 (omega arith), t.1) u)
    (λ g. ⊎_elim (λ l. utf8_3_e1 (g, omega arith) t u)
    (λ g. ⊎_elim (λ l. utf8_3_ed (g, omega arith) (t.0, f.after_ed (omega arith)) u)
    (λ g. utf8_3_ee (g, h.1) t u)
    (cut a 0xEE)) (cut a 0xED)) (cut a 0xE1)

char_4 : {o p a b c d : ℕ} → In 0xF0 0xF4 a → Fits o p a b → Tail b → Tail c → Tail d → Utf8Char (a ∷ b ∷ c ∷ d ∷ [])
char_4 {a = a} {b} h f t u v =
    ⊎_elim (λ l. utf8_4_f0 (h.0, omega arith) (f.after_f0 (omega arith), t.1) u v)
    (λ g. ⊎_elim (λ l. utf8_4_f1 (g, omega arith) t u v)
    (λ g. utf8_4_f4 (g, h.1) (t.0, f.after_f4 (omega arith)) u v)
    (cut a 0xF4)) (cut a 0xF1)

-- p is ended, or it goes on
abbrev Grown : ℕ → ℕ → ℕ → List ℕ → Type 0
Grown b c d p = (Utf8Char p × Open b c d []) ⊎ Open b c d p

ends : (b c d : ℕ) {p : List ℕ} → Utf8Char p → b < 0xF0 → c < 0xE0 → d < 0xC0 → Grown b c d p
ends b c d h x y z = inl (h, shut x y z)

-- one byte more that fits ends the character that is begun, or goes on with it
grow : {a b c d : ℕ} {p : List ℕ} → Open a b c p → Fits a b c d → Grown b c d (p ++ d ∷ [])
grow {b = b} {c} {d} (shut x y z) f =
    ⊎_elim (λ l. ends b c d (utf8_1 (omega arith, omega arith)) (omega arith) (omega arith) (omega arith))
    (λ h. inr (after_one (omega arith) h))
    (f.starts x y z)
grow {b = b} {c} {d} (after_one x h) f =
    let t = f.in_two (omega arith) in
    ⊎_elim (λ l. ends b c d (utf8_2 (h.0, omega arith) t) x l (omega arith)) (λ g. inr (after_two (g, h.1) f t)) (cut c 0xE0)
grow {b = b} {c} {d} (after_two h f t) g =
    let u = g.in_three h.0 in
    ⊎_elim (λ l. ends b c d (char_3 (h.0, omega arith) f t u) l (omega arith) (omega arith))
    (λ k. inr (after-three (k, h.1) f t u))
    (cut b 0xF0)
grow {b = b} {c} {d} (after-three h f t u) g =
    let v = g.in_four h.0 in
    ends b c d (char_4 h f t u v) (omega arith) (omega arith) (omega arith)

-- s is UTF-8, and then u bytes of a character that is not ended
record Cut (s : List ℕ) (u : ℕ) : Type 0 where
  whole : List ℕ
  part : List ℕ
  is : s ≡ whole ++ part
  good : Utf8 whole
  size : u ≡ length part

char_cut : {c s : List ℕ} {u : ℕ} → Utf8Char c → Cut s u → Cut (c ++ s) u
char_cut {c} h k = record { whole = c ++ k.whole; part = k.part; is = rw append_assoc (ap (λ (l : List ℕ). c ++ l) k.is); good = more h k.good; size = k.size }

cut-valid : {s : List ℕ} {n u : ℕ} → n ≤ length s → Cut (take n s) u → Valid s (n - u)
cut-valid {s} {n} {u} l k =
    let e : length k.whole ≡ n - u = omega (arith, k.size, simp length-append at (ap length k.is), length-take-le n s l) in
    record {
      within = omega arith;
      good = subst Utf8 (sym (take_at k.whole k.part (n - u) e) ∙ ap (take (n - u)) (sym k.is) ∙ take-take (n - u) n s (omega arith)) k.good;
    }

-- in z, byte k of what follows its first three bytes fits after the three before it
abbrev FitsAt : List ℕ → ℕ → Type 0
FitsAt z k = Fits (get_or z k 0) (get_or z (suc k) 0) (get_or z (suc (suc k)) 0) (get_or z (suc (suc (suc k))) 0)

abbrev unfinished_at : List ℕ → ℕ → ℕ
unfinished_at z k = unfinished_of (get_or z k 0) (get_or z (suc k) 0) (get_or z (suc (suc k)) 0)

-- where each of the first n bytes of s fits, they are UTF-8 and what is unfinished
cut_at : (n : ℕ) (s : List ℕ) {a b c : ℕ} {p : List ℕ} → n ≤ length s → Open a b c p → ((k : ℕ) → k < n → FitsAt (a ∷ b ∷ c ∷ s) k)
    → Cut (p ++ take n s) (unfinished_at (a ∷ b ∷ c ∷ s) n)
cut_at zero s {p = p} l o h = record { whole = []; part = p; is = append-nil p; good = none; size = open_size o }
cut_at (suc n) [] l o h = absurd (omega arith)
cut_at (suc n) (d ∷ s) {b = b} {c} {p} l o h =
    let m : n ≤ length s = omega arith in
    let g : (k : ℕ) → k < n → FitsAt (b ∷ c ∷ d ∷ s) k = λ k j. h (suc k) (omega arith) in
    rw (← append_snoc p d (take n s))
    (⊎_elim (λ e. char_cut e.0 (cut_at n s m e.1 g)) (λ q. cut_at n s m q g) (grow o (h 0 (omega arith))))

-- three, two and one places before
less_3 : (k : ℕ) → suc (suc (suc k)) - 3 ≡ k
less_3 k = omega arith

less_2 : (k : ℕ) → suc (suc (suc k)) - 2 ≡ suc k
less_2 k = omega arith

less_1 : (k : ℕ) → suc (suc (suc k)) - 1 ≡ suc (suc k)
less_1 k = omega arith

-- a text fits from its start on as if zeros stood before it
from_start : (s : List ℕ) (n : ℕ) → FitStart (get_or s 0 0) (get_or s 1 0) (get_or s 2 0) → FitTo s n → (k : ℕ) → k < n → FitsAt (0 ∷ 0 ∷ 0 ∷ s) k
from_start s n g h zero l = g.first
from_start s n g h (suc zero) l = g.second
from_start s n g h (suc (suc zero)) l = g.third
from_start s n g h (suc (suc (suc k))) l = rw (less_3 k, less_2 k, less_1 k) at (h (suc (suc (suc k))) l (omega arith))

-- the bytes that fit, but for those of a character that goes on after them
valid_at : (s : List ℕ) (n : ℕ) → Fitting s n → Valid s (n - unfinished_of (get_or s (n - 3) 0) (get_or s (n - 2) 0) (get_or s (n - 1) 0))
valid_at s zero h = absurd (omega (arith, h.three))
valid_at s (suc zero) h = absurd (omega (arith, h.three))
valid_at s (suc (suc zero)) h = absurd (omega (arith, h.three))
valid_at s (suc (suc (suc k))) h =
    let c = cut_at (suc (suc (suc k))) s h.within (shut (omega arith) (omega arith) (omega arith)) (from_start s _ h.start h.fit) in
    rw (less_3 k, less_2 k, less_1 k) (cut-valid h.within c)

pub fitting_valid : {s : List ℕ} {n u : ℕ} → Fitting s n → u ≡ unfinished_of (get_or s (n - 3) 0) (get_or s (n - 2) 0) (get_or s (n - 1) 0) → Valid s (n - u)
fitting_valid {s} {n} h e = rw e (valid_at s n h)
