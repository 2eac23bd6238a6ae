-- The test for UTF-8 that can be run accepts exactly the grammar of RFC 3629, and finds the longest valid beginning of any text.
-- Assumes nothing.
use Prim.Native.Nat.{ℕ, zero, suc, ◌+◌, ◌-◌, ◌≤◌, ◌<◌}
use mathlib.Core.Path.{◌≡◌, refl, sym, ap, subst, ◌∙◌}
use mathlib.Core.Bool.{Bool, true, false, false≢true, not-eq-not}
use mathlib.Core.Logic.{◌⊎◌, inl, inr, ⊎_elim, ◌↔◌}
use mathlib.Core.List.{List, [], ◌∷◌, ◌++◌, append_assoc, append-nil}
use native.Mathlib.Omega.{arith}
use native.Mathlib.Nat.{eq-zero-or-pos}
use borrow.Author.Tests.{le-leb, leb-true, eqb-true, eqb-false, eq-eqb}
use lib.ListN.{length, get_or, take, drop, replicate, take-append-drop, length-append, length-drop}
use lib.Seq.{drop-append_seam, take-add, length-take-le, take-length}
use lib.Dec.{eqb}
use Rattle.paper.specs.Choice.{pick}
use Rattle.paper.specs.Bytes.{Bytes}
use Rattle.paper.specs.Utf8.{In, Utf8Char, utf8_1, utf8_2, utf8_3_e0, utf8_3_e1, utf8_3_ed, utf8_3_ee, utf8_4_f0, utf8_4_f1, utf8_4_f4, Utf8}
use Rattle.paper.specs.Utf8.{none, more, Longest, tail, productions, in_range, begins, first_row, char_length, valid_from, valid_up_to, is_utf8}
use Rattle.paper.proofs.Choice.{both_true}
use Rattle.paper.proofs.Bytes.{bytes_append}

-- ---- tests
-- to show P of what a test picks, show it of either
split : (P : ℕ → Type 0) (b : Bool) {x y : ℕ} → (b ≡ true → P x) → (b ≡ false → P y) → P (pick b x y)
split P true f g = f refl
split P false f g = g refl

pub in_true : {r : ℕ × ℕ} {b : ℕ} → In r.0 r.1 b → in_range r b ≡ true
unfolding in_range
in_true h = simp (le-leb _ _ h.0, le-leb _ _ h.1)

pub true_in : (r : ℕ × ℕ) (b : ℕ) → in_range r b ≡ true → In r.0 r.1 b
unfolding in_range
true_in r b e = let t = both_true _ _ e in (leb-true _ _ t.0, leb-true _ _ t.1)

-- ---- the rows with which a text can begin
-- the first byte of the text is in the row's first range
abbrev Opens : List (ℕ × ℕ) → List ℕ → Type 0
Opens [] s = Unit {0}
Opens (r ∷ rs) [] = ⊥
Opens (r ∷ rs) (a ∷ s) = In r.0 r.1 a

-- that is so of no row
abbrev NoRow : List (List (ℕ × ℕ)) → List ℕ → Type 0
NoRow [] s = Unit {0}
NoRow (row ∷ rows) s = (Opens row s → ⊥) × NoRow rows s

-- that is so of no row but perhaps row i
abbrev NoOther : List (List (ℕ × ℕ)) → ℕ → List ℕ → Type 0
NoOther [] i s = Unit {0}
NoOther (row ∷ rows) zero s = NoRow rows s
NoOther (row ∷ rows) (suc i) s = (Opens row s → ⊥) × NoOther rows i s

-- the text begins with a byte in each of these ranges: what `begins` tests
abbrev Fits : List (ℕ × ℕ) → List ℕ → Type 0
Fits [] s = Unit {0}
Fits (r ∷ rs) [] = ⊥
Fits (r ∷ rs) (b ∷ s) = In r.0 r.1 b × Fits rs s

fits-begins : (row : List (ℕ × ℕ)) (s : List ℕ) → Fits row s → begins row s ≡ true
unfolding begins
fits-begins [] s f = refl
fits-begins (r ∷ rs) [] f = absurd f
fits-begins (r ∷ rs) (b ∷ s) f = simp (in_true f.0) (fits-begins rs s f.1)

not_opened : (row : List (ℕ × ℕ)) (s : List ℕ) → (Opens row s → ⊥) → begins row s ≡ false
unfolding begins
not_opened [] s h = absurd (h tt)
not_opened (r ∷ rs) [] h = refl
not_opened (r ∷ rs) (a ∷ s) h = rw ((not-eq-not {b = false}).0 (λ e. h (true_in r a e)))

no_row : (rows : List (List (ℕ × ℕ))) (s : List ℕ) → NoRow rows s → first_row rows s ≡ 0
unfolding first_row
no_row [] s h = refl
no_row (row ∷ rows) s h = simp (not_opened row s h.0) (no_row rows s h.1)

no_other : (rows : List (List (ℕ × ℕ))) (i : ℕ) (s : List ℕ) → NoOther rows i s
    → first_row rows s ≡ pick (begins (get_or rows i []) s) (length (get_or rows i [])) 0
unfolding first_row begins
no_other [] i s h = refl
no_other (row ∷ rows) zero s h = ap (pick (begins row s) (length row)) (no_row rows s h)
no_other (row ∷ rows) (suc i) s h = simp (not_opened row s h.0) (no_other rows i s h.1)

-- ---- by lead byte
-- the length of a character of this row, where the bytes after its lead byte are there, else 0
abbrev following : List (ℕ × ℕ) → List ℕ → ℕ
following [] t = 0
following (r ∷ rs) t = pick (begins rs t) (suc (length rs)) 0

-- after a lead byte in the first range of row i, and of no other row, there is a character of that row or none
lead : (i a : ℕ) (t : List ℕ) → NoOther productions i (a ∷ t) × Opens (get_or productions i []) (a ∷ t)
    → char_length (a ∷ t) ≡ following (get_or productions i []) t
unfolding char_length begins
lead i a t h = no_other productions i _ h.0 ∙ go (get_or productions i []) h.1
  where
    go : (row : List (ℕ × ℕ)) → Opens row (a ∷ t) → pick (begins row (a ∷ t)) (length row) 0 ≡ following row t
    go [] h = refl
    go (r ∷ rs) h = simp (in_true h)

-- from 00 to 7F the byte is a character by itself
pub lead_1 : {a : ℕ} → In 0x00 0x7F a → (t : List ℕ) → char_length (a ∷ t) ≡ 1
unfolding begins
lead_1 h t = lead 0 _ t (omega arith)

-- a lead byte from C2 to DF takes one more byte
pub lead_2 : {a : ℕ} → In 0xC2 0xDF a → (t : List ℕ) → char_length (a ∷ t) ≡ pick (begins (tail ∷ []) t) 2 0
lead_2 h t = lead 1 _ t (omega arith)

-- the lead byte E0 takes two more bytes, the first from A0 to BF
pub lead-E0 : {a : ℕ} → In 0xE0 0xE0 a → (t : List ℕ) → char_length (a ∷ t) ≡ pick (begins ((0xA0, 0xBF) ∷ tail ∷ []) t) 3 0
lead-E0 h t = lead 2 _ t (omega arith)

-- a lead byte from E1 to EC takes two more bytes
pub lead_e1 : {a : ℕ} → In 0xE1 0xEC a → (t : List ℕ) → char_length (a ∷ t) ≡ pick (begins (tail ∷ tail ∷ []) t) 3 0
lead_e1 h t = lead 3 _ t (omega arith)

-- the lead byte ED takes two more bytes, the first from 80 to 9F (so no surrogates)
pub lead-ED : {a : ℕ} → In 0xED 0xED a → (t : List ℕ) → char_length (a ∷ t) ≡ pick (begins ((0x80, 0x9F) ∷ tail ∷ []) t) 3 0
lead-ED h t = lead 4 _ t (omega arith)

-- a lead byte EE or EF takes two more bytes
pub lead_ee : {a : ℕ} → In 0xEE 0xEF a → (t : List ℕ) → char_length (a ∷ t) ≡ pick (begins (tail ∷ tail ∷ []) t) 3 0
lead_ee h t = lead 5 _ t (omega arith)

-- the lead byte F0 takes three more bytes, the first from 90 to BF
pub lead-F0 : {a : ℕ} → In 0xF0 0xF0 a → (t : List ℕ) → char_length (a ∷ t) ≡ pick (begins ((0x90, 0xBF) ∷ tail ∷ tail ∷ []) t) 4 0
lead-F0 h t = lead 6 _ t (omega arith)

-- a lead byte from F1 to F3 takes three more bytes
pub lead_f1 : {a : ℕ} → In 0xF1 0xF3 a → (t : List ℕ) → char_length (a ∷ t) ≡ pick (begins (tail ∷ tail ∷ tail ∷ []) t) 4 0
lead_f1 h t = lead 7 _ t (omega arith)

-- the lead byte F4 takes three more bytes, the first from 80 to 8F
pub lead-F4 : {a : ℕ} → In 0xF4 0xF4 a → (t : List ℕ) → char_length (a ∷ t) ≡ pick (begins ((0x80, 0x8F) ∷ tail ∷ tail ∷ []) t) 4 0
lead-F4 h t = lead 8 _ t (omega arith)

-- no character begins with a byte from 80 to C1
pub lead_none_low : {a : ℕ} → In 0x80 0xC1 a → (t : List ℕ) → char_length (a ∷ t) ≡ 0
lead_none_low h t = lead 9 _ t (omega arith)

-- no character begins with a byte from F5 on
pub lead_none_high : {a : ℕ} → 0xF5 ≤ a → (t : List ℕ) → char_length (a ∷ t) ≡ 0
lead_none_high h t = lead 9 _ t (omega arith)

-- no character begins where the text has ended
pub char_none : char_length [] ≡ 0
unfolding char_length first_row begins
char_none = refl

-- ---- the rows are the grammar's characters
-- the text s begins with the character c, which is of row i
record InRow (c s : List ℕ) (i : ℕ) : Type 0 where
  only : NoOther productions i s
  fits : Fits (get_or productions i []) s
  size : length (get_or productions i []) ≡ length c
  some : 0 < length c
  bytes : Bytes c

in_row : {c : List ℕ} → Utf8Char c → (t : List ℕ) → (i : ℕ) × InRow c (c ++ t) i
in_row (utf8_1 h) t = (0, omega arith)
in_row (utf8_2 h p) t = (1, omega arith)
in_row (utf8_3_e0 h p q) t = (2, omega arith)
in_row (utf8_3_e1 h p q) t = (3, omega arith)
in_row (utf8_3_ed h p q) t = (4, omega arith)
in_row (utf8_3_ee h p q) t = (5, omega arith)
in_row (utf8_4_f0 h p q r) t = (6, omega arith)
in_row (utf8_4_f1 h p q r) t = (7, omega arith)
in_row (utf8_4_f4 h p q r) t = (8, omega arith)

-- where a text begins with a character, the test finds that character's length
pub char-length : {c : List ℕ} → Utf8Char c → (t : List ℕ) → char_length (c ++ t) ≡ length c
unfolding char_length
char-length {c} h t =
    let (i, r) = in_row h t in
    no_other productions i (c ++ t) r.only ∙ rw (fits-begins _ _ r.fits) r.size

-- n is 0, or the length of a character with which t begins
abbrev pub Begins : List ℕ → ℕ → Type 0
Begins t n = (n ≡ 0) ⊎ ((n ≤ length t) × Utf8Char (take n t))

-- bytes in these ranges, one for each, make a P
abbrev Makes : List (ℕ × ℕ) → (List ℕ → Type 0) → Type 0
Makes [] P = P []
Makes (r ∷ rs) P = (b : ℕ) → In r.0 r.1 b → Makes rs (λ s. P (b ∷ s))

begins_makes : (row : List (ℕ × ℕ)) (P : List ℕ → Type 0) → Makes row P → (t : List ℕ) → begins row t ≡ true
    → (length row ≤ length t) × P (take (length row) t)
unfolding begins
begins_makes [] P m t e = (omega arith, m)
begins_makes (r ∷ rs) P m [] e = absurd (false≢true e)
begins_makes (r ∷ rs) P m (b ∷ t) e =
    let (f, g) = both_true _ _ e in
    let (l, p) = begins_makes rs (λ s. P (b ∷ s)) (m b (true_in r b f)) t g in
    (omega arith, p)

-- each row makes a character
abbrev EachMakes : List (List (ℕ × ℕ)) → Type 0
EachMakes [] = Unit {0}
EachMakes (row ∷ rows) = Makes row Utf8Char × EachMakes rows

found : (rows : List (List (ℕ × ℕ))) → EachMakes rows → (t : List ℕ) → Begins t (first_row rows t)
unfolding first_row
found [] m t = inl refl
found (row ∷ rows) m t =
    split (Begins t) (begins row t) (λ e. inr (begins_makes row Utf8Char m.0 t e)) (λ e. found rows m.1 t)

-- a pair, so that many stand under each other
infixr 2 ◌&◌
◌&◌ : {A B : Type 0} → A → B → A × B
a & b = (a, b)

each_makes : EachMakes productions
each_makes =
    (λ _ h. utf8_1 h)
    & (λ _ h _ p. utf8_2 h p)
    & (λ _ h _ p _ q. utf8_3_e0 h p q)
    & (λ _ h _ p _ q. utf8_3_e1 h p q)
    & (λ _ h _ p _ q. utf8_3_ed h p q)
    & (λ _ h _ p _ q. utf8_3_ee h p q)
    & (λ _ h _ p _ q _ r. utf8_4_f0 h p q r)
    & (λ _ h _ p _ q _ r. utf8_4_f1 h p q r)
    & (λ _ h _ p _ q _ r. utf8_4_f4 h p q r)
    & tt

-- what the test finds is 0 or the length of a character with which the text begins
pub char_found : (t : List ℕ) → Begins t (char_length t)
unfolding char_length
char_found t = found productions each_makes t

-- ---- beginnings
-- two pieces of valid text, one after the other, are valid text
pub utf8_append : {p q : List ℕ} → Utf8 p → Utf8 q → Utf8 (p ++ q)
utf8_append none h = h
utf8_append (more g u) h = rw append_assoc (more g (utf8_append u h))

-- a single character is valid text
pub one : {c : List ℕ} → Utf8Char c → Utf8 c
one h = rw append-nil at (more h none)

-- what follows a character is determined by the text
same_rest : {c d : List ℕ} → Utf8Char c → Utf8Char d → (s t : List ℕ) → c ++ s ≡ d ++ t → s ≡ t
same_rest {c} {d} g h s t e =
    let l : length c ≡ length d = sym (char-length g s) ∙ ap char_length e ∙ char-length h t in
    sym (drop-append_seam c s) ∙ ap (drop (length c)) e ∙ rw (l, drop-append_seam)

-- no character is the beginning of another
pub no_beginning : {c d : List ℕ} → Utf8Char c → Utf8Char d → (t : List ℕ) → d ≡ c ++ t → t ≡ []
no_beginning {d = d} g h t e = same_rest g h t [] (sym (append-nil d ∙ e))

-- what follows a character, or valid text, in valid text is valid
after_char : {x : List ℕ} → Utf8 x → {c : List ℕ} → Utf8Char c → (r : List ℕ) → x ≡ c ++ r → Utf8 r
after_char none h r e = absurd (omega (arith, (in_row h []).1.some, simp length-append at (ap length e)))
after_char (more {s = s} g u) h r e = subst Utf8 (same_rest g h s r e) u

after : {p : List ℕ} → Utf8 p → (t : List ℕ) → Utf8 (p ++ t) → Utf8 t
after none t h = h
after (more {c} {s} g u) t h = after u t (after_char h g (s ++ t) (append_assoc c s t))

-- where no character begins, only the empty beginning is valid
stuck : {x : List ℕ} → Utf8 x → (y : List ℕ) → char_length (x ++ y) ≡ 0 → length x ≡ 0
stuck none y z = refl
stuck (more {c} {s} g u) y z =
    absurd (omega (arith, (in_row g []).1.some, char-length g (s ++ y), rw append_assoc at z))

-- where no character begins, the longest valid beginning is empty
pub stop : (t : List ℕ) → char_length t ≡ 0 → Longest t 0
stop t z = record {
  within = omega arith;
  good = none;
  most = λ k l u. omega (arith, stuck u (drop k t) (rw take-append-drop z), length-take-le k t l);
}

-- the longest valid beginning may be looked for from the end of any valid beginning on
pub past : (t : List ℕ) (n m : ℕ) → n ≤ length t → Utf8 (take n t) → Longest (drop n t) m → Longest t (n + m)
past t n m l g h = record {
  within = omega (arith, length-drop n t);
  good = rw take-add (utf8_append g h.good);
  most = λ k kl u. ⊎_elim (λ z. omega arith) (λ p. far k kl u (omega arith)) (eq-zero-or-pos (k - n));
}
  where
    far : (k : ℕ) → k ≤ length t → Utf8 (take k t) → n ≤ k → k ≤ n + m
    far k kl u p =
        let e : k ≡ n + (k - n) = omega arith in
        omega (arith, h.most (k - n) (omega (arith, length-drop n t)) (after g _ (rw (e, take-add) at u)))

-- ---- the longest beginning
past_char : (t : List ℕ) (m : ℕ) → (char_length t ≡ 0 → ⊥) → Longest (drop (char_length t) t) m → Longest t (char_length t + m)
past_char t m z h = ⊎_elim (λ e. absurd (z e)) (λ b. past t (char_length t) m b.0 (one b.1) h) (char_found t)

valid-from : (f : ℕ) (t : List ℕ) → length t ≤ f → Longest t (valid_from f t)
unfolding valid_from
valid-from zero [] l = stop [] char_none
valid-from zero (a ∷ t) l = absurd (omega arith)
valid-from (suc f) t l =
    split (Longest t) (eqb (char_length t) 0) (λ e. stop t (eqb-true _ _ e))
    (λ e. let z = eqb-false (char_length t) 0 e in past_char t _ z (valid-from f _ (omega (arith, length-drop (char_length t) t))))

-- every text has a longest valid beginning, and the test finds its length
pub valid_up_to_lem : (s : List ℕ) → Longest s (valid_up_to s)
unfolding valid_up_to
valid_up_to_lem s = valid-from (length s) s (omega arith)

-- a text has one longest valid beginning
pub longest_once : (s : List ℕ) (r q : ℕ) → Longest s r → Longest s q → r ≡ q
longest_once s r q a b = omega (arith, b.most r a.within a.good, a.most q b.within b.good)

-- whatever finds the longest valid beginning finds what the test finds
pub longest-is : (s : List ℕ) (r : ℕ) → Longest s r → r ≡ valid_up_to s
longest-is s r h = longest_once s r (valid_up_to s) h (valid_up_to_lem s)

-- it has all the bytes exactly if the test says yes
pub whole_is : (s : List ℕ) (r : ℕ) → Longest s r → eqb r (length s) ≡ is_utf8 s
unfolding is_utf8
whole_is s r h = ap (λ (k : ℕ). eqb k (length s)) (longest-is s r h)

-- the test accepts exactly the strings of the grammar
pub is-utf8 : (s : List ℕ) → (is_utf8 s ≡ true) ↔ Utf8 s
unfolding is_utf8
is-utf8 s =
    let v = valid_up_to_lem s in (
      λ e. rw (eqb-true (valid_up_to s) (length s) e, take-length) at v.good,
      λ u. eq-eqb (valid_up_to s) (length s) (omega (arith, v.within, v.most (length s) (omega arith) (rw take-length u))),
    )

-- ---- bytes and letters
-- valid text consists of bytes
pub utf8-bytes : {s : List ℕ} → Utf8 s → Bytes s
utf8-bytes none = tt
utf8-bytes (more {c} {s} g u) = bytes_append c s (in_row g []).1.bytes (utf8-bytes u)

-- any number of one and the same ascii character is valid text
pub utf8_letters : (n a : ℕ) → In 0x00 0x7F a → Utf8 (replicate n a)
utf8_letters zero a h = none
utf8_letters (suc n) a h = more (utf8_1 h) (utf8_letters n a h)
