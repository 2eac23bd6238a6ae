-- The table of lead bytes: a row is right where no entry of it is mistyped, which is computed. Assumes nothing.
use Prim.Native.Nat.{ℕ, zero, suc, ◌+◌, ◌-◌, ◌*◌, ◌≤◌, ◌<◌}
use mathlib.Core.Path.{◌≡◌, refl, ap, sym, ◌∙◌}
use mathlib.Core.Bool.{Bool, true, false}
use mathlib.Core.Logic.{◌⊎◌, inl, inr, ⊎_elim}
use mathlib.Core.List.{List, [], ◌∷◌, ◌++◌}
use native.Mathlib.Omega.{arith}
use denote.Enum.Bare.{sameb, same_true, true_same}
use native.Mathlib.Nat.{add-zero, add-suc, suc-add}
use borrow.Author.Tests.{eqb-true}
use lib.Dec.{eqb}
use lib.ListN.{length, get_or, drop, length-drop}
use Rattle.std.specs.Bool.{Decides}
use Rattle.paper.specs.Choice.{pick, both}
use Rattle.paper.specs.LeadBytes.{Class, no_lead, ascii, two_bytes, lead_e0, three_bytes, lead_ed, lead_f0, four_bytes, lead_f4, class_of, size_of, following, length_by}
use Rattle.paper.specs.Utf8.{in_range, begins, char_length}
use Rattle.paper.proofs.LeadBytes.{lead_class}
use Rattle.utf8.specs.Character.{Lead}
use Rattle.utf8.specs.contracts.lead_bytes.Class.{the_type}
use Rattle.utf8.specs.declared.lead_bytes.Class as ours
use Rattle.utf8.specs.declared.lead_bytes.Class.TheVariants.{NoLead, Ascii, LeadE0, ThreeBytes, LeadEd, LeadF0, FourBytes, LeadF4, TwoBytes}
use Rattle.utf8.specs.LeadBytes.{number, numbered, seen, entry, RowRight, Begins}
use Rattle.utf8.specs.Valid.{Valid, Step}
use Rattle.utf8.proofs.Valid.{begun, onward}
use Rattle.utf8.proofs.Character.{short}
use Rattle.utf8.proofs.Longest.{character_step}

-- ---- the rule of a row
-- those of the n places from i on at which the test fails
abbrev pub failing : (ℕ → Bool) → ℕ → ℕ → List ℕ
failing f i zero = []
failing f i (suc n) = pick (f i) (failing f (suc i) n) (i ∷ failing f (suc i) n)

-- where there is none, it passes at each of them
passes : (b : Bool) (x : ℕ) (xs : List ℕ) → pick b xs (x ∷ xs) ≡ [] → (b ≡ true) × (xs ≡ [])
passes true x xs e = (refl, e)
passes false x xs e = absurd (omega (arith, ap length e))

none-fails : (f : ℕ → Bool) (i n : ℕ) → failing f i n ≡ [] → (k : ℕ) → k < n → f (i + k) ≡ true
none-fails f i zero e k h = absurd (omega arith)
none-fails f i (suc n) e zero h = ap f (add-zero i) ∙ (passes (f i) i (failing f (suc i) n) e).0
none-fails f i (suc n) e (suc k) h = ap f (add-suc i k ∙ sym (suc-add i k)) ∙ none-fails f (suc i) n (passes (f i) i (failing f (suc i) n) e).1 k (omega arith)

-- the lead byte b has the number of its class in this row
abbrev pub test : ℕ → ℕ → ℕ → Bool
test high row b = eqb (entry row (b - 16 * high)) (number (class_of b))

-- the lead bytes of a row whose entries are mistyped
abbrev pub mistyped : ℕ → ℕ → List ℕ
mistyped high row = failing (test high row) (16 * high) 16

row-right : (high row : ℕ) → mistyped high row ≡ [] → RowRight high row
row-right high row e = record { entries = λ c h. each c (none-fails (test high row) (16 * high) 16 e c h) }
  where
    each : (c : ℕ) → test high row (16 * high + c) ≡ true → entry row c ≡ number (class_of (16 * high + c))
    each c t = let at : 16 * high + c - 16 * high ≡ c = omega arith in rw at at (eqb-true (entry row (16 * high + c - 16 * high)) (number (class_of (16 * high + c))) t)

-- nothing proves this of a lead byte: it is there for its name, which a refusal shows with the byte
pub data Mistyped : ℕ → Type 0 where

-- the list has no lead byte in it; where it has one, the first is mistyped
abbrev pub NoneOf : List ℕ → Type 0
NoneOf [] = Unit {0}
NoneOf (b ∷ bs) = Mistyped b

none_of : (bs : List ℕ) → NoneOf bs → bs ≡ []
none_of [] m = refl
none_of (_ ∷ _) m = elim m [ ]

-- row k of the table is right where none of its lead bytes has a mistyped entry
pub at_row : (k : ℕ) {high row : ℕ} → high ≡ k → NoneOf (mistyped k row) → high < 16 → RowRight high row
at_row k e m h = rw e (row-right k _ (none_of _ m))

-- a number that is none of those below n is n or more: there is no row past the sixteenth
abbrev pub NoneBelow : ℕ → ℕ → Type 0
NoneBelow zero x = Unit {0}
NoneBelow (suc n) x = NoneBelow n x × (x ≡ n → ⊥)

none_below : (n x : ℕ) → NoneBelow n x → n ≤ x
none_below zero x h = omega arith
none_below (suc n) x h = omega (arith, none_below n x h.0, h.1)

too_far : (n x : ℕ) → n ≤ x → x < n → ⊥
too_far n x l h = omega arith

pub no_row : (high : ℕ) → NoneBelow 16 high → high < 16 → ⊥
no_row high h = too_far 16 high (none_below 16 high h)

-- ---- numbers of classes
-- a class's number stands for it
pub number_back : (k : Class) → numbered (number k) ≡ k
number_back no_lead = refl
number_back ascii = refl
number_back lead_e0 = refl
number_back three_bytes = refl
number_back lead_ed = refl
number_back lead_f0 = refl
number_back four_bytes = refl
number_back lead_f4 = refl
number_back two_bytes = refl

-- two of our classes that are the same one of the paper's are one
back : Class → ours.Class
back no_lead = NoLead
back ascii = Ascii
back lead_e0 = LeadE0
back three_bytes = ThreeBytes
back lead_ed = LeadEd
back lead_f0 = LeadF0
back four_bytes = FourBytes
back lead_f4 = LeadF4
back two_bytes = TwoBytes

back_seen : (x : ours.Class) → back (seen x) ≡ x
unfolding back
back_seen NoLead = refl
back_seen Ascii = refl
back_seen LeadE0 = refl
back_seen ThreeBytes = refl
back_seen LeadEd = refl
back_seen LeadF0 = refl
back_seen FourBytes = refl
back_seen LeadF4 = refl
back_seen TwoBytes = refl

pub seen_once : (x y : ours.Class) → seen x ≡ seen y → x ≡ y
seen_once x y e = sym (back_seen x) ∙ ap back e ∙ back_seen y

-- what `==` tells of two classes
pub same_class : (x y : ours.Class) → Decides (sameb the_type x y) (seen x ≡ seen y)
same_class x y = (λ e. ap seen (same_true the_type tt x y e), λ e. true_same the_type x y (seen_once x y e))

-- ---- a text by its lead byte's class
-- what is found for the lead byte's class is found for the text
pub by_class : {k : Class} {n : ℕ} (b : ℕ) (t : List ℕ) → k ≡ class_of b → n ≡ length_by k t → n ≡ char_length (b ∷ t)
by_class b t e f = f ∙ ap (λ (k : Class). length_by k t) e ∙ sym (lead_class b t)

-- so at the start of s
pub first_character : {k : Class} {n : ℕ} (s : List ℕ) → Begins k s → n ≡ length_by k (drop 1 s) → n ≡ char_length s
first_character [] h f = absurd (omega (arith, h.some))
first_character (b ∷ s) h f = by_class b s h.is f

pub begins-with : {k : Class} {a : ℕ} {s : List ℕ} → Lead a s → k ≡ class_of a → Begins k s
begins-with h e = record { some = h.some; is = e ∙ ap class_of h.is }

-- ---- a run of characters of one class
-- a character is as long as its class says, or there is none
some_length : (k : Class) (t : List ℕ) → (length_by k t ≡ 0) ⊎ (length_by k t ≡ size_of k)
unfolding length_by
some_length k t = elim (begins (following k) t) as (λ b. (pick b (size_of k) 0 ≡ 0) ⊎ (pick b (size_of k) 0 ≡ size_of k)) [ true ↦ inr refl | false ↦ inl refl ]

-- all of a character's bytes but the first follow it
follow : (k : Class) → 0 < size_of k → length (following k) + 1 ≡ size_of k
follow no_lead h = absurd (omega arith)
follow ascii h = refl
follow two_bytes h = refl
follow lead_e0 h = refl
follow three_bytes h = refl
follow lead_ed h = refl
follow lead_f0 h = refl
follow four_bytes h = refl
follow lead_f4 h = refl

-- what is not asked of a text's end is not asked of what comes after it
begins-append : (rs : List (ℕ × ℕ)) (t u : List ℕ) → length rs ≤ length t → begins rs (t ++ u) ≡ begins rs t
unfolding begins
begins-append [] t u h = refl
begins-append (r ∷ rs) [] u h = absurd (omega arith)
begins-append (r ∷ rs) (b ∷ t) u h = ap (both (in_range r b)) (begins-append rs t u (omega arith))

-- the code lends what is left of s as c, of the size of a character, and u
pub one_more_lem : {k : Class} {s : List ℕ} (c u : List ℕ) {at m : ℕ} → Valid s at → drop at s ≡ c ++ u → 0 < m → length c ≡ m → size_of k ≡ m → k ≡ class_of (get_or c 0 0)
    → (length_by k (drop 1 c) ≡ 0 → ⊥) → Valid s (at + m)
one_more_lem {k} c u {m = m} h p l e g b z =
    let size : length_by k (drop 1 c) ≡ m = ⊎_elim (λ y. absurd (z y)) (λ y. y ∙ g) (some_length k (drop 1 c)) in
    let v = (character_step (first_character c record { some = omega arith; is = b } refl)).valid in
    onward h (rw (p, ← size) (begun u v))

-- the run ends: where it has not begun, a character of its class does not begin s
run_ends : {k : Class} {s : List ℕ} {at : ℕ} → Begins k s → Valid s at → (at ≡ 0 → 0 ≡ length_by k (drop 1 s)) → Step s at
run_ends {s = s} b h f = record { valid = h; stuck = λ z. sym (first_character s b (f z)) }

-- where no character of the class begins c, none begins s
none_begins : (k : Class) {s : List ℕ} (c u : List ℕ) → s ≡ c ++ u → 0 < length c → length c ≡ size_of k → 0 ≡ length_by k (drop 1 c) → 0 ≡ length_by k (drop 1 s)
unfolding length_by
none_begins k [] u p l e f = absurd (omega arith)
none_begins k (b ∷ c) u p l e f = rw (p, begins-append (following k) c u (omega (arith, follow k (omega arith)))) f

same_first : {s : List ℕ} (c u : List ℕ) → s ≡ c ++ u → 0 < length c → get_or s 0 0 ≡ get_or c 0 0
same_first [] u p l = absurd (omega arith)
same_first (b ∷ c) u p l = ap (λ (t : List ℕ). get_or t 0 0) p

pub run_stops : {k : Class} {s : List ℕ} (c u : List ℕ) {at m : ℕ} → Begins k s → Valid s at → drop at s ≡ c ++ u → 0 < m → length c ≡ m → size_of k ≡ m
    → (k ≡ class_of (get_or c 0 0) → 0 ≡ length_by k (drop 1 c)) → Step s at
run_stops {k} {s} c u b h p l e g f =
    run_ends b h (λ z.
    let q : s ≡ c ++ u = rw z at p in
    none_begins k c u q (omega arith) (e ∙ sym g) (f (b.is ∙ ap class_of (same_first c u q (omega arith)))))

-- s ends before one more character does
too_short : (k : Class) (s : List ℕ) → 0 < length s → length s < size_of k → 0 ≡ length_by k (drop 1 s)
unfolding length_by
too_short k s h l = simp (short (following k) (drop 1 s) (omega (arith, length-drop 1 s, follow k (omega arith))))

pub run_is_cut : {k : Class} {s u : List ℕ} {at m : ℕ} → Begins k s → Valid s at → drop at s ≡ u → length u < m → size_of k ≡ m → Step s at
run_is_cut {k} {s} {u} b h p l g = run_ends b h (λ z. let q : s ≡ u = rw z at p in too_short k s b.some (omega (arith, ap length q)))
