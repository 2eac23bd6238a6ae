-- The bytes after a character's first, by position; and the character by its first byte. Assumes nothing.
use Prim.Native.Nat.{ℕ, zero, suc, ◌-◌, ◌≤◌, ◌<◌}
use mathlib.Core.Path.{◌≡◌, refl, sym, ap, ◌∙◌}
use mathlib.Core.Bool.{Bool, true, false, ◌&&◌}
use mathlib.Core.Logic.{⊎_elim}
use mathlib.Core.List.{List, [], ◌∷◌}
use native.Mathlib.Omega.{arith}
use lib.ListN.{length, get_or, take, drop, replicate, length-drop, length-replicate}
use Rattle.std.proofs.Common.{Some, slice_get}
use Rattle.std.specs.List.{list_all}
use Rattle.paper.specs.Choice.{pick, both}
use Rattle.paper.specs.Utf8.{In, tail, in_range, begins, char_length}
use Rattle.paper.proofs.Utf8.{lead_e1, lead_ee}
use Rattle.paper.proofs.Choice.{cut}
use Rattle.utf8.specs.Character.{Lead, sized}
use Rattle.utf8.proofs.Valid.{rest_of}

both_and : (p q : Bool) → both p q ≡ (p && q)
both_and true q = refl
both_and false q = refl

both_no : (p : Bool) → both p false ≡ false
both_no true = refl
both_no false = refl

-- a text that is too short does not begin with these ranges
pub short : (rs : List (ℕ × ℕ)) (t : List ℕ) → length t < length rs → begins rs t ≡ false
unfolding begins
short [] t h = absurd (omega arith)
short (r ∷ rs) [] h = refl
short (r ∷ rs) (b ∷ t) h = simp (short rs t (omega arith), both_no)

-- s ends before a character of these ranges does
too_short_lem : (rs : List (ℕ × ℕ)) (s : List ℕ) → length s < suc (length rs) → 0 < length rs → 0 ≡ sized rs s
too_short_lem rs s h p = simp (short rs (drop 1 s) (omega (arith, length-drop 1 s)))

-- the tests that the code makes of the bytes after the first, which it lends as b
begins-replicate : (n : ℕ) (r : ℕ × ℕ) (t : List ℕ) → n ≤ length t → begins (replicate n r) t ≡ list_all (in_range r) (take n t)
unfolding begins
begins-replicate zero r t h = refl
begins-replicate (suc n) r [] h = absurd (omega arith)
begins-replicate (suc n) r (b ∷ t) h = both_and (in_range r b) _ ∙ ap (λ (x : Bool). in_range r b && x) (begins-replicate n r t (omega arith))

two_more : (n k : ℕ) (second : ℕ × ℕ) (s b : List ℕ) → suc (suc k) ≡ n → n ≤ length s → b ≡ take (suc k) (drop 1 s)
    → sized (second ∷ replicate k tail) s ≡ pick (in_range second (get_or b 0 0) && list_all (in_range tail) (drop 1 b)) n 0
unfolding begins
two_more n k second [] b e l p = absurd (omega arith)
two_more n k second (x ∷ []) b e l p = absurd (omega arith)
two_more n k second (x ∷ y ∷ t) b e l p =
    rw (p, length-replicate k tail, e)
    (ap (λ (test : Bool). pick test n 0) (both_and (in_range second y) _ ∙ ap (λ (test : Bool). in_range second y && test) (begins-replicate k tail t (omega arith))))

pub by_tests : {n : ℕ} (second : ℕ × ℕ) (s b : List ℕ) → 2 ≤ n → n ≤ length s → b ≡ take (n - 1) (drop 1 s)
    → sized (second ∷ replicate (n - 2) tail) s ≡ pick (in_range second (get_or b 0 0) && list_all (in_range tail) (take (length b - 1) (drop 1 b))) n 0
by_tests {n} second s b h l p =
    let e : suc (n - 2) ≡ n - 1 = omega arith in
    rw (rest_of b 1) (two_more n (n - 2) second s b (omega arith) l (rw e p))

-- s ends before such a character does
pub no_room : {n : ℕ} (second : ℕ × ℕ) (s : List ℕ) → 2 ≤ n → length s < n → 0 ≡ sized (second ∷ replicate (n - 2) tail) s
no_room {n} second s h l = too_short_lem (second ∷ replicate (n - 2) tail) s (omega (arith, length-replicate (n - 2) tail)) (omega arith)

-- a first byte from E1 to EF, but for ED, takes two more bytes
pub lead_3 : {a : ℕ} → In 0xE1 0xEF a → (a ≡ 0xED → ⊥) → (t : List ℕ) → char_length (a ∷ t) ≡ pick (begins (tail ∷ tail ∷ []) t) 3 0
lead_3 {a} h n t = ⊎_elim (λ l. lead_e1 (h.0, omega arith) t) (λ l. lead_ee (omega arith, h.1) t) (cut a 0xED)

-- the code takes the first byte of s
pub led : {a : ℕ} (s : List ℕ) → Some a ≡ slice_get s 0 → Lead a s
led [] e = absurd (cc)
led (b ∷ s) e = record { some = omega arith; is = cc }

-- what is found for the first byte and what follows it is found for the text
pub by_lead : {a : ℕ} (s : List ℕ) {n : ℕ} → Lead a s → char_length (a ∷ drop 1 s) ≡ n → n ≡ char_length s
by_lead [] h e = absurd (omega (arith, h.some))
by_lead (b ∷ s) h e = sym e ∙ ap (λ (x : ℕ). char_length (x ∷ s)) h.is
