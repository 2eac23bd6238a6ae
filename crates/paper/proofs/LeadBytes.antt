-- Document 02, request 07: the class of a lead byte says how long the character is with which a text begins, as the nine productions do.
-- Assumes nothing.
use Prim.Native.Nat.{ℕ, zero, suc, ◌≤◌, ◌<◌}
use mathlib.Core.Path.{◌≡◌, refl, ap, sym, ◌∙◌}
use mathlib.Core.Bool.{false, not-eq-not}
use mathlib.Core.Logic.{⊎_elim}
use mathlib.Core.List.{List, [], ◌∷◌, map}
use native.Mathlib.Omega.{arith}
use lib.ListN.{get_or}
use Rattle.paper.specs.Utf8.{In, in_range, begins, char_length}
use Rattle.paper.specs.LeadBytes.{Class, no_lead, ascii, two_bytes, lead_e0, three_bytes, lead_ed, lead_f0, four_bytes, lead_f4}
use Rattle.paper.specs.LeadBytes.{classes, class_in, class_of, length_by}
use Rattle.paper.proofs.Choice.{cut}
use Rattle.paper.proofs.Utf8.{in_true, true_in, lead_1, lead_2, lead-E0, lead_e1, lead-ED, lead_ee, lead-F0, lead_f1, lead-F4, lead_none_low, lead_none_high}

-- ---- the class by range
-- the byte is in range i of the list, and in none before it; past the list's end: in none of it
abbrev First : List ((ℕ × ℕ) × Class) → ℕ → ℕ → Type 0
First [] i b = Unit {0}
First (r ∷ rs) zero b = In r.0.0 r.0.1 b
First (r ∷ rs) (suc i) b = (In r.0.0 r.0.1 b → ⊥) × First rs i b

in_class : (rs : List ((ℕ × ℕ) × Class)) (i b : ℕ) → First rs i b → class_in rs b ≡ (get_or rs i ((0, 0), no_lead)).1
unfolding class_in
in_class [] i b h = refl
in_class (r ∷ rs) zero b h = rw (in_true h)
in_class (r ∷ rs) (suc i) b h = simp ((not-eq-not {b = false}).0 (λ e. h.0 (true_in r.0 b e))) (in_class rs i b h.1)

-- a lead byte in range i has that range's class, and so the length is what that class says
by_class : (i b : ℕ) (s : List ℕ) {n : ℕ} → First classes i b → n ≡ length_by (get_or classes i ((0, 0), no_lead)).1 s → n ≡ length_by (class_of b) s
unfolding class_of
by_class i b s h e = e ∙ ap (λ (k : Class). length_by k s) (sym (in_class classes i b h))

-- of every byte b and every s: the character with which b and then s begin is as long as b's class says
pub lead_class : (b : ℕ) (s : List ℕ) → char_length (b ∷ s) ≡ length_by (class_of b) s
unfolding length_by begins
lead_class b s =
    below 0x80 (λ l. by_class 0 b s (omega arith) (lead_1 (omega arith) s)) (λ m.
    below 0xC2 (λ l. by_class 1 b s (omega arith) (lead_none_low (omega arith) s)) (λ m.
    below 0xE0 (λ l. by_class 2 b s (omega arith) (lead_2 (omega arith) s)) (λ m.
    below 0xE1 (λ l. by_class 3 b s (omega arith) (lead-E0 (omega arith) s)) (λ m.
    below 0xED (λ l. by_class 4 b s (omega arith) (lead_e1 (omega arith) s)) (λ m.
    below 0xEE (λ l. by_class 5 b s (omega arith) (lead-ED (omega arith) s)) (λ m.
    below 0xF0 (λ l. by_class 6 b s (omega arith) (lead_ee (omega arith) s)) (λ m.
    below 0xF1 (λ l. by_class 7 b s (omega arith) (lead-F0 (omega arith) s)) (λ m.
    below 0xF4 (λ l. by_class 8 b s (omega arith) (lead_f1 (omega arith) s)) (λ m.
    below 0xF5 (λ l. by_class 9 b s (omega arith) (lead-F4 (omega arith) s)) (λ m.
    below 0x100 (λ l. by_class 10 b s (omega arith) (lead_none_high (omega arith) s)) (λ m.
    by_class 11 b s (omega arith) (lead_none_high (omega arith) s))))))))))))
  where
    below : {P : Type 0} (n : ℕ) → (b < n → P) → (n ≤ b → P) → P
    below n f g = ⊎_elim f g (cut b n)

-- ---- worked examples
-- the first and the last byte of each range, and their classes
pub borders : map class_of (0x00 ∷ 0x7F ∷ 0x80 ∷ 0xC1 ∷ 0xC2 ∷ 0xDF ∷ 0xE0 ∷ 0xE1 ∷ 0xEC ∷ 0xED ∷ 0xEE ∷ 0xEF ∷ 0xF0 ∷ 0xF1 ∷ 0xF3 ∷ 0xF4 ∷ 0xF5 ∷ 0xFF ∷ [])
    ≡ ascii
    ∷ ascii
    ∷ no_lead
    ∷ no_lead
    ∷ two_bytes
    ∷ two_bytes
    ∷ lead_e0
    ∷ three_bytes
    ∷ three_bytes
    ∷ lead_ed
    ∷ three_bytes
    ∷ three_bytes
    ∷ lead_f0
    ∷ four_bytes
    ∷ four_bytes
    ∷ lead_f4
    ∷ no_lead
    ∷ no_lead
    ∷ []
unfolding class_of class_in in_range
borders = refl

-- the euro sign, E2 82 AC; cut after two bytes; with a third byte that is no tail; the surrogate ED A0 80; and ED 9F BF, the last before the surrogates
pub lengths : length_by (class_of 0xE2) (0x82 ∷ 0xAC ∷ [])
    ∷ length_by (class_of 0xE2) (0x82 ∷ [])
    ∷ length_by (class_of 0xE2) (0x82 ∷ 0x41 ∷ [])
    ∷ length_by (class_of 0xED) (0xA0 ∷ 0x80 ∷ [])
    ∷ length_by (class_of 0xED) (0x9F ∷ 0xBF ∷ [])
    ∷ []
    ≡ 3 ∷ 0 ∷ 0 ∷ 0 ∷ 3 ∷ []
unfolding length_by class_of class_in begins in_range
lengths = refl
