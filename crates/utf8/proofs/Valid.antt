-- Parts of a text, and valid beginnings one after the other. Assumes nothing.
use Prim.Native.Nat.{ℕ, ◌+◌, ◌-◌, ◌≤◌, ◌<◌}
use mathlib.Core.Path.{◌≡◌, sym, ap, ◌∙◌}
use mathlib.Core.List.{List, ◌++◌}
use native.Mathlib.Omega.{arith}
use lib.ListN.{length, get_or, take, drop, length-append, length-drop, get_or-append}
use lib.Seq.{take-add, take-append-le, take_all, drop_at, get_or-take, get_or-drop}
use Rattle.std.proofs.Common.{drop-drop}
use Rattle.paper.specs.Utf8.{none}
use Rattle.paper.proofs.Utf8.{utf8_append}
use Rattle.utf8.specs.Valid.{Valid}

-- the code lends `&s[at..]` as this part of s
pub rest_of : (s : List ℕ) (at : ℕ) → take (length s - at) (drop at s) ≡ drop at s
rest_of s at = take_all (length s - at) (drop at s) (omega (arith, length-drop at s))

-- a part of s that begins at place a has at i - a what s has at i
pub part_at : (s : List ℕ) (a m i : ℕ) → a ≤ i → i - a < m → get_or (take m (drop a s)) (i - a) 0 ≡ get_or s i 0
part_at s a m i l h = let e : a + (i - a) ≡ i = omega arith in rw (get_or-take, get_or-drop, e)

-- the empty beginning is valid
pub empty : (s : List ℕ) → Valid s 0
empty s = record { within = omega arith; good = none }

-- s from place a on is lent as a part b of n bytes and what follows it
pub rest_after : (s : List ℕ) (a n : ℕ) (b u : List ℕ) → drop a s ≡ b ++ u → length b ≡ n → drop (a + n) s ≡ u
rest_after s a n b u p e = sym (drop-drop n a s) ∙ ap (drop n) p ∙ drop_at b u n e

pub part_within : (s : List ℕ) (a n : ℕ) (b u : List ℕ) → a ≤ length s → drop a s ≡ b ++ u → length b ≡ n → a + n ≤ length s
part_within s a n b u l p e = omega (arith, length-drop a s, ap length p, length-append b u)

pub in_part : (s : List ℕ) (a n : ℕ) (b u : List ℕ) → drop a s ≡ b ++ u → length b ≡ n → (i : ℕ) → a ≤ i → i < a + n → get_or s i 0 ≡ get_or b (i - a) 0
in_part s a n b u p e i l m =
    let back : a + (i - a) ≡ i = omega arith in
    let there : get_or (drop a s) (i - a) 0 ≡ get_or s i 0 = rw (get_or-drop, back) in
    sym there ∙ ap (λ (t : List ℕ). get_or t (i - a) 0) p ∙ get_or-append b u 0 (i - a) (omega arith)

-- a valid beginning is one of a longer text
pub begun : {c : List ℕ} {n : ℕ} (u : List ℕ) → Valid c n → Valid (c ++ u) n
begun {c} {n} u h = record { within = omega (arith, length-append c u, h.within); good = rw (take-append-le n c u h.within) h.good }

-- a valid beginning, and one of what follows it
pub onward : {s : List ℕ} {at n : ℕ} → Valid s at → Valid (drop at s) n → Valid s (at + n)
onward {s} {at} {n} h g = record {
  within = omega (arith, length-drop at s, h.within, g.within);
  good = rw take-add (utf8_append h.good g.good);
}
