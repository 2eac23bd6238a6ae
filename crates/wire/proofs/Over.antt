-- The laws of `over` and `Filled`: one store more, and one field more in the part that begins where the last ended.
-- Assumes nothing.
use Prim.Native.Nat.{ℕ, ◌+◌, ◌-◌, ◌≤◌, ◌<◌}
use mathlib.Core.Path.{◌≡◌, refl, ap, ◌∙◌, subst}
use mathlib.Core.List.{List, [], ◌∷◌, ◌++◌, append_assoc}
use native.Mathlib.Omega.{arith}
use native.Mathlib.Numerals.{add-one}
use lib.ListN.{length, take, drop, set, length-append, length-take, length-drop, take-append-drop}
use lib.Seq.{drop-cons, set_at, drop_at, take_at, drop-append-le, drop-drop}
use Rattle.paper.specs.Answer.{over}
use Rattle.wire.specs.Writing.{Filled}

-- a buffer is as long as it was
pub over_length : (p old : List ℕ) → length p ≤ length old → length (over p old) ≡ length old
unfolding over
over_length p old h = simp (length-append, length-drop) (omega arith)

-- nothing written
pub filled_none : {old : List ℕ} → Filled [] old old
unfolding over
filled_none = record { given_room = λ h. refl }

-- one byte more
pub filled_set : {p old xs : List ℕ} {n : ℕ} (a : ℕ) → Filled p old xs → length p ≡ n → Filled (p ++ (a ∷ [])) old (set xs n a)
unfolding over
filled_set {p} {old} {xs} {n} a h e = record { given_room = go }
  where
    go : length (p ++ (a ∷ [])) ≤ length old → set xs n a ≡ over (p ++ (a ∷ [])) old
    go l =
        let m : length p < length old = omega (arith, simp length-append at l) in
        rw (h.given_room (omega arith), ← e, drop-cons old (length p) 0, set_at, append_assoc, length-append, add-one)

-- the part that `&mut xs[at..]` lends
abbrev pub rest : ℕ → List ℕ → List ℕ
rest at xs = take (length xs - at) (drop at xs)

-- how it comes back: `xs` is the whole before, `ys` the lent part after
abbrev pub back : ℕ → List ℕ → List ℕ → List ℕ
back at xs ys = take at xs ++ (ys ++ drop (length xs - at) (drop at xs))

-- one field after the other, the second into `&mut out[at..]`, where the first ended: the one list after the other is written
pub filled_more : {p q old xs ys : List ℕ} (at : ℕ) → Filled p old xs → Filled q (rest at xs) ys → length p ≡ at → Filled (p ++ q) old (back at xs ys)
unfolding over
filled_more {p} {q} {old} {xs} {ys} at hp hq e = record { given_room = go }
  where
    go : length (p ++ q) ≤ length old → back at xs ys ≡ over (p ++ q) old
    go l =
        let room : length p + length q ≤ length old = omega (arith, simp length-append at l) in
        let is : xs ≡ p ++ drop (length p) old = hp.given_room (omega arith) in
        let long : length xs ≡ length old = ap length is ∙ over_length p old (omega arith) in
        let k = length xs - at in
        let r = drop (length p) old in
        let t : take at xs ≡ p = ap (take at) is ∙ take_at p r at e in
        let d : drop at xs ≡ r = ap (drop at) is ∙ drop_at p r at e in
        let f : length q ≤ length (take k r) = simp (length-take, length-drop) (omega arith) in
        let i : ys ≡ q ++ drop (length q) (take k r) = rw d at (hq.given_room (rw d f)) in
        rw (i, t, d, append_assoc, ← drop-append-le (length q) (take k r) (drop k r) f, take-append-drop, append_assoc, length-append, drop-drop)

-- the same bytes, put together otherwise
pub filled_as : {p q old new : List ℕ} → p ≡ q → Filled p old new → Filled q old new
filled_as {old = old} {new} e h = subst (λ (l : List ℕ). Filled l old new) e h
