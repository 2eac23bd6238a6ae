-- Lists that are in order by the rank of their elements: what is due rank by rank stands in one list alone.
-- Assumes nothing.
use mathlib.Core.Path.{◌≡◌, refl, sym, ap, ap₂}
use Prim.Native.Nat.{ℕ, zero, suc, ◌≤◌, ◌<◌}
use mathlib.Core.List.{List, [], ◌∷◌, ◌++◌}
use mathlib.Core.Logic.{⊎_elim}
use mathlib.Core.Option.{some}
use native.Mathlib.Nat.{not-suc-le-zero, le_of_suc-le-suc, eq-or-lt_of_le}
use native.Mathlib.Omega.{arith}
use lib.ListN.{length, get_elem?, take, drop}

-- ---- places
module _ {A : Type 0} where
  -- an empty list has an element nowhere
  pub nothing : (i : ℕ) {x : A} → get_elem? [] i ≡ some x → ⊥
  nothing zero e = let z : ◌≡◌ {A = ℕ} 0 1 = cc in omega arith
  nothing (suc i) e = let z : ◌≡◌ {A = ℕ} 0 1 = cc in omega arith

  -- a place that has an element is below the length
  pub there_below : (xs : List A) (i : ℕ) {x : A} → get_elem? xs i ≡ some x → i < length xs
  there_below [] i e = absurd (nothing i e)
  there_below (x ∷ xs) zero e = omega arith
  there_below (x ∷ xs) (suc i) e = omega (arith, there_below xs i e)

  -- those before it with it, and it with those behind it
  pub take_there : (xs : List A) (k : ℕ) {x : A} → get_elem? xs k ≡ some x → take (suc k) xs ≡ take k xs ++ (x ∷ [])
  take_there [] k e = absurd (nothing k e)
  take_there (y ∷ xs) zero {x} e = let same : y ≡ x = cc in rw same
  take_there (y ∷ xs) (suc k) e = ap (λ (ys : List A). y ∷ ys) (take_there xs k e)

  pub drop_there : (xs : List A) (k : ℕ) {x : A} → get_elem? xs k ≡ some x → drop k xs ≡ x ∷ drop (suc k) xs
  drop_there [] k e = absurd (nothing k e)
  drop_there (y ∷ xs) zero {x} e = let same : y ≡ x = cc in rw same
  drop_there (y ∷ xs) (suc k) e = drop_there xs k e

-- ---- lists that are in order by the rank of their elements
module _ {A : Type 0} (R : ℕ → A → Type 0) where
  pub record Ranked (xs : List A) : Type 0 where
    pub has : (i : ℕ) {x : A} → get_elem? xs i ≡ some x → (k : ℕ) × R k x
    pub ordered : (i j : ℕ) {k l : ℕ} {x y : A} → i < j → get_elem? xs i ≡ some x → get_elem? xs j ≡ some y → R k x → R l y → k < l

  -- all of one list stand in the other
  pub record Within (xs ys : List A) : Type 0 where
    pub stands : (i : ℕ) {x : A} → get_elem? xs i ≡ some x → (j : ℕ) × (get_elem? ys j ≡ some x)

  -- the first of either list is the first of the other, since none stands before it
  module _ (x y : A) (xs ys : List A) (p : Ranked (x ∷ xs)) (q : Ranked (y ∷ ys)) where
    heads : Within (x ∷ xs) (y ∷ ys) → Within (y ∷ ys) (x ∷ xs) → x ≡ y
    heads f g = by (f.stands 0 refl) (g.stands 0 refl)
      where
        by : (j : ℕ) × (get_elem? (y ∷ ys) j ≡ some x) → (i : ℕ) × (get_elem? (x ∷ xs) i ≡ some y) → x ≡ y
        by (zero, e) h = cc
        by (suc j, e) (zero, d) = cc
        by (suc j, e) (suc i, d) =
            let (k, a) = p.has 0 refl in
            let (l, b) = q.has 0 refl in
            let before = p.ordered 0 (suc i) (omega arith) refl d a b in
            let behind = q.ordered 0 (suc j) (omega arith) refl e b a in
            absurd (omega arith)

    -- and it stands nowhere else
    tails : Within (x ∷ xs) (y ∷ ys) → x ≡ y → Within xs ys
    tails f s = record { stands = λ i e. by i e (f.stands (suc i) e) }
      where
        by : (i : ℕ) {z : A} → get_elem? xs i ≡ some z → (j : ℕ) × (get_elem? (y ∷ ys) j ≡ some z) → (j : ℕ) × (get_elem? ys j ≡ some z)
        by i {z} e (zero, d) =
            let same : z ≡ x = cc in
            let (k, a) = p.has 0 refl in
            let again : R k z = rw same a in
            let before = p.ordered 0 (suc i) (omega arith) refl e a again in
            absurd (omega arith)
        by i e (suc j, d) = (j, d)

  tail : (x : A) (xs : List A) → Ranked (x ∷ xs) → Ranked xs
  tail x xs p = record { has = λ i e. p.has (suc i) e; ordered = λ i j l d e. p.ordered (suc i) (suc j) (omega arith) d e }

  -- two that have the same elements are the same
  pub same_ranked : (xs ys : List A) → Ranked xs → Ranked ys → Within xs ys → Within ys xs → xs ≡ ys
  same_ranked [] [] p q f g = refl
  same_ranked [] (y ∷ ys) p q f g = let (j, e) = g.stands 0 refl in absurd (nothing j e)
  same_ranked (x ∷ xs) [] p q f g = let (j, e) = f.stands 0 refl in absurd (nothing j e)
  same_ranked (x ∷ xs) (y ∷ ys) p q f g =
      let first : x ≡ y = heads x y xs ys p q f g in
      ap₂ (λ (z : A) (zs : List A). z ∷ zs) first (same_ranked xs ys (tail x xs p) (tail y ys q) (tails x y xs ys p q f first) (tails y x ys xs q p g (sym first)))

  -- what is due from rank a to below b, rank by rank: nothing, or one element
  pub data Run : ℕ → ℕ → List A → Type 0 where
    ended : {a : ℕ} → Run a a []
    none : {a b : ℕ} {xs : List A} → ((x : A) → R a x → ⊥) → Run (suc a) b xs → Run a b xs
    here : {a b : ℕ} {x : A} {xs : List A} → R a x → ((y : A) → R a y → y ≡ x) → Run (suc a) b xs → Run a b (x ∷ xs)

  pub run_append : {a b c : ℕ} {xs ys : List A} → Run a b xs → Run b c ys → Run a c (xs ++ ys)
  run_append ended s = s
  run_append (none h r) s = none h (run_append r s)
  run_append (here h o r) s = here h o (run_append r s)

  -- all of it stands there
  pub run_all : {a b : ℕ} {xs : List A} → Run a b xs → {k : ℕ} {x : A} → a ≤ k → k < b → R k x → (i : ℕ) × (get_elem? xs i ≡ some x)
  run_all ended p q d = absurd (omega arith)
  run_all {a} {xs = xs} (none h r) {k} {x} p q d = ⊎_elim (λ e. absurd (h x (rw e d))) (λ l. run_all r l q d) (eq-or-lt_of_le p)
  run_all {a} {xs = y ∷ xs} (here h o r) {k} {x} p q d = ⊎_elim now (λ l. let (i, e) = run_all r l q d in (suc i, e)) (eq-or-lt_of_le p)
    where
      now : a ≡ k → (i : ℕ) × (get_elem? (y ∷ xs) i ≡ some x)
      now e = let d : R a x = rw e d in (0, ap some (sym (o x d)))

  -- and nothing else
  pub run_only : {a b : ℕ} {xs : List A} → Run a b xs → (i : ℕ) {x : A} → get_elem? xs i ≡ some x → (k : ℕ) × (a ≤ k) × R k x
  run_only ended i e = absurd (nothing i e)
  run_only (none h r) i e = let (k, l, d) = run_only r i e in (k, omega arith, d)
  run_only {a} {xs = y ∷ xs} (here h o r) zero {x} e = let same : x ≡ y = cc in let d : R a x = rw same h in (a, omega arith, d)
  run_only (here h o r) (suc i) e = let (k, l, d) = run_only r i e in (k, omega arith, d)

  -- in order, where an element has one rank
  pub run_ordered : ((x : A) (k l : ℕ) → R k x → R l x → k ≡ l) → {a b : ℕ} {xs : List A} → Run a b xs
      → (i j : ℕ) {k l : ℕ} {x y : A} → i < j → get_elem? xs i ≡ some x → get_elem? xs j ≡ some y → R k x → R l y → k < l
  run_ordered once ended i j g d e p q = absurd (nothing i d)
  run_ordered once (none h r) i j g d e p q = run_ordered once r i j g d e p q
  run_ordered once (here h o r) i zero g d e p q = absurd (not-suc-le-zero g)
  run_ordered once {a} {xs = z ∷ xs} (here h o r) zero (suc j) {k} {l} {x} {y} g d e p q =
      let same : z ≡ x = cc in
      let now : R a x = rw (← same) h in
      let (m, b, w) = run_only r j e in
      omega (arith, once x k a p now, once y l m q w)
  run_ordered once (here h o r) (suc i) (suc j) g d e p q = run_ordered once r i j (le_of_suc-le-suc g) d e p q
