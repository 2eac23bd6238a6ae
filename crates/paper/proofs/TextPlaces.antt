-- Document 02, Req 12: a text is right, or 18 carries the first place at which something can't stand; and not both.
-- Assumes nothing.
use mathlib.Core.Path.{◌≡◌, refl, sym, ap, ◌∙◌}
use Prim.Native.Nat.{ℕ, suc, ◌≤◌, ◌<◌}
use mathlib.Core.Bool.{Bool, true, false, not, true≢false}
use mathlib.Core.List.{List}
use mathlib.Core.Logic.{◌⊎◌, inl, inr, ⊎_elim}
use native.Mathlib.Nat.{le_of_suc-le-suc, eq-or-lt_of_le}
use native.Mathlib.Omega.{arith}
use lib.ListN.{length, get_or}
use lib.Dec.{eqb}
use borrow.Author.Tests.{lt-ltb, le-ltb, eqb-false, eq-eqb, ne_eqb, not-false}
use Rattle.paper.specs.Answer.{Refusal, Answer, accepted, refused, bad_character}
use Rattle.paper.specs.CodeText.{Sort, can_stand, can_end, place_in, wrong_at, first_wrong, well_formed, FirstBad, NoneBad}
use Rattle.paper.proofs.Choice.{never}
use Rattle.paper.proofs.FirstPlace.{first-most, number-most, number-earlier, number-passes, number-none, number_is}
use Rattle.paper.proofs.Spelling.{row_in, row_has}

not_so : (b : Bool) → (b ≡ true → ⊥) → b ≡ false
not_so true h = absurd (h refl)
not_so false h = refl

is_so : (b : Bool) → (b ≡ false → ⊥) → b ≡ true
is_so true h = refl
is_so false h = absurd (h refl)

-- the character at place i is one of its row
abbrev pub Stands : Sort → List ℕ → ℕ → Type 0
Stands sort t i = place_in (can_stand sort i) (get_or t i 0) < length (can_stand sort i)

-- everything can stand where it is
pub record Right (sort : Sort) (t : List ℕ) : Type 0 where
  pub stand : (i : ℕ) → i < length t → Stands sort t i
  pub ends : can_end sort (length t) ≡ true

module _ (sort : Sort) (t : List ℕ) where
  -- ---- what the test says of a place
  char_right : (i : ℕ) → i < length t → Stands sort t i → wrong_at sort t i ≡ false
  unfolding wrong_at
  char_right i h l = rw (lt-ltb i (length t) h, ne_eqb (place_in (can_stand sort i) (get_or t i 0)) (length (can_stand sort i)) (λ e. omega arith))

  char_stands : (i : ℕ) → i < length t → wrong_at sort t i ≡ false → Stands sort t i
  unfolding wrong_at
  char_stands i h e =
      let other : place_in (can_stand sort i) (get_or t i 0) ≡ length (can_stand sort i) → ⊥ = eqb-false _ _ (rw (lt-ltb i (length t) h) at e) in
      omega (arith, first-most (eqb (get_or t i 0)) 0 (can_stand sort i))

  end_told : wrong_at sort t (length t) ≡ not (can_end sort (length t))
  unfolding wrong_at
  end_told = rw (le-ltb (length t) (length t) (omega arith))

  -- ---- what the search finds
  -- in a right text nothing, and the other way round
  right-first : Right sort t → first_wrong sort t ≡ suc (length t)
  unfolding first_wrong
  right-first r = number-none (wrong_at sort t) (suc (length t)) (λ j h. ⊎_elim (at_end j) (λ l. char_right j l (r.stand j l)) (eq-or-lt_of_le (le_of_suc-le-suc h)))
    where
      at_end : (j : ℕ) → j ≡ length t → wrong_at sort t j ≡ false
      at_end j e = rw e (end_told ∙ rw r.ends)

  first-right : first_wrong sort t ≡ suc (length t) → Right sort t
  unfolding first_wrong
  first-right e =
      let none : (j : ℕ) → j < suc (length t) → wrong_at sort t j ≡ false = λ j h. number-earlier (wrong_at sort t) (suc (length t)) j (rw e h) in
      record { stand = λ i h. char_stands i h (none i (omega arith)); ends = not-false _ (sym end_told ∙ none (length t) (omega arith)) }

  -- else the first place at which something can't stand, and the other way round
  bad-first : (p : ℕ) → FirstBad sort t p → first_wrong sort t ≡ p
  unfolding first_wrong
  bad-first p f = number_is (wrong_at sort t) (suc (length t)) p (omega (arith, f.within)) earlier (⊎_elim at_end here (eq-or-lt_of_le f.within))
    where
      earlier : (j : ℕ) → j < p → wrong_at sort t j ≡ false
      earlier j h = let (k, e) = f.earlier j h in char_right j (omega (arith, f.within)) (row_has (can_stand sort j) (get_or t j 0) k e)

      at_end : p ≡ length t → wrong_at sort t p ≡ true
      at_end e = rw e (end_told ∙ ap not (not_so (can_end sort (length t)) (λ w. f.ends e (rw e w))))

      here : p < length t → wrong_at sort t p ≡ true
      here h = is_so (wrong_at sort t p) (λ w. f.here h (row_in (can_stand sort p) (get_or t p 0) (char_stands p h w)))

  first-bad : (p : ℕ) → first_wrong sort t ≡ p → p ≤ length t → FirstBad sort t p
  unfolding first_wrong
  first-bad p e h = record {
    within = h;
    earlier = λ k l. row_in (can_stand sort k) (get_or t k 0) (char_stands k (omega arith) (number-earlier (wrong_at sort t) (suc (length t)) k (rw e l)));
    here = λ l (k, q). true≢false (sym wrong ∙ char_right p l (row_has (can_stand sort p) (get_or t p 0) k q));
    ends = λ q w. true≢false (sym wrong ∙ rw q (end_told ∙ rw (rw q at w)));
  }
    where
      wrong : wrong_at sort t p ≡ true
      wrong = rw e at (number-passes (wrong_at sort t) (suc (length t)) (rw e (omega arith)))

  -- ---- judged so
  -- a text is right or has such a place, and not both
  judged : Right sort t ⊎ ((p : ℕ) × FirstBad sort t p)
  unfolding first_wrong
  judged =
      ⊎_elim (λ e. inl (first-right e)) (λ l. inr (first_wrong sort t, first-bad (first_wrong sort t) refl (le_of_suc-le-suc l)))
      (eq-or-lt_of_le (number-most (wrong_at sort t) (suc (length t))))

  pub right-none : Right sort t → NoneBad sort t
  right-none r p f = omega (arith, right-first r, bad-first p f, f.within)

  pub none_right : NoneBad sort t → Right sort t
  none_right n = ⊎_elim (λ r. r) (λ (p, f). absurd (n p f)) judged

  module _ {A : Type 0} (a : Answer A) where
    pub right-passes : Right sort t → well_formed sort t a ≡ a
    right-passes r = rw (right-first r, eq-eqb (suc (length t)) (suc (length t)) refl)

    pub bad-refused : (p : ℕ) → FirstBad sort t p → well_formed sort t a ≡ refused (bad_character p)
    bad-refused p f = rw (bad-first p f, ne_eqb p (suc (length t)) (λ e. omega (arith, f.within)))

    pub passed_right : {x : A} → well_formed sort t a ≡ accepted x → Right sort t × (a ≡ accepted x)
    passed_right e = ⊎_elim (λ r. (r, sym (right-passes r) ∙ e)) (λ (p, f). absurd (never (sym (bad-refused p f) ∙ e))) judged

    -- the refusals are these, or what comes after
    pub refused_by : {e : Refusal} → well_formed sort t a ≡ refused e → ((p : ℕ) × (e ≡ bad_character p) × FirstBad sort t p) ⊎ (Right sort t × (a ≡ refused e))
    refused_by {e} q = ⊎_elim (λ r. inr (r, sym (right-passes r) ∙ q)) (λ (p, f). inl (p, at p f, f)) judged
      where
        at : (p : ℕ) → FirstBad sort t p → e ≡ bad_character p
        at p f = let one : ◌≡◌ {A = Answer A} (refused (bad_character p)) (refused e) = sym (bad-refused p f) ∙ q in cc

  -- ---- what a search from the first character on has seen: all before place i can stand
  module _ (i : ℕ) (before : (k : ℕ) → k < i → Stands sort t k) where
    -- this one can't
    pub bad-here : i < length t → (Stands sort t i → ⊥) → FirstBad sort t i
    bad-here h other = record {
      within = omega arith;
      earlier = λ k l. row_in (can_stand sort k) (get_or t k 0) (before k l);
      here = λ l (k, e). other (row_has (can_stand sort i) (get_or t i 0) k e);
      ends = λ e w. omega arith;
    }

    -- the text ends here, and can't
    pub bad_end : i ≡ length t → can_end sort i ≡ false → FirstBad sort t i
    bad_end h other = record {
      within = omega arith;
      earlier = λ k l. row_in (can_stand sort k) (get_or t k 0) (before k l);
      here = λ l w. omega arith;
      ends = λ e w. true≢false (sym w ∙ other);
    }

    -- it can
    pub none-bad : i ≡ length t → can_end sort i ≡ true → NoneBad sort t
    none-bad h can = right-none (record { stand = λ k l. before k (rw h l); ends = rw (← h) can })
