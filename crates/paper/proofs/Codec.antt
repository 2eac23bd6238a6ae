-- Readers and ways of writing: what holds of one field, of one after the other, and, for demand 3, of a whole message.
-- Assumes nothing.
use mathlib.Core.Path.{◌≡◌, refl, ap, sym, subst, ◌∙◌}
use Prim.Native.Nat.{ℕ, ◌≤◌}
use mathlib.Core.List.{List, [], ◌++◌, append_assoc, append-nil}
use mathlib.Core.Bool.{Bool, true, false}
use mathlib.Core.Logic.{◌↔◌}
use native.Mathlib.Omega.{arith}
use lib.ListN.{length}
use Rattle.paper.specs.Answer.{Refusal, Answer, accepted, refused, Read, ◌leaving◌, Reader, onward, ◌>>=◌, give, refuse, judge}
use Rattle.paper.specs.Bytes.{Bytes}
use Rattle.paper.specs.Rewriting.{Layout, Message, rewriting, Rewritten, Demand3}
use Rattle.paper.proofs.Choice.{never}
use Rattle.paper.proofs.Bytes.{bytes-right, bytes_append}

-- `W a u`: the bytes u are one way to write a
abbrev pub Wire : Type 0 → Type 1
Wire A = A → List ℕ → Type 0

-- p accepts just the ways to write a, whatever follows them, and answers a and what follows
pub record Reads (A : Type 0) (p : Reader A) (W : Wire A) : Type 0 where
  pub sound : (s : List ℕ) (a : A) (t : List ℕ) → Bytes s → p s ≡ accepted (a leaving t) → (u : List ℕ) × W a u × (s ≡ u ++ t)
  pub complete : (a : A) (u t : List ℕ) → W a u → p (u ++ t) ≡ accepted (a leaving t)
  pub plain : (a : A) (u : List ℕ) → W a u → Bytes u

pub layout : {A : Type 0} {p : Reader A} {W : Wire A} → Reads A p W → Layout p W
layout r s m t b = (r.sound s m t b, λ v. rw v.2 (r.complete m v.0 t v.1))

-- ---- one field after the other
-- what is accepted in two steps was accepted in each
pub onward-is : {A B : Type 0} (o : Answer (Read A)) (k : A → Reader B) (b : B) (t : List ℕ) → onward o k ≡ accepted (b leaving t)
    → (a : A) × (r : List ℕ) × (o ≡ accepted (a leaving r)) × (k a r ≡ accepted (b leaving t))
onward-is (accepted (a leaving r)) k b t e = (a, r, refl, e)
onward-is (refused r) k b t e = absurd (never e)

-- the ways to write what is read in two steps: of the first, and then of the second, which may depend on the first's value
pub record Then (A B : Type 0) (X : Wire A) (W : A → Wire B) (b : B) (u : List ℕ) : Type 0 where
  pub first : A
  pub front : List ℕ
  pub back : List ℕ
  pub one : X first front
  pub two : W first b back
  pub joined : u ≡ front ++ back

pub reads_then : {A B : Type 0} {p : Reader A} {X : Wire A} {k : A → Reader B} {W : A → Wire B}
    → Reads A p X → ((a : A) → Reads B (k a) (W a)) → Reads B (p >>= k) (Then A B X W)
unfolding ◌>>=◌
reads_then {A} {B} {p} {X} {k} {W} r q = record { sound = sound; complete = complete; plain = plain }
  where
    sound : (s : List ℕ) (b : B) (t : List ℕ) → Bytes s → onward (p s) k ≡ accepted (b leaving t) → (u : List ℕ) × Then A B X W b u × (s ≡ u ++ t)
    sound s b t h f =
        let (a, t₁, e, g) = onward-is (p s) k b t f in
        let (u, v, j) = r.sound s a t₁ h e in
        let (u₂, v₂, j₂) = (q a).sound t₁ b t (bytes-right u t₁ (subst Bytes j h)) g in
        (u ++ u₂, record { first = a; front = u; back = u₂; one = v; two = v₂; joined = refl }, rw append_assoc (cc))

    complete : (b : B) (u t : List ℕ) → Then A B X W b u → onward (p (u ++ t)) k ≡ accepted (b leaving t)
    complete b u t w =
        rw (w.joined, append_assoc, r.complete w.first w.front (w.back ++ t) w.one) ((q w.first).complete b w.back t w.two)

    plain : (b : B) (u : List ℕ) → Then A B X W b u → Bytes u
    plain b u w = rw w.joined (bytes_append w.front w.back (r.plain _ _ w.one) ((q w.first).plain _ _ w.two))

-- the same ways, said otherwise
pub reads_as : {A : Type 0} {p : Reader A} {X W : Wire A} → ((a : A) (u : List ℕ) → X a u ↔ W a u) → Reads A p X → Reads A p W
reads_as i r = record {
  sound = λ s a t h e. let (u, v, j) = r.sound s a t h e in (u, (i a u).0 v, j);
  complete = λ a u t v. r.complete a u t ((i a u).1 v);
  plain = λ a u v. r.plain a u ((i a u).1 v);
}

-- ---- nothing is read
-- the value is known
pub record Given (A : Type 0) (a x : A) (u : List ℕ) : Type 0 where
  pub is : x ≡ a
  pub none : u ≡ []

pub reads-give : {A : Type 0} (a : A) → Reads A (give a) (Given A a)
unfolding give
reads-give a = record {
  sound = λ s x t h e. ([], record { is = cc; none = refl }, cc);
  complete = λ x u t g. rw (g.is, g.none);
  plain = λ x u g. rw g.none tt;
}

pub reads-refuse : {A : Type 0} (r : Refusal) → Reads A (refuse r) (λ (a : A) (u : List ℕ). ⊥)
unfolding refuse
reads-refuse r = record { sound = λ s x t h e. absurd (never e); complete = λ x u t g. absurd g; plain = λ x u g. absurd g }

-- ---- a value that is computed from what was read, which must pass a test
pub record Kept (A B : Type 0) (ok : A → Bool) (g : A → B) (W : Wire A) (b : B) (u : List ℕ) : Type 0 where
  pub from : A
  pub passed : ok from ≡ true
  pub is : b ≡ g from
  pub way : W from u

Passed : {A : Type 0} → Bool → A → Wire A
Passed t a x u = (t ≡ true) × (x ≡ a) × (u ≡ [])

pub false_true : false ≡ true → ⊥
false_true e = let z : ◌≡◌ {A = ℕ} 0 1 = cc in omega arith

reads-judge : {A : Type 0} (t : Bool) (r : Refusal) (a : A) → Reads A (judge t r a) (Passed t a)
unfolding Passed
reads-judge true r a = reads_as (λ x u. ((λ g. (refl, g.is, g.none)), (λ g. record { is = g.1; none = g.2 }))) (reads-give a)
reads-judge false r a = reads_as (λ x u. ((λ g. absurd g), (λ g. absurd (false_true g.0)))) (reads-refuse r)

pub reads_kept : {A B : Type 0} {p : Reader A} {W : Wire A} (ok : A → Bool) (r : A → Refusal) (g : A → B) → Reads A p W
    → Reads B (p >>= (λ (a : A). judge (ok a) (r a) (g a))) (Kept A B ok g W)
unfolding Passed
reads_kept {A} {B} {p} {W} ok r g f = reads_as (λ b u. (there b u, back b u)) (reads_then f (λ a. reads-judge (ok a) (r a) (g a)))
  where
    Both : Wire B
    Both = Then A B W (λ (a : A). Passed (ok a) (g a))

    there : (b : B) (u : List ℕ) → Both b u → Kept A B ok g W b u
    there b u t =
        let e : t.front ≡ u = sym (t.joined ∙ ap (λ (l : List ℕ). t.front ++ l) t.two.2 ∙ append-nil t.front) in
        record { from = t.first; passed = t.two.0; is = t.two.1; way = subst (W t.first) e t.one }

    back : (b : B) (u : List ℕ) → Kept A B ok g W b u → Both b u
    back b u v = record { first = v.from; front = u; back = []; one = v.way; two = (v.passed, v.is, refl); joined = sym (append-nil u) }

-- no test
abbrev pub always : {A : Type 0} → A → Bool
always a = true

pub reads_map : {A B : Type 0} {p : Reader A} {W : Wire A} (g : A → B) → Reads A p W → Reads B (p >>= (λ (a : A). give (g a))) (Kept A B always g W)
reads_map g f = reads_kept always (λ a. record { number = 0; first = 0; second = 0 }) g f

-- ---- the writer
-- of the ways to write a, `best a` is one, it is the shortest, and no other is as short
pub record Best (A : Type 0) (W : Wire A) (best : A → List ℕ) : Type 0 where
  pub good : (a : A) (u : List ℕ) → W a u → W a (best a)
  pub short : (a : A) (u : List ℕ) → W a u → length (best a) ≤ length u
  pub only : (a : A) (u : List ℕ) → W a u → length u ≡ length (best a) → u ≡ best a

module _ {A : Type 0} {p : Reader A} {W : Wire A} (r : Reads A p W) where
  -- a message is a way to write its meaning
  way : (s : List ℕ) (a : A) → Message A p s a → W a s
  way s a m =
      let (u, v, j) = r.sound s a [] m.bytes m.whole in
      subst (W a) (sym (j ∙ append-nil u)) v

  -- a way to write a is a message that means a
  pub message : (u : List ℕ) (a : A) → W a u → Message A p u a
  message u a v = record { bytes = r.plain a u v; whole = rw append-nil at (r.complete a u [] v) }

-- one answer has one value
one_value : {A : Type 0} {x : Answer (Read A)} {a b : A} → x ≡ accepted (a leaving []) → x ≡ accepted (b leaving []) → a ≡ b
one_value g h = cc

-- demand 3 holds of every reader of just the ways to write, and every writer that does not refuse what can be read and writes the best way
module _ {A : Type 0} {p : Reader A} {W : Wire A} {best : A → List ℕ} (r : Reads A p W) (f : Best A W best) (w : A → Answer (List ℕ))
    (passes : (a : A) (u : List ℕ) → W a u → w a ≡ accepted (best a)) where
  again : (s : List ℕ) (a : A) → Message A p s a → rewriting p w s ≡ accepted (best a leaving [])
  unfolding rewriting ◌>>=◌ give
  again s a m = rw (m.whole, passes a s (way r s a m))

  -- what a message is rewritten to
  best_is : (s u : List ℕ) (a : A) → Message A p s a → Rewritten (rewriting p w) s u → best a ≡ u
  best_is s u a m e = one_value (again s a m) e.is

  best_message : (s : List ℕ) (a : A) → Message A p s a → Message A p (best a) a
  best_message s a m = message r (best a) a (f.good a s (way r s a m))

  pub demand_3 : Demand3 A p (rewriting p w)
  demand_3 = record {
    always = λ {s} {a} m. (best a, record { is = again s a m });
    same = λ {s} {t} {u} {v} {a} {b} m n g h. (
      (λ e. sym (best_is s u a m g) ∙ ap best e ∙ best_is t v b n h),
      (λ e. one_value (best_message s a m).whole (rw (best_is s u a m g ∙ e ∙ sym (best_is t v b n h)) (best_message t b n).whole)),
    );
    kept = λ {s} {u} {a} m g. subst (λ (l : List ℕ). Message A p l a) (best_is s u a m g) (best_message s a m);
    settled = λ {s} {u} {a} m g. subst (λ (l : List ℕ). Rewritten (rewriting p w) l l) (best_is s u a m g) (record { is = again (best a) a (best_message s a m) });
    shortest = λ {s} {t} {u} {a} m g n. rw (← best_is s u a m g) (f.short a t (way r t a n));
    no_other = λ {s} {t} {u} {a} m g n l. f.only a t (way r t a n) (l ∙ ap length (sym (best_is s u a m g))) ∙ best_is s u a m g;
  }
