-- The laws of a text that grows: one piece after the other, one letter and one blank of a form, and where nothing was left out, the bytes stand at
-- the front of the buffer.
-- Assumes nothing.
use Prim.Native.Nat.{ℕ, suc, ◌+◌, ◌≤◌, ◌<◌}
use mathlib.Core.Path.{◌≡◌, refl, sym, ap, ◌∙◌}
use mathlib.Core.Bool.{Bool, true, false}
use mathlib.Core.List.{List, [], ◌∷◌, ◌++◌, append_assoc}
use native.Mathlib.Omega.{arith}
use native.Mathlib.Numerals.{add-one}
use borrow.Author.Tests.{lt-ltb, le-ltb, ne_eqb}
use lib.Dec.{ltb}
use lib.ListN.{length, drop, set, get_or, length-append, length-drop, drop_of_length-le}
use lib.Seq.{drop-cons, set_at, length-take-le}
use Rattle.io.specs.Counts.{IsPrefixLen}
use Rattle.paper.specs.Choice.{pick}
use Rattle.paper.specs.Answer.{over}
use Rattle.paper.specs.ReadingProgram.{decimal}
use Rattle.paper.specs.Form.{filled_in}
use Rattle.form.specs.Text.{Text, text, with, grown, Grew}

-- ---- one piece after the other
grown-more : (p q : List ℕ) (t : Text) → grown (p ++ q) t ≡ grown q (grown p t)
unfolding grown
grown-more [] q t = refl
grown-more (b ∷ others) q t = grown-more others q (with b t)

-- nothing more
pub none : {at : ℕ} {held : List ℕ} → Grew [] 0 at held at held
unfolding grown
none = record { right = refl; bound = omega arith }

-- the next piece
pub more : {p q : List ℕ} {m k at n r : ℕ} {old mid new : List ℕ} → Grew p m at old n mid → Grew q k n mid r new → Grew (p ++ q) (m + k) at old r new
more {p} {q} {at = at} {old = old} f g = record { right = g.right ∙ ap (grown q) f.right ∙ sym (grown-more p q (text at old)); bound = omega (arith, f.bound, g.bound) }

-- what is still to come, over what is there, stays the goal
pub on : {p : List ℕ} (s q : List ℕ) {m n r : ℕ} {held new : List ℕ} {goal : Text} → s ≡ p ++ q → grown s (text n held) ≡ goal → Grew p m n held r new → grown q (text r new) ≡ goal
on {p} s q {n = n} {held = held} is e g = ap (grown q) g.right ∙ sym (grown-more p q (text n held)) ∙ ap (λ (x : List ℕ). grown x (text n held)) (sym is) ∙ e

-- the same bytes put together otherwise, and a wider bound
pub put_as : {p q : List ℕ} {m k at r : ℕ} {old new : List ℕ} → Grew p m at old r new → p ≡ q → m ≤ k → Grew q k at old r new
put_as f e wide = record { right = rw e at f.right; bound = omega (arith, f.bound) }

-- ---- one letter
pub letter_added : {b at : ℕ} {held : List ℕ} → at < length held → Grew (b ∷ []) 1 at held (at + 1) (set held at b)
unfolding grown with
letter_added {b} {at} {held} h = record { right = rw (lt-ltb at (length held) h, add-one); bound = omega arith }

pub letter_left_out : {b at : ℕ} {held : List ℕ} → length held ≤ at → Grew (b ∷ []) 1 at held at held
unfolding grown with
letter_left_out {b} {at} {held} h = record { right = rw (le-ltb at (length held) h); bound = omega arith }

-- one more of some bytes
pub letter_more : (bytes : List ℕ) (i : ℕ) {m n r : ℕ} {held new : List ℕ} {goal : Text} → i < length bytes → grown (drop i bytes) (text n held) ≡ goal
    → Grew (get_or bytes i 0 ∷ []) m n held r new → grown (drop (i + 1) bytes) (text r new) ≡ goal
unfolding grown
letter_more bytes i h e g = rw (add-one, g.right) (rw (drop-cons bytes i 0 h) at e)

-- nothing is
pub all-put : (bytes : List ℕ) (i : ℕ) {n : ℕ} {held : List ℕ} {goal : Text} → length bytes ≤ i → grown (drop i bytes) (text n held) ≡ goal → text n held ≡ goal
unfolding grown
all-put bytes i h e = rw (drop_of_length-le bytes h) at e

-- ---- a form
module _ (form : List ℕ) (i : ℕ) {n : ℕ} {held : List ℕ} {goal : Text} (h : i < length form) where
  -- a blank, filled in with the first of the numbers
  pub number_more : {x r : ℕ} {numbers others left new : List ℕ} → get_or form i 0 ≡ 95 → numbers ≡ x ∷ others → grown (filled_in (drop i form) numbers) (text n held) ≡ goal
      → Grew (decimal x) 20 n held r new → left ≡ others → grown (filled_in (drop (i + 1) form) left) (text r new) ≡ goal
  unfolding filled_in
  number_more {x} {others = others} is some e g after =
      let f = rw (drop-cons form i 0 h, is, some, grown-more (decimal x) (filled_in (drop (suc i) form) others) (text n held)) at e in
      rw (after, add-one i, g.right) f

  -- any other letter
  pub sign_more : (numbers : List ℕ) {new : List ℕ} {m r : ℕ} → (get_or form i 0 ≡ 95 → ⊥) → grown (filled_in (drop i form) numbers) (text n held) ≡ goal
      → Grew (get_or form i 0 ∷ []) m n held r new → grown (filled_in (drop (i + 1) form) numbers) (text r new) ≡ goal
  unfolding filled_in grown
  sign_more numbers other e g = rw (add-one, g.right) (rw (drop-cons form i 0 h, ne_eqb _ _ other) at e)

-- a blank for which no number is left
pub nothing_more : (form : List ℕ) (i : ℕ) (numbers : List ℕ) (t : Text) {goal : Text} → i < length form → get_or form i 0 ≡ 95 → length numbers ≡ 0
    → grown (filled_in (drop i form) numbers) t ≡ goal → grown (filled_in (drop (i + 1) form) numbers) t ≡ goal
unfolding filled_in
nothing_more form i [] t h is none_left e = rw (add-one i) (rw (drop-cons form i 0 h, is) at e)
nothing_more form i (x ∷ others) t h is none_left e = absurd (omega arith)

-- the form is filled in
pub form-put : (form numbers : List ℕ) (i : ℕ) {n : ℕ} {held : List ℕ} {goal : Text} → length form ≤ i → grown (filled_in (drop i form) numbers) (text n held) ≡ goal → text n held ≡ goal
unfolding filled_in grown
form-put form numbers i h e = rw (drop_of_length-le form h) at e

-- ---- no letter was left out
-- a text does not become shorter
longer : (bytes : List ℕ) (t : Text) → t.long ≤ (grown bytes t).long
unfolding grown with
longer [] t = omega arith
longer (b ∷ others) t = one (ltb t.long (length t.held)) (longer others (with b t))
  where
    one : (c : Bool) → (pick c (text (suc t.long) (set t.held t.long b)) t).long ≤ (grown others (with b t)).long → t.long ≤ (grown others (with b t)).long
    one true l = omega arith
    one false l = l

-- a letter where the buffer goes on
stored : (b x : ℕ) (p others : List ℕ) → with b (text (length p) (p ++ (x ∷ others))) ≡ text (length (p ++ (b ∷ []))) ((p ++ (b ∷ [])) ++ others)
unfolding with
stored b x p others =
    let h : length p < length (p ++ (x ∷ others)) = omega (arith, length-append p (x ∷ others)) in
    rw (lt-ltb (length p) (length (p ++ (x ∷ others))) h, set_at p x others b (length p) refl, append_assoc, length-append, add-one)

-- the text ends before the buffer does: the bytes stand where it ended
within : (bytes p others : List ℕ) → (grown bytes (text (length p) (p ++ others))).long < length p + length others
    → grown bytes (text (length p) (p ++ others)) ≡ text (length p + length bytes) (p ++ (bytes ++ drop (length bytes) others))
unfolding grown
within [] p others h = let n : length p + 0 ≡ length p = omega arith in rw n
within (b ∷ bytes) p [] h = absurd (omega (arith, longer (b ∷ bytes) (text (length p) (p ++ []))))
within (b ∷ bytes) p (x ∷ others) h =
    let s = stored b x p others in
    let l = ap (λ (t : Text). (grown bytes t).long) s in
    let n : length (p ++ (b ∷ [])) + length bytes ≡ length p + suc (length bytes) = omega (arith, length-append p (b ∷ [])) in
    ap (grown bytes) s ∙ within bytes (p ++ (b ∷ [])) others (omega (arith, l, length-append p (b ∷ []))) ∙ rw (n, append_assoc)

-- all of it, from the start of the buffer
pub whole : {bytes old new : List ℕ} {most r : ℕ} → Grew bytes most 0 old r new → most < length old → (r ≡ length bytes) × ((new ≡ over bytes old) × IsPrefixLen r new)
unfolding over
whole {bytes} {old} {new} {most} {r} g h =
    let e = g.right ∙ within bytes [] old (omega (arith, ap Text.long g.right, g.bound)) in
    let n : r ≡ length bytes = omega (arith, ap Text.long e) in
    let is : new ≡ bytes ++ drop (length bytes) old = ap Text.held e in
    let l : r ≤ length new = omega (arith, ap length is, length-append bytes (drop (length bytes) old), length-drop (length bytes) old, g.bound) in
    (n, (is, (l, sym (length-take-le r new l))))
