-- A text put together piece by piece: what stands written so far, where it ends, and what its writers promise.
-- Assumes nothing.
use mathlib.Core.Path.{◌≡◌, refl, sym, ap, ◌∙◌}
use Prim.Native.Nat.{ℕ, ◌+◌, ◌≤◌, ◌<◌}
use mathlib.Core.List.{List, [], ◌++◌, append_assoc}
use native.Mathlib.Nat.{le_refl}
use native.Mathlib.Omega.{arith}
use borrow.Author.Tests.{lt-leb, le-leb}
use Rattle.std.specs.Prelude.{Result}
use lib.ListN.{length, take, length-append}
use lib.Seq.{length-take-le, take_at}
use Rattle.io.specs.Counts.{IsPrefixLen}
use Rattle.paper.specs.Answer.{Refusal, accepted, over, written}
use Rattle.paper.specs.ReadingProgram.{decimal, ascii, text_of, bad}
use Rattle.wire.specs.Writing.{Wrote, Filled}
use Rattle.wire.specs.declared.refusal.Refusal.{Refusal as Why}
use Rattle.wire.proofs.Over.{over_length, rest, back, filled_none, filled_more, filled_as}
use Rattle.wire.proofs.Writes.{filled}
use Rattle.ascii_text.specs.Text.{Laid, Put, field}

-- ---- a writer's promise
-- bytes written by one leaf, however they are spelt
pub laid_leaf : {bytes text old new : List ℕ} {r : Result ℕ Why} → bytes ≡ text → Wrote (accepted bytes) old r new → Laid text (length bytes) old new
laid_leaf {old = old} e w = record { counted = ap length e; contents = w.contents ∙ ap (λ (s : List ℕ). (written (accepted s) old).contents) e }

-- too little room: nothing changes
pub laid_none : {text old : List ℕ} {n : ℕ} → n ≡ length text → length old < n → Laid text n old old
laid_none {text} {old} e h = record { counted = e; contents = rw (lt-leb (length text) (length old) (omega (arith, e))) }

-- room: the text stands over the front
pub laid-whole : {text old new : List ℕ} {n : ℕ} → n ≡ length text → n ≤ length old → Filled text old new → Laid text n old new
laid-whole {text} {old} e h f = record { counted = e; contents = rw (le-leb (length text) (length old) (omega (arith, e))) (f.given_room (omega (arith, e))) }

-- nothing to be put
pub laid-nothing : {old : List ℕ} → Laid [] 0 old old
laid-nothing {old} = laid-whole refl (omega arith) filled_none

-- ---- a word and a number
pub field-short : (w : List ℕ) (n : ℕ) → length w ≤ 64 → field w n ≡ w ++ decimal n
field-short w n h = rw (le-leb (length w) 64 h)

pub field-long : (w : List ℕ) (n : ℕ) → 64 < length w → field w n ≡ []
field-long w n h = rw (lt-leb (length w) 64 h)

-- how long it is: the word, and k digits, which are the number's
pub field_length : (w : List ℕ) (n : ℕ) {k : ℕ} {s : List ℕ} → length w ≤ 64 → s ≡ decimal n → k ≡ length s → length w + k ≡ length (field w n)
field_length w n {k} h e l = rw (field-short w n h) (omega (arith, l, ap length e, length-append w (decimal n)))

-- ---- pieces
-- what such a writer, and a leaf, put
pub put-laid : {text old new : List ℕ} {n most : ℕ} → Laid text n old new → n ≤ most → Put text n most old new
put-laid {text} {old} l h = (l.counted, h, record { given_room = λ room. l.contents ∙ rw (le-leb (length text) (length old) room) })

pub put_leaf : {bytes old new : List ℕ} {r : Result ℕ Why} → Wrote (accepted bytes) old r new → Put bytes (length bytes) (length bytes) old new
put_leaf w = (refl, le_refl _, filled refl w)

-- one piece more, in the room that begins where the last ended
pub put-more : {p q old xs ys : List ℕ} {at m n k : ℕ} → Put p at m old xs → Put q n k (rest at xs) ys → Put (p ++ q) (at + n) (m + k) old (back at xs ys)
put-more {p} {q} {at = at} (e, l, h) (f, o, g) = (omega (arith, length-append p q), omega arith, filled_more at h g (sym e))

-- the same bytes put together otherwise, and a wider bound
pub put_as : {p q old new : List ℕ} {n m k : ℕ} → Put p n m old new → p ≡ q → m ≤ k → Put q n k old new
put_as (e, l, h) is wide = (e ∙ ap length is, omega arith, filled_as is h)

-- where there is room, they stand over the front of the buffer, and their number counts them there
pub put-over : {bytes old new : List ℕ} {n m : ℕ} → Put bytes n m old new → m ≤ length old → (n ≡ length bytes) × ((new ≡ over bytes old) × IsPrefixLen n new)
put-over {bytes} {old} {new} {n} (e, l, h) room =
    let is = h.given_room (omega arith) in
    let long : n ≤ length new = omega (arith, ap length is, over_length bytes old (omega arith)) in
    (e, (is, (long, sym (length-take-le n new long))))

-- so they are the front of the buffer
pub put_front : {bytes old new : List ℕ} {n m : ℕ} → Put bytes n m old new → m ≤ length old → take n new ≡ bytes
unfolding over
put_front {bytes} {old} {new} {n} p room = let o = put-over p room in ap (take n) o.1.0 ∙ take_at bytes _ n (sym o.0)

-- ---- the line of a refusal
-- seven parts, regrouped
seven : (a b c d e f g : List ℕ) → (((a ++ b) ++ (c ++ d)) ++ (e ++ f)) ++ g ≡ a ++ (b ++ (c ++ (d ++ (e ++ (f ++ g)))))
seven a b c d e f g = simp append_assoc

-- the fields of a refusal are its text
pub bad-is : {r : Refusal} {n a b : ℕ} → n ≡ r.number → a ≡ r.first → b ≡ r.second
    → (((ascii "refused " ++ decimal n) ++ (ascii " " ++ decimal a)) ++ (ascii " " ++ decimal b)) ++ ascii "\n" ≡ text_of (bad r)
unfolding text_of
bad-is {r} e f g = rw (e, f, g) (seven (ascii "refused ") (decimal r.number) (ascii " ") (decimal r.first) (ascii " ") (decimal r.second) (ascii "\n"))
