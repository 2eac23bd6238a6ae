-- Document 02, Req 08: the messages of a buffer and their lengths say the same, and what is to hold of a batch holds of everything that answers as the paper does.
-- Assumes nothing.
use mathlib.Core.Path.{◌≡◌, refl, sym, ap, ap₂, ◌∙◌}
use Prim.Native.Nat.{ℕ, zero, suc, ◌+◌, ◌-◌, ◌≤◌, ◌<◌}
use mathlib.Core.Bool.{Bool, true, false}
use mathlib.Core.List.{List, [], ◌∷◌, ◌++◌, map}
use native.Mathlib.Nat.{not-suc-le-zero, le_of_suc-le-suc}
use native.Mathlib.Omega.{arith}
use lib.ListN.{length, get_or, take, drop, length-append, length-drop, take-append-drop, get_or-append}
use lib.Seq.{length-take-le, drop-drop, take-append_seam, drop-append_seam, get_or-append-add, get_or-drop}
use lib.Dec.{leb, eqb}
use borrow.Author.Tests.{leb-true, eqb-true, le-leb, eq-eqb}
use Rattle.paper.specs.Answer.{Refusal, cut, too_many, Answer, accepted, refused, check, over, written}
use Rattle.paper.specs.Tally.{sum}
use Rattle.paper.specs.Batch.{messages, joined, number_of, batch_numbers, read_batch, message_at, EntryForEntry}
use Rattle.paper.proofs.Choice.{never, check_passed}

-- ---- the messages, one by one
pub length_messages : (b ls : List ℕ) → length (messages b ls) ≡ length ls
unfolding messages
length_messages b [] = refl
length_messages b (n ∷ ls) = ap suc (length_messages (drop n b) ls)

-- message k begins where the lengths before it, added up, end
pub message-at : (b ls : List ℕ) (k : ℕ) → k < length ls → get_or (messages b ls) k [] ≡ message_at b ls k
unfolding messages sum
message-at b [] k h = absurd (not-suc-le-zero h)
message-at b (n ∷ ls) zero h = refl
message-at b (n ∷ ls) (suc k) h = message-at (drop n b) ls k (le_of_suc-le-suc h) ∙ ap (take (get_or ls k 0)) (drop-drop (sum (take k ls)) n b)

-- the numbers, one by one
abbrev pub numbers : List ℕ → List ℕ → List ℕ
numbers b ls = map number_of (messages b ls)

length_map {ℓ} : {A B : Type ℓ} (f : A → B) (xs : List A) → length (map f xs) ≡ length xs
length_map f [] = refl
length_map f (x ∷ xs) = ap suc (length_map f xs)

pub length_numbers : (b ls : List ℕ) → length (numbers b ls) ≡ length ls
length_numbers b ls = length_map number_of (messages b ls) ∙ length_messages b ls

-- past the end a list of numbers is 0 and a list of messages empty, so the place has to be one of the list
get_d_map {ℓ} : {A B : Type ℓ} (f : A → B) (xs : List A) (k : ℕ) (a : A) (b : B) → k < length xs → get_or (map f xs) k b ≡ f (get_or xs k a)
get_d_map f [] k a b h = absurd (not-suc-le-zero h)
get_d_map f (x ∷ xs) zero a b h = refl
get_d_map f (x ∷ xs) (suc k) a b h = get_d_map f xs k a b (le_of_suc-le-suc h)

pub number_at : (b ls : List ℕ) (k : ℕ) → k < length ls → get_or (numbers b ls) k 0 ≡ number_of (message_at b ls k)
number_at b ls k h = get_d_map number_of (messages b ls) k [] 0 (omega (arith, length_messages b ls)) ∙ ap number_of (message-at b ls k h)

-- ---- where the lengths add up, the messages joined are the buffer, and their lengths the lengths
none_left : (b : List ℕ) → 0 ≡ length b → [] ≡ b
none_left [] h = refl
none_left (x ∷ b) h = absurd (omega arith)

pub joined-messages : (b ls : List ℕ) → sum ls ≡ length b → joined (messages b ls) ≡ b
unfolding messages joined sum
joined-messages b [] h = none_left b h
joined-messages b (n ∷ ls) h =
    let rest : sum ls ≡ length (drop n b) = omega (arith, length-drop n b) in
    ap (λ (t : List ℕ). take n b ++ t) (joined-messages (drop n b) ls rest) ∙ take-append-drop n b

pub lengths_of : (b ls : List ℕ) → sum ls ≡ length b → map length (messages b ls) ≡ ls
unfolding messages sum
lengths_of b [] h = refl
lengths_of b (n ∷ ls) h =
    let rest : sum ls ≡ length (drop n b) = omega (arith, length-drop n b) in
    ap₂ {C = List ℕ} (λ (m : ℕ) (ms : List ℕ). m ∷ ms) (length-take-le n b (omega arith)) (lengths_of (drop n b) ls rest)

-- ---- and joined messages are found again by their lengths
pub messages-joined : (ms : List (List ℕ)) → messages (joined ms) (map length ms) ≡ ms
unfolding messages joined
messages-joined [] = refl
messages-joined (m ∷ ms) =
    ap₂ {C = List (List ℕ)} (λ (x : List ℕ) (xs : List (List ℕ)). x ∷ xs) (take-append_seam m (joined ms))
    (ap (λ (t : List ℕ). messages t (map length ms)) (drop-append_seam m (joined ms)) ∙ messages-joined ms)

pub lengths_add_up : (ms : List (List ℕ)) → sum (map length ms) ≡ length (joined ms)
unfolding joined sum
lengths_add_up [] = refl
lengths_add_up (m ∷ ms) = omega (arith, lengths_add_up ms, length-append m (joined ms))

-- so whoever joins messages and tells their lengths gets the number of each, in their order
pub joined-read : (ms : List (List ℕ)) → length ms ≤ 4096 → batch_numbers (joined ms) (map length ms) ≡ accepted (map number_of ms)
unfolding batch_numbers
joined-read ms h =
    let few : length (map length ms) ≤ 4096 = omega (arith, length_map length ms) in
    rw (le-leb _ _ few, eq-eqb _ _ (lengths_add_up ms)) (ap (λ (xs : List (List ℕ)). accepted (map number_of xs)) (messages-joined ms))

-- ---- an accepted batch
pub accepted-is : (b ls : List ℕ) {xs : List ℕ} → batch_numbers b ls ≡ accepted xs → (length ls ≤ 4096) × (sum ls ≡ length b) × (xs ≡ numbers b ls)
unfolding batch_numbers
accepted-is b ls e =
    let (few, f) = check_passed (leb (length ls) 4096) too_many (check (eqb (sum ls) (length b)) cut (accepted (numbers b ls))) e in
    let (whole, g) = check_passed (eqb (sum ls) (length b)) cut (accepted (numbers b ls)) f in
    (leb-true _ _ few, eqb-true _ _ whole, cc)

-- what a list of numbers that was written has: room for them, and them over its front
pub wrote_is : (a : Answer (List ℕ)) (old : List ℕ) {n : ℕ} → (written a old).answer ≡ accepted n
    → (xs : List ℕ) × (a ≡ accepted xs) × (n ≡ length xs) × (n ≤ length old) × ((written a old).contents ≡ over xs old)
wrote_is (refused r) old e = absurd (never e)
wrote_is (accepted xs) old {n} e = by (leb (length xs) (length old)) refl
  where
    by : (t : Bool) → leb (length xs) (length old) ≡ t → (ys : List ℕ) × (accepted xs ≡ accepted ys) × (n ≡ length ys) × (n ≤ length old) × ((written (accepted xs) old).contents ≡ over ys old)
    by true p = let same : length xs ≡ n = (let f = rw p at e in cc) in (xs, refl, sym same, omega (arith, leb-true (length xs) (length old) p), rw p)
    by false p = absurd (never (rw p at e))

-- a list that was refused is as it was
pub refused-is : (a : Answer (List ℕ)) (old : List ℕ) {e : Refusal} → (written a old).answer ≡ refused e → (written a old).contents ≡ old
refused-is (refused r) old h = refl
refused-is (accepted xs) old h = by (leb (length xs) (length old)) refl
  where
    by : (t : Bool) → leb (length xs) (length old) ≡ t → (written (accepted xs) old).contents ≡ old
    by true p = absurd (never (sym (rw p at h)))
    by false p = rw p

-- ---- so a batch equals reading its messages one by one, of everything that answers as the paper does
-- what an accepted batch leaves in the list
pub record Read (b ls old : List ℕ) (n : ℕ) (new : List ℕ) : Type 0 where
  pub counted : n ≡ length ls
  pub room : n ≤ length old
  pub is : new ≡ over (numbers b ls) old

pub accepted-read : (b ls old : List ℕ) {n : ℕ} {new : List ℕ} → accepted n ≡ (read_batch b ls old).answer → new ≡ (read_batch b ls old).contents → Read b ls old n new
unfolding read_batch
accepted-read b ls old e f =
    let (xs, a, l, r, c) = wrote_is (batch_numbers b ls) old (sym e) in
    let (_, _, is) = accepted-is b ls a in
    record { counted = l ∙ ap length is ∙ length_numbers b ls; room = r; is = f ∙ c ∙ ap (λ (ys : List ℕ). over ys old) is }

module _ {b ls old : List ℕ} {n : ℕ} {new : List ℕ} (h : Read b ls old n new) where
  as_long : length new ≡ length old
  unfolding over
  as_long = rw (h.is, length-append, length-drop) (omega (arith, length_numbers b ls, h.counted, h.room))

  entry-is : (k : ℕ) → k < n → get_or new k 0 ≡ number_of (message_at b ls k)
  unfolding over
  entry-is k l =
      ap (λ (xs : List ℕ). get_or xs k 0) h.is ∙ get_or-append (numbers b ls) _ 0 k (omega (arith, length_numbers b ls, h.counted))
      ∙ number_at b ls k (omega (arith, h.counted))

  stays : (k : ℕ) → n ≤ k → get_or new k 0 ≡ get_or old k 0
  unfolding over
  stays k l =
      let m = length (numbers b ls) in
      let place : m + (k - m) ≡ k = omega (arith, length_numbers b ls, h.counted) in
      ap₂ (λ (xs : List ℕ) (j : ℕ). get_or xs j 0) h.is (sym place)
      ∙ get_or-append-add (numbers b ls) (drop m old) (k - m) 0 ∙ get_or-drop m old (k - m) 0 ∙ ap (λ (j : ℕ). get_or old j 0) place

pub entry_for_entry : (Answers : (buffer lengths old : List ℕ) → Answer ℕ → List ℕ → Type 0)
    → ((b ls old : List ℕ) (a : Answer ℕ) (new : List ℕ) → Answers b ls old a new → (a ≡ (read_batch b ls old).answer) × (new ≡ (read_batch b ls old).contents)) → EntryForEntry Answers
unfolding read_batch
entry_for_entry Answers right = record {
  count = λ h. let x = read h in (x.counted, omega (arith, x.room, as_long x));
  entry = λ h. entry-is (read h);
  beyond = λ h. stays (read h);
  same_length = λ h. as_long (read h);
  untouched = λ {buffer} {lengths} {old} {new} {e} h. let (a, c) = right buffer lengths old (refused e) new h in c ∙ refused-is (batch_numbers buffer lengths) old (sym a);
}
  where
    read : {b ls old new : List ℕ} {n : ℕ} → Answers b ls old (accepted n) new → Read b ls old n new
    read {b} {ls} {old} {new} {n} h = let (a, c) = right b ls old (accepted n) new h in accepted-read b ls old a c

-- of the paper's own answers first
abbrev pub PaperBatch : (buffer lengths old : List ℕ) → Answer ℕ → List ℕ → Type 0
PaperBatch b ls old a new = (a ≡ (read_batch b ls old).answer) × (new ≡ (read_batch b ls old).contents)

pub paper_entry_for_entry : EntryForEntry PaperBatch
paper_entry_for_entry = entry_for_entry PaperBatch (λ b ls old a new h. h)
