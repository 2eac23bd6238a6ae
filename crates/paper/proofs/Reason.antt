-- Document 02, request 06: the readers refuse exactly as the first failing check says, and that check is the true reason.
-- Assumes nothing.
use mathlib.Core.Path.{◌≡◌, refl, ap, sym, ◌∙◌}
use Prim.Native.Nat.{ℕ, suc, ◌+◌, ◌*◌, ◌-◌, ◌≤◌, ◌<◌}
use mathlib.Core.Bool.{Bool, true, false}
use mathlib.Core.List.{List, [], ◌∷◌, ◌++◌}
use mathlib.Core.Logic.{◌↔◌}
use native.Mathlib.Nat.{le_refl}
use native.Mathlib.Omega.{arith}
use borrow.Author.Tests.{leb-true, leb-false, le-leb, eqb-true, eqb-false}
use lib.Dec.{leb, eqb}
use lib.ListN.{length, get_or, take, drop, length-append, length-drop, replicate, length-replicate}
use lib.Seq.{drop-drop, get_or-take, take-take, take-append-le}
use Rattle.paper.specs.Choice.{pick, either}
use Rattle.paper.specs.Answer.{Refusal, too_short, bad_width, wrong_format, unknown_mode, Answer, accepted, refused, Read, ◌leaving◌, Reader, onward, ◌>>=◌, give, refuse, judge, hand_out}
use Rattle.paper.specs.Bytes.{of_bytes}
use Rattle.paper.specs.Utf8.{valid_up_to, is_utf8}
use Rattle.paper.specs.Kind.{one_of, Kind, mode_of, kinds, known}
use Rattle.paper.specs.Field.{part, byte, number, Headed, headed, counted, name, numbers, good_width, size_group}
use Rattle.paper.specs.Request.{Request, AfterName, format_and_sizes, nothing, format_only, after_name, read_after_name, read_request}
use Rattle.paper.specs.Response.{Response, AfterFormat, nothing as nothingMore, two_sizes, one_size, one_position, AfterMode, ended, block_and_format, after_mode, read_after_format, read_after_mode, read_response}
use Rattle.paper.specs.Reason.{Fault, no_mode, no_name_length, cut_name, no_format, no_width, cut_sizes, no_count, cut_block, cut_position, Check, present, only, Verdict}
use Rattle.paper.specs.Reason.{all_pass, stops, first_failed, AllPass, Stopped, always, number_at, mode_at, name_at, block_at, mode_in, among, any_kind, name_length}
use Rattle.paper.specs.Reason.{name_in, name_end, group_at, width_in, has_format, has_sizes, with_format, with_sizes, request_checks, request_judged, block_count, block_end}
use Rattle.paper.specs.Reason.{last_at, two_byte_width_in, is_two_sizes, is_one_size, is_position, any_last, has_last, with_last, with_block, with_group, with_position}
use Rattle.paper.specs.Reason.{size_count, response_checks, response_judged, TrueReason}
use Rattle.paper.proofs.Choice.{never}
use Rattle.paper.proofs.Places.{on, off, no_byte, one_byte, drop_take}

-- ---- the reader and the checks
-- an answer without what it hands out
abbrev pub bare : {A : Type 0} → Answer (Read A) → Answer (Unit {0})
bare (accepted v) = accepted tt
bare (refused r) = refused r

-- what a verdict answers
abbrev pub told : Verdict → Answer (Unit {0})
told all_pass = accepted tt
told (stops f o r) = refused r

onward-onward : {A B C : Type 0} (o : Answer (Read A)) (f : A → Reader B) (g : B → Reader C) → onward o (λ (a : A) (t : List ℕ). onward (f a t) g) ≡ onward (onward o f) g
onward-onward (accepted (a leaving t)) f g = refl
onward-onward (refused r) f g = refl

-- a test, then the reading goes on or ends
judge-says : {A B : Type 0} (ok : Bool) (r : Refusal) (a : A) (next : A → Reader B) (t : List ℕ) (v : Verdict) (f : Fault) (o : ℕ)
    → told v ≡ bare (next a t) → told (pick ok v (stops f o r)) ≡ bare (onward (judge ok r a t) next)
unfolding give refuse
judge-says true r a next t v f o h = h
judge-says false r a next t v f o h = refl

module _ (s : List ℕ) (at : ℕ) {B : Type 0} (v : Verdict) (f : Fault) (o : ℕ) where
  -- so many bytes
  part_says : (n : ℕ) (next : List ℕ → Reader B) → told v ≡ bare (next (take n (drop at s)) (drop (at + n) s))
      → told (pick (leb n (length s - at)) v (stops f o (too_short n (length s - at)))) ≡ bare (onward (part n (drop at s)) next)
  unfolding part
  part_says n next h = rw (length-drop at s, drop-drop n at s) (go (leb n (length s - at)))
    where
      go : (b : Bool) → told (pick b v (stops f o (too_short n (length s - at))))
          ≡ bare (onward (pick b (accepted (take n (drop at s) leaving drop (at + n) s)) (refused (too_short n (length s - at)))) next)
      go true = h
      go false = refl

  -- one byte
  byte-says : (next : ℕ → Reader B) → told v ≡ bare (next (get_or s at 0) (drop (at + 1) s))
      → told (pick (leb 1 (length s - at)) v (stops f o (too_short 1 (length s - at)))) ≡ bare ((byte >>= next) (drop at s))
  byte-says next h = go (leb 1 (length s - at)) refl
    where
      go : (b : Bool) → leb 1 (length s - at) ≡ b → told (pick b v (stops f o (too_short 1 (length s - at)))) ≡ bare ((byte >>= next) (drop at s))
      go true e = h ∙ ap bare (on byte next (drop at s) (one_byte s at (omega (arith, leb-true 1 (length s - at) e))) refl)
      go false e =
          let end : length s - at ≡ 0 = omega (arith, leb-false 1 (length s - at) e) in
          rw end (ap bare (off byte next (drop at s) (no_byte s at (omega arith))))

-- the checks of a head, and of as many bytes as it says
abbrev headed_verdict : List ℕ → ℕ → Fault → Fault → ℕ → ℕ → (ℕ → ℕ) → Verdict → Verdict
headed_verdict s at f g o k follow v =
    let room : ℕ = length s - at in
    let all : ℕ = k + follow (number_at at k s) in
    pick (leb k room) (pick (leb all room) v (stops g o (too_short all room))) (stops f o (too_short k room))

module _ (s : List ℕ) (at : ℕ) {B : Type 0} (v : Verdict) (f g : Fault) (o : ℕ) where
  -- a head, and as many bytes as it says
  headed-says : (k : ℕ) (follow : ℕ → ℕ) (next : Headed → Reader B) → (let n = number_at at k s in
      told v ≡ bare (next (record { head = n; body = take (follow n) (drop (at + k) s) }) (drop (at + k + follow n) s))
      → told (headed_verdict s at f g o k follow v) ≡ bare (onward (headed k follow (drop at s)) next))
  unfolding headed
  headed-says k follow next h =
      let n : ℕ = number_at at k s in
      let sum : at + (k + follow n) ≡ at + k + follow n = omega arith in
      part_says s at _ f o k _
      (part_says s at v g o (k + follow n) _
      (rw (drop_take k (follow n) (drop at s), drop-drop k at s, sum) h)
      ∙ ap bare (onward-onward (part (k + follow n) (drop at s)) _ next))
      ∙ ap bare (onward-onward (part k (drop at s)) _ next)

  -- a count, and so many bytes
  counted-says : (k : ℕ) (next : List ℕ → Reader B) → (let n = number_at at k s in
      told v ≡ bare (next (take n (drop (at + k) s)) (drop (at + k + n) s))
      → told (headed_verdict s at f g o k (λ (n : ℕ). n) v) ≡ bare ((counted k >>= next) (drop at s)))
  unfolding counted ◌>>=◌ give
  counted-says k next h = headed-says k (λ (n : ℕ). n) _ h ∙ ap bare (onward-onward (headed k (λ (n : ℕ). n) (drop at s)) _ next)

-- the name: its length, its bytes, and what they are
name-says : (s : List ℕ) (at : ℕ) {B : Type 0} (v : Verdict) (f g i : Fault) (o : ℕ) (next : List ℕ → Reader B) → (let n = number_at at 2 s in
    let x = take n (drop (at + 2) s) in
    told v ≡ bare (next x (drop (at + 2 + n) s))
    → told (headed_verdict s at f g o 2 (λ (n : ℕ). n) (pick (is_utf8 x) v (stops i o (wrong_format (valid_up_to x))))) ≡ bare ((name >>= next) (drop at s)))
unfolding name ◌>>=◌
name-says s at v f g i o next h =
    let x : List ℕ = take (number_at at 2 s) (drop (at + 2) s) in
    counted-says s at _ f g o 2 (λ (n t : List ℕ). onward (judge (is_utf8 n) (wrong_format (valid_up_to n)) n t) next)
    (judge-says (is_utf8 x) (wrong_format (valid_up_to x)) x next _ v i o h)
    ∙ ap bare (onward-onward (counted 2 (drop at s)) _ next)

-- the size group: its width, all of it, and what its width is
sizes-says : (s : List ℕ) (at : ℕ) {B : Type 0} (v : Verdict) (f g i : Fault) (o k c : ℕ) (next : List ℕ → Reader B) → (let w = number_at at k s in
    told v ≡ bare (next (numbers c w (take (c * w) (drop (at + k) s))) (drop (at + k + c * w) s))
    → told (headed_verdict s at f g o k (λ (w : ℕ). c * w) (pick (good_width w) v (stops i o (bad_width w)))) ≡ bare ((size_group k c >>= next) (drop at s)))
unfolding size_group ◌>>=◌
sizes-says s at v f g i o k c next h =
    let w : ℕ = number_at at k s in
    headed-says s at _ f g o k (λ (w : ℕ). c * w) _
    (judge-says (good_width w) (bad_width w) _ next _ v i o h)
    ∙ ap bare (onward-onward (headed k (λ (w : ℕ). c * w) (drop at s)) _ next)

-- the mode: it is known or not
pub unknown-is : {A : Type 0} (byte_of : A → ℕ) (unknown : ℕ → Refusal) (b : ℕ) (all : List A) (r : Refusal) → one_of byte_of all unknown b ≡ refused r → unknown b ≡ r
unfolding one_of
unknown-is byte_of unknown b [] r e = cc
unknown-is byte_of unknown b (a ∷ others) r e = go (eqb (byte_of a) b) e (unknown-is byte_of unknown b others r)
  where
    go : (ok : Bool) → pick ok (accepted a) (one_of byte_of others unknown b) ≡ refused r → (one_of byte_of others unknown b ≡ refused r → unknown b ≡ r) → unknown b ≡ r
    go true q ih = absurd (never (sym q))
    go false q ih = ih q

known-says : {B : Type 0} (b : ℕ) (next : Kind → Reader B) (t : List ℕ) (v : Verdict) (f : Fault) (o : ℕ)
    → ((k : Kind) → known b ≡ accepted k → told v ≡ bare (next k t))
    → told (pick (among any_kind (known b)) v (stops f o (unknown_mode b))) ≡ bare ((hand_out (known b) >>= next) t)
unfolding known ◌>>=◌ give refuse
known-says b next t v f o h = go (known b) refl
  where
    go : (a : Answer Kind) → known b ≡ a → told (pick (among any_kind a) v (stops f o (unknown_mode b))) ≡ bare (onward (hand_out a t) next)
    go (accepted k) e = h k e
    go (refused r) e = ap refused (unknown-is mode_of unknown_mode b kinds r e)

-- ---- requests
module _ (s : List ℕ) where
  -- what stands after the name
  after-says : (k : Kind) (n : List ℕ) (h : AfterName) → has_format h ≡ with_format s → has_sizes h ≡ with_sizes s
      → told (first_failed (drop 5 request_checks) s) ≡ bare (read_after_name k n h (drop (name_end s) s))
  unfolding first_failed request_checks give
  after-says k n format_and_sizes p q = rw (← p, ← q) (byte-says s (name_end s) _ _ _ _ (sizes-says s (group_at s) _ _ _ _ _ 1 2 _ refl))
  after-says k n nothing p q = rw (← p, ← q)
  after-says k n format_only p q = rw (← p, ← q) (byte-says s (name_end s) _ _ _ _ refl)

  request-says : told (first_failed request_checks s) ≡ bare (read_request s)
  unfolding first_failed request_checks read_request
  request-says =
      byte-says s 0 _ _ _ _
      (name-says s 1 _ _ _ _ _ _
      (known-says (mode_in s) _ _ _ _ _ (λ k e.
      after-says k (name_in s) (after_name k)
      (sym (ap (among (λ (i : Kind). has_format (after_name i))) e))
      (sym (ap (among (λ (i : Kind). has_sizes (after_name i))) e)))))

-- ---- responses
-- a number in k bytes
number-says : (s : List ℕ) (at : ℕ) {B : Type 0} (v : Verdict) (f : Fault) (o k : ℕ) (next : ℕ → Reader B) → told v ≡ bare (next (number_at at k s) (drop (at + k) s))
    → told (pick (leb k (length s - at)) v (stops f o (too_short k (length s - at)))) ≡ bare ((number k >>= next) (drop at s))
unfolding number ◌>>=◌ give
number-says s at v f o k next h = part_says s at v f o k _ h ∙ ap bare (onward-onward (part k (drop at s)) _ next)

module _ (s : List ℕ) where
  -- what stands after the format byte
  last_says : (k : Kind) (b : List ℕ) (m : ℕ) (h : AfterFormat) → with_last is_two_sizes s ≡ is_two_sizes h → with_last is_one_size s ≡ is_one_size h → with_position s ≡ is_position h
      → told (first_failed (drop 5 response_checks) s) ≡ bare (read_after_format k b m h (drop (last_at s) s))
  unfolding first_failed response_checks give
  last_says k b m nothingMore p q i = rw (p, q, i)
  last_says k b m two_sizes p q i = rw (p, i) (sizes-says s (last_at s) _ _ _ _ _ 2 2 _ refl)
  last_says k b m one_size p q i = rw (p, q, i) (sizes-says s (last_at s) _ _ _ _ _ 2 1 _ refl)
  last_says k b m one_position p q i = rw (p, q, i) (number-says s (last_at s) _ _ _ 8 _ refl)

  -- what stands after the mode
  mode-says : (k : Kind) (h : AfterMode) → ((these : AfterFormat → Bool) → with_last these s ≡ has_last these h)
      → told (first_failed (drop 2 response_checks) s) ≡ bare (read_after_mode k h (drop 1 s))
  unfolding first_failed response_checks give
  mode-says k ended p = rw (p any_last, p is_two_sizes, p is_one_size, p is_position)
  mode-says k (block_and_format h) p =
      rw (p any_last)
      (counted-says s 1 _ _ _ _ 1 _
      (byte-says s (block_end s) _ _ _ _
      (last_says k _ _ h (p is_two_sizes) (p is_one_size) (p is_position))))

  response-says : told (first_failed response_checks s) ≡ bare (read_response s)
  unfolding first_failed response_checks read_response
  response-says =
      byte-says s 0 _ _ _ _
      (known-says (mode_in s) _ _ _ _ _ (λ k e. mode-says k (after_mode k) (λ these. ap (among (λ (i : Kind). has_last these (after_mode i))) e)))

-- what stands after the name, by what is known of the mode
abbrev shape : Answer Kind → AfterName
shape (accepted k) = after_name k
shape (refused r) = nothing

shape_is : (a : Answer Kind) → (among (λ (k : Kind). has_format (after_name k)) a ≡ has_format (shape a)) × (among (λ (k : Kind). has_sizes (after_name k)) a ≡ has_sizes (shape a))
shape_is (accepted k) = (refl, refl)
shape_is (refused r) = (refl, refl)

-- what stands after a response's mode
abbrev layout_of : Answer Kind → AfterMode
layout_of (accepted k) = after_mode k
layout_of (refused r) = ended

layout_is : (these : AfterFormat → Bool) (a : Answer Kind) → among (λ (k : Kind). has_last these (after_mode k)) a ≡ has_last these (layout_of a)
layout_is these (accepted k) = refl
layout_is these (refused r) = refl

-- ---- what t has in common with s: every beginning of s that ends by n
abbrev Alike : List ℕ → List ℕ → ℕ → Type 0
Alike s t n = (m : ℕ) → m ≤ length s → m ≤ n → take m s ≡ take m t

window : (s t : List ℕ) (n at k : ℕ) → Alike s t n → at + k ≤ length s → at + k ≤ n → take k (drop at s) ≡ take k (drop at t)
window s t n at k a h g = sym (drop_take at k s) ∙ ap (drop at) (a (at + k) h g) ∙ drop_take at k t

mode-same : (s t : List ℕ) (n : ℕ) → Alike s t n → 1 ≤ n → 1 ≤ length s → mode_in s ≡ mode_in t
mode-same s t n a g h =
    sym (get_or-take 1 s 0 0 (omega arith)) ∙ ap (λ (l : List ℕ). get_or l 0 0) (a 1 h g) ∙ get_or-take 1 t 0 0 (omega arith)

-- a message that begins as t does
alike_take : (s t : List ℕ) (n : ℕ) → take n s ≡ take n t → Alike s t n
alike_take s t n e m h g = sym (take-take m n s g) ∙ ap (take m) e ∙ take-take m n t g

-- a message with bytes added
alike_append : (s x : List ℕ) (n : ℕ) → Alike s (s ++ x) n
alike_append s x n m h g = sym (take-append-le m s x h)

-- ---- another message t beside s, which stops at field f, offset o, with refusal r
stops-refusal : {f g : Fault} {o p : ℕ} {q r : Refusal} → stops g p q ≡ stops f o r → q ≡ r
stops-refusal e = cc

stops_offset : {f g : Fault} {o p : ℕ} {q r : Refusal} → stops g p q ≡ stops f o r → p ≡ o
stops_offset e = cc

never_stops : {f : Fault} {o : ℕ} {r : Refusal} → all_pass ≡ stops f o r → ⊥
never_stops e = never (sym (ap told e))

-- how many checks pass before the first that fails
unfoldable passed : List Check → List ℕ → ℕ
passed [] s = 0
passed (c ∷ cs) s = pick (c.passes s) (suc (passed cs s)) 0

pub apart : false ≡ true → ⊥
apart e = let z : ◌≡◌ {A = ℕ} 0 1 = ap (λ (b : Bool). pick b 1 0) e in omega arith

-- no check fails exactly if all pass
all_pass_lem : (cs : List Check) (s : List ℕ) → (first_failed cs s ≡ all_pass) ↔ AllPass cs s
unfolding first_failed
all_pass_lem [] s = ((λ e. tt), λ p. refl)
all_pass_lem (c ∷ cs) s = go (c.passes s) refl (all_pass_lem cs s)
  where
    go : (b : Bool) → c.passes s ≡ b → ((first_failed cs s ≡ all_pass) ↔ AllPass cs s)
        → (pick b (first_failed cs s) (stops c.fault (c.begins s) (c.refusal s)) ≡ all_pass) ↔ ((c.passes s ≡ true) × AllPass cs s)
    go true p ih = ((λ e. (p, ih.0 e)), λ a. ih.1 a.1)
    go false p ih = ((λ e. absurd (never_stops (sym e))), λ a. absurd (apart (sym p ∙ a.0)))

-- the check at which s stops
stopped : (cs : List Check) (s : List ℕ) (f : Fault) (o : ℕ) (r : Refusal) → first_failed cs s ≡ stops f o r → Stopped cs s f o r
unfolding first_failed
stopped [] s f o r e = absurd (never_stops e)
stopped (c ∷ cs) s f o r e = go (c.passes s) refl e (stopped cs s f o r)
  where
    go : (b : Bool) → c.passes s ≡ b → pick b (first_failed cs s) (stops c.fault (c.begins s) (c.refusal s)) ≡ stops f o r
        → (first_failed cs s ≡ stops f o r → Stopped cs s f o r) → Stopped (c ∷ cs) s f o r
    go true p q ih =
        let k : Stopped cs s f o r = ih q in
        record { earlier = c ∷ k.earlier; this = k.this; later = k.later; split = ap (λ (l : List Check). c ∷ l) k.split; pass = (p, k.pass); fails = k.fails; names = k.names }
    go false p q ih = record { earlier = []; this = c; later = cs; split = refl; pass = tt; fails = p; names = q }

-- as many pass as stand before it, and no other check is the first
stopped-first : (earlier : List Check) (this : Check) (later : List Check) (s : List ℕ) → AllPass earlier s → this.passes s ≡ false
    → (passed (earlier ++ (this ∷ later)) s ≡ length earlier) × (first_failed (earlier ++ (this ∷ later)) s ≡ stops this.fault (this.begins s) (this.refusal s))
unfolding first_failed passed
stopped-first [] this later s a b = (rw b, rw b)
stopped-first (c ∷ cs) this later s a b = let (k, l) = stopped-first cs this later s a.1 b in (rw a.0 (ap suc k), rw a.0 l)

-- where more than these pass, all of these pass and the next one does
passed_past : (earlier : List Check) (this : Check) (later : List Check) (t : List ℕ) → length earlier < passed (earlier ++ (this ∷ later)) t → AllPass earlier t × (this.passes t ≡ true)
unfolding passed
passed_past [] this later t = go (this.passes t) refl
  where
    go : (b : Bool) → this.passes t ≡ b → 0 < pick b (suc (passed later t)) 0 → Unit {0} × (this.passes t ≡ true)
    go true p h = (tt, p)
    go false p h = absurd (omega arith)
passed_past (c ∷ cs) this later t = go (c.passes t) refl (passed_past cs this later t)
  where
    go : (b : Bool) → c.passes t ≡ b → (length cs < passed (cs ++ (this ∷ later)) t → AllPass cs t × (this.passes t ≡ true))
        → suc (length cs) < pick b (suc (passed (cs ++ (this ∷ later)) t)) 0 → ((c.passes t ≡ true) × AllPass cs t) × (this.passes t ≡ true)
    go true p ih h = let (k, l) = ih (omega arith) in ((p, k), l)
    go false p ih h = absurd (omega arith)

module _ (s t : List ℕ) (longer : length s ≤ length t) (f : Fault) (o : ℕ) (r : Refusal)
    (enough : r.number ≡ 1 → length s + (r.first - r.second) ≤ length t) where
  -- t stops there too, and what was judged ends within s; or, where bytes were missing and t has as many more, it passes the check at which s stops, and those before it
  record Carried (end : ℕ) (cs : List Check) : Type 0 where
    same : (r.number ≡ 1 → ⊥) → first_failed cs t ≡ stops f o r
    past : r.number ≡ 1 → passed cs s < passed cs t
    within : (r.number ≡ 1 → ⊥) → end ≤ length s
    rest : r.number ≡ 1 → o + r.second ≡ length s

  abbrev Goes : ℕ → List Check → Type 0
  Goes end cs = first_failed cs s ≡ stops f o r → Carried end cs

  goes_none : {end : ℕ} → Goes end []
  unfolding first_failed
  goes_none e = absurd (never_stops e)

  -- both pass
  goes_on_lem : {end : ℕ} → (c : Check) (cs : List Check) → c.passes s ≡ true → c.passes t ≡ true → Goes end cs → Goes end (c ∷ cs)
  unfolding first_failed passed
  goes_on_lem {end} c cs p q g e =
      let k : Carried end cs = g (rw p at e) in
      record { same = λ n. rw q (k.same n); past = λ n. rw (p, q) (omega (arith, k.past n)); within = k.within; rest = k.rest }

  goes_present : {end : ℕ} → (g : Fault) (begin needed : List ℕ → ℕ) (cs : List Check) → begin s ≡ begin t → needed s ≡ needed t → begin s ≤ length s
      → (needed s ≤ length s - begin s → Goes end cs) → Goes end (present g begin needed ∷ cs)
  unfolding first_failed passed
  goes_present {end} g begin needed cs ea en inside h = go (leb (needed s) (length s - begin s)) refl
    where
      go : (b : Bool) → leb (needed s) (length s - begin s) ≡ b → Goes end (present g begin needed ∷ cs)
      go true p e =
          let there : needed s ≤ length s - begin s = leb-true (needed s) (length s - begin s) p in
          goes_on_lem (present g begin needed) cs p (le-leb (needed t) (length t - begin t) (omega arith)) (h there) e
      go false p e =
          let is : too_short (needed s) (length s - begin s) ≡ r = stops-refusal (rw p at e) in
          let short : length s - begin s < needed s = leb-false (needed s) (length s - begin s) p in
          let one : r.number ≡ 1 = ap (λ (q : Refusal). q.number) (sym is) in
          let first : r.first ≡ needed s = ap (λ (q : Refusal). q.first) (sym is) in
          let second : r.second ≡ length s - begin s = ap (λ (q : Refusal). q.second) (sym is) in
          let offset : begin s ≡ o = stops_offset (rw p at e) in
          let now : needed t ≤ length t - begin t = omega (arith, enough one) in
          record { same = λ n. absurd (n one); past = λ n. rw (p, le-leb (needed t) (length t - begin t) now) (omega arith); within = λ n. absurd (n one); rest = λ n. omega arith }

  goes_judged : {end : ℕ} → (c : Check) (cs : List Check) → c.passes s ≡ c.passes t → c.begins s ≡ c.begins t → c.refusal s ≡ c.refusal t
      → ((c.refusal s).number ≡ 1 → ⊥) → (c.refusal s ≡ r → end ≤ length s) → (c.passes s ≡ true → Goes end cs) → Goes end (c ∷ cs)
  unfolding first_failed passed
  goes_judged {end} c cs ep eb er other inside h = go (c.passes s) refl
    where
      go : (b : Bool) → c.passes s ≡ b → Goes end (c ∷ cs)
      go true p e = goes_on_lem c cs p (sym ep ∙ p) (h p) e
      go false p e =
          let is : stops c.fault (c.begins s) (c.refusal s) ≡ stops f o r = rw p at e in
          record {
            same = λ n. rw (← ep, p, ← eb, ← er) is;
            within = λ n. inside (stops-refusal is);
            past = λ n. absurd (other (ap (λ (q : Refusal). q.number) (stops-refusal is) ∙ n));
            rest = λ n. absurd (other (ap (λ (q : Refusal). q.number) (stops-refusal is) ∙ n));
          }

  -- a check that is for some kinds only
  goes_has : {end : ℕ} → (has : List ℕ → Bool) (c : Check) (cs : List Check) → has s ≡ true → has t ≡ true → Goes end (c ∷ cs) → Goes end (only has c ∷ cs)
  unfolding first_failed passed
  goes_has {end} has c cs p q g e =
      let k : Carried end (c ∷ cs) = g (rw p at e) in
      record { same = λ n. rw q (k.same n); past = λ n. rw (p, q) (k.past n); within = k.within; rest = k.rest }

  goes_lacks : {end : ℕ} → (has : List ℕ → Bool) (c : Check) (cs : List Check) → has s ≡ false → has t ≡ false → Goes end cs → Goes end (only has c ∷ cs)
  unfolding first_failed passed
  goes_lacks {end} has c cs p q g e =
      let k : Carried end cs = g (rw p at e) in
      record { same = λ n. rw q (k.same n); past = λ n. rw (p, q) (omega (arith, k.past n)); within = k.within; rest = k.rest }

  -- checks that give another refusal
  other_none : first_failed [] s ≡ stops f o r → ⊥
  unfolding first_failed
  other_none e = never_stops e

  goes_other : (c : Check) (cs : List Check) → ((c.refusal s).number ≡ r.number → ⊥) → (first_failed cs s ≡ stops f o r → ⊥) → first_failed (c ∷ cs) s ≡ stops f o r → ⊥
  unfolding first_failed
  goes_other c cs other h = go (c.passes s)
    where
      go : (b : Bool) → pick b (first_failed cs s) (stops c.fault (c.begins s) (c.refusal s)) ≡ stops f o r → ⊥
      go true e = h e
      go false e = other (ap (λ (q : Refusal). q.number) (stops-refusal e))

  -- by the refusal's number
  by_number : {end : ℕ} {G : Type 0} (cs : List Check) → ((r.number ≡ 1 → ⊥) → (r.number ≡ 6 → ⊥) → first_failed cs s ≡ stops f o r → ⊥)
      → (r.number ≡ 1 → G) → (r.number ≡ 6 → G) → (G → Goes end cs) → Goes end cs
  by_number {end} {G} cs other g₁ g₆ h = go (eqb r.number 1) refl (eqb r.number 6) refl
    where
      go : (b : Bool) → eqb r.number 1 ≡ b → (c : Bool) → eqb r.number 6 ≡ c → Goes end cs
      go true p c q = h (g₁ (eqb-true r.number 1 p))
      go false p true q = h (g₆ (eqb-true r.number 6 q))
      go false p false q = λ e. absurd (other (eqb-false r.number 1 p) (eqb-false r.number 6 q) e)

  -- ---- a request beside a request
  request-front : Alike s t (name_end s) → (name_end s ≤ length s → mode_in s ≡ mode_in t → name_end s ≡ name_end t → Goes (request_judged r s) (drop 5 request_checks)) → Goes (request_judged r s) request_checks
  unfolding request_checks
  request-front a next =
      goes_present no_mode mode_at (always 1) _ refl refl (omega arith) (λ h₁.
      let em : mode_in s ≡ mode_in t = mode-same s t (name_end s) a (omega arith) (omega arith) in
      goes_present no_name_length name_at (always 2) _ refl refl (omega arith) (λ h₂.
      let en : name_length s ≡ name_length t = ap of_bytes (window s t (name_end s) 1 2 a (omega arith) (omega arith)) in
      goes_present cut_name name_at (λ (u : List ℕ). 2 + name_length u) _ refl (ap (λ (n : ℕ). 2 + n) en) (omega arith) (λ h₃.
      let ex : name_in s ≡ name_in t = window s t (name_end s) 3 (name_length s) a (omega arith) (omega arith) ∙ ap (λ (n : ℕ). take n (drop 3 t)) en in
      goes_judged _ _ (ap is_utf8 ex) refl (ap (λ (n : List ℕ). wrong_format (valid_up_to n)) ex) (λ e. omega arith) (λ e. rw (← e) (omega arith)) (λ h₄.
      goes_judged _ _ (ap (λ (b : ℕ). among any_kind (known b)) em) refl (ap unknown_mode em) (λ e. omega arith) (λ e. rw (← e) (omega arith)) (λ h₅.
      next (omega arith) em (ap (λ (n : ℕ). 3 + n) en))))))

  request-tail : Alike s t (group_at s + 1) → name_end s ≤ length s → name_end s ≡ name_end t → (h : AfterName)
      → with_format s ≡ has_format h → with_format t ≡ has_format h → with_sizes s ≡ has_sizes h → with_sizes t ≡ has_sizes h → Goes (request_judged r s) (drop 5 request_checks)
  unfolding request_checks
  request-tail a inside ee format_and_sizes p p' q q' =
      goes_has with_format _ _ p p' (goes_present no_format name_end (always 1) _ ee refl inside (λ h₆.
      let eg : group_at s ≡ group_at t = ap (λ (n : ℕ). n + 1) ee in
      goes_has with_sizes _ _ q q' (goes_present no_width group_at (always 1) _ eg refl (omega arith) (λ h₇.
      let ew : width_in s ≡ width_in t = ap of_bytes (window s t (group_at s + 1) (group_at s) 1 a (omega arith) (omega arith) ∙ ap (λ (n : ℕ). take 1 (drop n t)) eg) in
      goes_has with_sizes _ _ q q' (goes_present cut_sizes group_at (λ (u : List ℕ). 1 + 2 * width_in u) _ eg (ap (λ (w : ℕ). 1 + 2 * w) ew) (omega arith) (λ h₈.
      goes_has with_sizes _ _ q q' (goes_judged _ _ (ap good_width ew) eg (ap bad_width ew) (λ e. omega arith) (λ e. rw (← e) (omega arith)) (λ h₉. goes_none))))))))
  request-tail a inside ee nothing p p' q q' =
      goes_lacks with_format _ _ p p' (goes_lacks with_sizes _ _ q q' (goes_lacks with_sizes _ _ q q' (goes_lacks with_sizes _ _ q q' goes_none)))
  request-tail a inside ee format_only p p' q q' =
      goes_has with_format _ _ p p' (goes_present no_format name_end (always 1) _ ee refl inside (λ h₆.
      goes_lacks with_sizes _ _ q q' (goes_lacks with_sizes _ _ q q' (goes_lacks with_sizes _ _ q q' goes_none))))

  -- what stands after the name gives no refusal but 1 and 6
  request_tail_other : (r.number ≡ 1 → ⊥) → (r.number ≡ 6 → ⊥) → first_failed (drop 5 request_checks) s ≡ stops f o r → ⊥
  unfolding request_checks
  request_tail_other n₁ n₆ =
      goes_other _ _ (λ e. n₁ (sym e)) (goes_other _ _ (λ e. n₁ (sym e)) (goes_other _ _ (λ e. n₁ (sym e)) (goes_other _ _ (λ e. n₆ (sym e)) other_none)))

  -- t agrees with s as far as the refusal asks
  request_goes : Alike s t (name_end s) → (r.number ≡ 1 → Alike s t (group_at s + 1)) → (r.number ≡ 6 → Alike s t (group_at s + 1)) → Goes (request_judged r s) request_checks
  request_goes a far₁ far₆ = request-front a (λ inside em ee. by_number (drop 5 request_checks) request_tail_other far₁ far₆ (λ b.
      let ef : with_format s ≡ with_format t = ap (λ (m : ℕ). among (λ (k : Kind). has_format (after_name k)) (known m)) em in
      let es : with_sizes s ≡ with_sizes t = ap (λ (m : ℕ). among (λ (k : Kind). has_sizes (after_name k)) (known m)) em in
      let (p, q) = shape_is (known (mode_in s)) in
      request-tail b inside ee (shape (known (mode_in s))) p (sym ef ∙ p) q (sym es ∙ q)))

  -- ---- a response beside a response
  response-front : Alike s t 1 → (1 ≤ length s → mode_in s ≡ mode_in t → Goes (response_judged r s) (drop 2 response_checks)) → Goes (response_judged r s) response_checks
  unfolding response_checks
  response-front a next =
      goes_present no_mode mode_at (always 1) _ refl refl (omega arith) (λ h₁.
      let em : mode_in s ≡ mode_in t = mode-same s t 1 a (omega arith) (omega arith) in
      goes_judged _ _ (ap (λ (b : ℕ). among any_kind (known b)) em) refl (ap unknown_mode em) (λ e. omega arith) (λ e. rw (← e) (omega arith)) (λ h₂. next (omega arith) em))

  -- the size group, with nothing after it
  response_group : Alike s t (last_at s + 2) → last_at s ≤ length s → last_at s ≡ last_at t → size_count s ≡ size_count t
      → with_group s ≡ true → with_group t ≡ true → with_position s ≡ false → with_position t ≡ false → Goes (response_judged r s) (drop 5 response_checks)
  unfolding response_checks
  response_group a inside el ec p p' q q' =
      goes_has with_group _ _ p p' (goes_present no_width last_at (always 2) _ el refl inside (λ h₆.
      let ew : two_byte_width_in s ≡ two_byte_width_in t = ap of_bytes (window s t (last_at s + 2) (last_at s) 2 a (omega arith) (omega arith) ∙ ap (λ (n : ℕ). take 2 (drop n t)) el) in
      goes_has with_group _ _ p p' (goes_present cut_sizes last_at (λ (u : List ℕ). 2 + size_count u * two_byte_width_in u) _ el (rw (ec, ew)) inside (λ h₇.
      goes_has with_group _ _ p p' (goes_judged _ _ (ap good_width ew) el (ap bad_width ew) (λ e. omega arith) (λ e. rw (← e) (omega arith)) (λ h₈.
      goes_lacks with_position _ _ q q' goes_none))))))

  response_last : Alike s t (last_at s + 2) → last_at s ≤ length s → last_at s ≡ last_at t → size_count s ≡ size_count t → (h : AfterFormat)
      → with_group s ≡ either (is_two_sizes h) (is_one_size h) → with_group t ≡ either (is_two_sizes h) (is_one_size h) → with_position s ≡ is_position h → with_position t ≡ is_position h
      → Goes (response_judged r s) (drop 5 response_checks)
  unfolding response_checks
  response_last a inside el ec nothingMore p p' q q' =
      goes_lacks with_group _ _ p p' (goes_lacks with_group _ _ p p' (goes_lacks with_group _ _ p p' (goes_lacks with_position _ _ q q' goes_none)))
  response_last a inside el ec two_sizes p p' q q' = response_group a inside el ec p p' q q'
  response_last a inside el ec one_size p p' q q' = response_group a inside el ec p p' q q'
  response_last a inside el ec one_position p p' q q' =
      goes_lacks with_group _ _ p p' (goes_lacks with_group _ _ p p' (goes_lacks with_group _ _ p p'
      (goes_has with_position _ _ q q' (goes_present cut_position last_at (always 8) _ el refl inside (λ h₉. goes_none)))))

  response-tail : Alike s t (last_at s + 2) → 1 ≤ length s → size_count s ≡ size_count t → (h : AfterMode)
      → ((these : AfterFormat → Bool) → with_last these s ≡ has_last these h) → ((these : AfterFormat → Bool) → with_last these t ≡ has_last these h)
      → Goes (response_judged r s) (drop 2 response_checks)
  unfolding response_checks
  response-tail a inside ec ended p p' =
      let b : with_block s ≡ false = p any_last in
      let b' : with_block t ≡ false = p' any_last in
      let g : with_group s ≡ false = rw (p is_two_sizes, p is_one_size) in
      let g' : with_group t ≡ false = rw (p' is_two_sizes, p' is_one_size) in
      goes_lacks with_block _ _ b b' (goes_lacks with_block _ _ b b' (goes_lacks with_block _ _ b b'
      (goes_lacks with_group _ _ g g' (goes_lacks with_group _ _ g g' (goes_lacks with_group _ _ g g' (goes_lacks with_position _ _ (p is_position) (p' is_position) goes_none))))))
  response-tail a inside ec (block_and_format h) p p' =
      let b : with_block s ≡ true = p any_last in
      let b' : with_block t ≡ true = p' any_last in
      goes_has with_block _ _ b b' (goes_present no_count block_at (always 1) _ refl refl inside (λ h₃.
      let en : block_count s ≡ block_count t = ap of_bytes (window s t (last_at s + 2) 1 1 a (omega arith) (omega arith)) in
      goes_has with_block _ _ b b' (goes_present cut_block block_at (λ (u : List ℕ). 1 + block_count u) _ refl (ap (λ (n : ℕ). 1 + n) en) inside (λ h₄.
      goes_has with_block _ _ b b' (goes_present no_format block_end (always 1) _ (ap (λ (n : ℕ). 2 + n) en) refl (omega arith) (λ h₅.
      response_last a (omega arith) (ap (λ (n : ℕ). 2 + n + 1) en) ec h (rw (p is_two_sizes, p is_one_size)) (rw (p' is_two_sizes, p' is_one_size)) (p is_position) (p' is_position)))))))

  -- what stands after the mode gives no refusal but 1 and 6
  response_tail_other : (r.number ≡ 1 → ⊥) → (r.number ≡ 6 → ⊥) → first_failed (drop 2 response_checks) s ≡ stops f o r → ⊥
  unfolding response_checks
  response_tail_other n₁ n₆ =
      let one : 1 ≡ r.number → ⊥ = λ e. n₁ (sym e) in
      goes_other _ _ one (goes_other _ _ one (goes_other _ _ one (goes_other _ _ one (goes_other _ _ one
      (goes_other _ _ (λ e. n₆ (sym e)) (goes_other _ _ one other_none))))))

  response_goes : Alike s t 1 → (r.number ≡ 1 → Alike s t (last_at s + 2)) → (r.number ≡ 6 → Alike s t (last_at s + 2)) → Goes (response_judged r s) response_checks
  response_goes a far₁ far₆ = response-front a (λ inside em. by_number (drop 2 response_checks) response_tail_other far₁ far₆ (λ b.
      let e : (these : AfterFormat → Bool) → with_last these s ≡ with_last these t =
      λ these. ap (λ (m : ℕ). among (λ (k : Kind). has_last these (after_mode k)) (known m)) em in
      let p : (these : AfterFormat → Bool) → with_last these s ≡ has_last these (layout_of (known (mode_in s))) = λ these. layout_is these (known (mode_in s)) in
      response-tail b inside (ap (λ (b : Bool). pick b 2 1) (e is_two_sizes)) (layout_of (known (mode_in s))) p (λ these. sym (e these) ∙ p these)))

-- ---- the claim
-- a reader that tells what its checks tell
module _ {A : Type 0} (read : Reader A) (checks : List Check) (says : (s : List ℕ) → told (first_failed checks s) ≡ bare (read s)) where
  refuses : (s : List ℕ) (r : Refusal) → (read s ≡ refused r) ↔ ((f : Fault) × (o : ℕ) × (first_failed checks s ≡ stops f o r))
  refuses s r = ((λ e. there (first_failed checks s) refl (says s ∙ ap bare e)), λ e. back (read s) refl (sym (says s) ∙ ap told e.2))
    where
      there : (v : Verdict) → first_failed checks s ≡ v → told v ≡ refused r → (f : Fault) × (o : ℕ) × (first_failed checks s ≡ stops f o r)
      there all_pass q e = absurd (never (sym e))
      there (stops f o i) q e = (f, o, q ∙ ap (stops f o) (cc))

      back : (a : Answer (Read A)) → read s ≡ a → bare a ≡ refused r → read s ≡ refused r
      back (accepted v) q e = absurd (never (sym e))
      back (refused i) q e = q ∙ ap refused (cc)

  accepts : (s : List ℕ) → ((a : A) × (t : List ℕ) × (read s ≡ accepted (a leaving t))) ↔ (first_failed checks s ≡ all_pass)
  accepts s = ((λ e. there (first_failed checks s) refl (says s ∙ ap bare e.2)), λ e. back (read s) refl (sym (says s) ∙ ap told e))
    where
      there : (v : Verdict) → first_failed checks s ≡ v → told v ≡ accepted tt → first_failed checks s ≡ all_pass
      there all_pass q e = q
      there (stops f o i) q e = absurd (never e)

      back : (a : Answer (Read A)) → read s ≡ a → bare a ≡ accepted tt → (a : A) × (t : List ℕ) × (read s ≡ accepted (a leaving t))
      back (accepted (a leaving t)) q e = (a, t, q)
      back (refused i) q e = absurd (never e)

  -- and whose checks go together for messages that agree up to near, or up to far for refusals 1 and 6
  module _ (near far : List ℕ → ℕ) (ordered : (s : List ℕ) → near s ≤ far s)
      (goes : (s t : List ℕ) (l : length s ≤ length t) (f : Fault) (o : ℕ) (r : Refusal) (h : r.number ≡ 1 → length s + (r.first - r.second) ≤ length t)
      → Alike s t (near s) → (r.number ≡ 1 → Alike s t (far s)) → (r.number ≡ 6 → Alike s t (far s)) → Goes s t l f o r h (pick (eqb r.number 6) (far s) (near s)) checks) where
    lasting : (s t : List ℕ) (f : Fault) (o : ℕ) (r : Refusal) (n : r.number ≡ 1 → ⊥) (l : length s ≤ length t) (b : Bool) → eqb r.number 6 ≡ b
        → take (pick b (far s) (near s)) s ≡ take (pick b (far s) (near s)) t → Goes s t l f o r (λ m. absurd (n m)) (pick (eqb r.number 6) (far s) (near s)) checks
    lasting s t f o r n l true q a =
        let long = alike_take s t (far s) a in
        goes s t l f o r (λ m. absurd (n m)) (λ m h g. long m h (omega (arith, ordered s))) (λ m. absurd (n m)) (λ m. long)
    lasting s t f o r n l false q a =
        goes s t l f o r (λ m. absurd (n m)) (alike_take s t (near s) a) (λ m. absurd (n m)) (λ m. absurd (eqb-false r.number 6 q m))

    -- with the missing bytes added, more checks pass
    past : (s x : List ℕ) (f : Fault) (o : ℕ) (r : Refusal) → r.number ≡ 1 → length x ≡ r.first - r.second → first_failed checks s ≡ stops f o r
        → passed checks s < passed checks (s ++ x)
    past s x f o r n l e =
        let long : length (s ++ x) ≡ length s + length x = length-append s x in
        (goes s (s ++ x) (omega arith) f o r (λ m. omega arith) (alike_append s x _) (λ m. alike_append s x _) (λ m. alike_append s x _) e).past n

    true_reason : TrueReason A read checks (λ (r : Refusal) (s : List ℕ). pick (eqb r.number 6) (far s) (near s))
    true_reason = record {
      refuses = refuses;
      accepts = accepts;
      passes = all_pass_lem checks;
      lasts = λ s t f o r e n l a. (lasting s t f o r n l (eqb r.number 6) refl a e).same n;
      within = λ s f o r e n. (goes s s (le_refl _) f o r (λ m. absurd (n m)) (λ m h g. refl) (λ m. absurd (n m)) (λ m k h g. refl) e).within n;
      reason = stopped checks;
      rest = λ s f o r e n.
          let x : List ℕ = replicate (r.first - r.second) 0 in
          let long : length (s ++ x) ≡ length s + length x = length-append s x in
          let many : length x ≡ r.first - r.second = length-replicate (r.first - r.second) 0 in
          (goes s (s ++ x) (omega arith) f o r (λ m. omega arith) (alike_append s x _) (λ m. alike_append s x _) (λ m. alike_append s x _) e).rest n;
      filled = λ s x f o r b n l.
          let (count, first) = stopped-first b.earlier b.this b.later s b.pass b.fails in
          passed_past b.earlier b.this b.later (s ++ x) (rw (← count, ← b.split) (past s x f o r n l (rw b.split (first ∙ b.names))));
      further = λ s x f g o p r q b n l d.
          let (count, first) = stopped-first b.earlier b.this b.later s b.pass b.fails in
          let (later, second) = stopped-first d.earlier d.this d.later (s ++ x) d.pass d.fails in
          rw (← count, ← later, ← b.split, ← d.split) (past s x f o r n l (rw b.split (first ∙ b.names)));
    }

pub request-reason : TrueReason Request read_request request_checks request_judged
request-reason = true_reason read_request request_checks request-says name_end (λ (s : List ℕ). group_at s + 1) (λ s. omega arith) request_goes

pub response-reason : TrueReason Response read_response response_checks response_judged
response-reason = true_reason read_response response_checks response-says (always 1) (λ (s : List ℕ). last_at s + 2) (λ s. omega arith) response_goes

-- in the reader's words: refusals 2, 3 and 6 are given to each message that is no shorter and agrees as far as was judged
pub same-refusal : {A : Type 0} {read : Reader A} {checks : List Check} {end : Refusal → List ℕ → ℕ} → TrueReason A read checks end
    → (s t : List ℕ) (r : Refusal) → read s ≡ refused r → (r.number ≡ 1 → ⊥) → length s ≤ length t → take (end r s) s ≡ take (end r s) t → read t ≡ refused r
same-refusal k s t r e n l a = let (f, o, v) = (k.refuses s r).0 e in (k.refuses t r).1 (f, o, k.lasts s t f o r v n l a)
