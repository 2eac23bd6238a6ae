-- The checks of a message, field by field: those of one field fail exactly as its reader refuses, and the refusal tells which of them.
-- Assumes nothing.
use mathlib.Core.Path.{◌≡◌, refl, ap, sym, subst, ◌∙◌}
use Prim.Native.Nat.{ℕ, ◌+◌, ◌*◌, ◌-◌, ◌≤◌, ◌<◌}
use mathlib.Core.Bool.{Bool, true, false}
use mathlib.Core.List.{List, [], ◌∷◌}
use native.Mathlib.Nat.{ne_of_lt}
use native.Mathlib.Omega.{arith}
use borrow.Author.Tests.{leb-true, leb-false, lt-leb, ne_eqb}
use lib.Dec.{leb, eqb}
use lib.ListN.{length, take, drop, length-drop}
use lib.Seq.{length-take-le}
use Rattle.paper.specs.Choice.{pick, both}
use Rattle.paper.specs.Answer.{◌>>=◌, Reader, Refusal, too_short, wrong_format, unknown_mode, bad_width, Answer, accepted, refused, Read, ◌leaving◌, onward, give, refuse, judge}
use Rattle.paper.specs.Utf8.{valid_up_to, is_utf8}
use Rattle.paper.specs.Kind.{Kind, mode_of, kinds, known}
use Rattle.paper.specs.Field.{byte, number, counted, name, block_length, size_group}
use Rattle.paper.specs.Request.{AfterName, format_and_sizes, nothing, format_only, after_name}
use Rattle.paper.specs.Response.{AfterFormat, nothing as nothingMore, two_sizes, one_size, one_position, AfterMode, ended, block_and_format, after_mode}
use Rattle.paper.specs.Reason.{Fault, no_mode, no_name_length, cut_name, not_utf8, no_such_mode, no_format, no_width, cut_sizes, wrong_width, no_count, cut_block}
use Rattle.paper.specs.Reason.{cut_position, Verdict, all_pass, stops, first_failed, number_at, mode_in, among, any_kind, name_end, block_end, has_format}
use Rattle.paper.specs.Reason.{has_sizes, with_format, with_sizes, request_checks, last_at, is_two_sizes, is_one_size, is_position, any_last, has_last, with_last}
use Rattle.paper.specs.Reason.{with_position, response_checks}
use Rattle.paper.proofs.Choice.{never}
use Rattle.paper.proofs.Reason.{unknown-is}
use Rattle.paper.proofs.Places.{on, off, pass, fail, no_byte, one_byte, number_short, number_there, counted-short, counted-cut, counted_there, group_short}
use Rattle.paper.proofs.Places.{group_cut, group_narrow, group_wide, group_good}
use Rattle.std.specs.Prelude.{Result, Ok, Err, MatchResult}
use Rattle.wire.specs.Reading.{Seen, Right}
use Rattle.wire.specs.Number.{ByteRight}
use Rattle.wire.specs.Place.{CountedRight}
use Rattle.wire.specs.declared.place.Place.{Place}
use Rattle.request_file_transfer.specs.Name.{NameRight}
use Rattle.wire.specs.declared.refusal.Refusal as code
use Rattle.reason.specs.declared.reason.Reason.{Reason}
use Rattle.reason.specs.Step.{always, name_fault, block_fault, sizes_fault, after, why_after_name, why_after_format, why_after_mode, why_kind, why_request, why_response}

-- ---- one field after the other, with what is read on the right, as a contract has it
module _ {A : Type 0} {o : Answer (Read A)} (fault : Refusal → Fault) (at : ℕ) (rest : Verdict) where
  -- the field is accepted: the rest decides
  pub step_on : {x : Read A} {v : Verdict} → accepted x ≡ o → v ≡ rest → v ≡ after o fault at rest
  step_on e h = h ∙ ap (λ (i : Answer (Read A)). after i fault at rest) e

  -- the field is refused: the message stops there
  pub step_off : {r : Refusal} {v : Verdict} → refused r ≡ o → v ≡ stops (fault r) at r → v ≡ after o fault at rest
  step_off e h = h ∙ ap (λ (i : Answer (Read A)). after i fault at rest) e

-- an answer that was handed on as y by a call that names refusals is y
abbrev pub HandedOn : {A : Type 0} → Result A code.Refusal → A → Type 0
HandedOn {A} r y = MatchResult r (λ (x : A). ◌≡◌ {A = Result A Reason} (Ok y) (Ok x)) (λ e. ⊥)

pub ok_is : {A : Type 0} (r : Result A code.Refusal) (y : A) → HandedOn r y → r ≡ Ok y
ok_is (Ok x) y same = cc
ok_is (Err e) y none = absurd none

-- what a callee promised of a field, once its answer is known
pub seen_as : {A M : Type 0} {meaning : A → M} {field : Reader M} {Place : A → ℕ → Type 0} {s : List ℕ} {at : ℕ} {x : Seen A} {y : A × ℕ}
    → Right A M meaning field Place s at x → x ≡ Ok y → Right A M meaning field Place s at (Ok y)
seen_as {A} {M} {meaning} {field} {Place} {s} {at} right is = subst (Right A M meaning field Place s at) is right

-- ---- the checks of one field
module _ (s : List ℕ) (at : ℕ) (v : Verdict) where
  abbrev room : ℕ
  room = length s - at

  byte_step : (f : Fault) → pick (leb 1 room) v (stops f at (too_short 1 room)) ≡ after (byte (drop at s)) (always f) at v
  byte_step f = go (leb 1 room) refl
    where
      go : (b : Bool) → leb 1 room ≡ b → pick b v (stops f at (too_short 1 room)) ≡ after (byte (drop at s)) (always f) at v
      go true e = step_on (always f) at v (one_byte s at (omega (arith, leb-true 1 room e))) refl
      go false e =
          let end : room ≡ 0 = omega (arith, leb-false 1 room e) in
          step_off (always f) at v (no_byte s at (omega arith)) (ap (λ (n : ℕ). stops f at (too_short 1 n)) end)

  number_step : (k : ℕ) (f : Fault) → pick (leb k room) v (stops f at (too_short k room)) ≡ after (number k (drop at s)) (always f) at v
  number_step k f = go (leb k room) refl
    where
      go : (b : Bool) → leb k room ≡ b → pick b v (stops f at (too_short k room)) ≡ after (number k (drop at s)) (always f) at v
      go true e = step_on (always f) at v (number_there s at k _ refl (leb-true k room e)) refl
      go false e = step_off (always f) at v (number_short s at k room refl (leb-false k room e)) refl

  abbrev block_verdict : (a b : Bool) → Verdict
  block_verdict a b = pick a (pick b v (stops cut_block at (too_short (1 + number_at at 1 s) room))) (stops no_count at (too_short 1 room))

  block_step : block_verdict (leb 1 room) (leb (1 + number_at at 1 s) room) ≡ after (block_length (drop at s)) block_fault at v
  block_step = go (leb 1 room) refl (leb (1 + number_at at 1 s) room) refl
    where
      go : (a : Bool) → leb 1 room ≡ a → (b : Bool) → leb (1 + number_at at 1 s) room ≡ b → block_verdict a b ≡ after (block_length (drop at s)) block_fault at v
      go true e true f = step_on block_fault at v (counted_there s at 1 _ refl (leb-true _ room f)) refl
      go true e false f =
          let some : 1 ≤ room = leb-true 1 room e in
          let short : room < 1 + number_at at 1 s = leb-false _ room f in
          let more : 1 < 1 + number_at at 1 s = omega arith in
          let bytes : eqb (1 + number_at at 1 s) 1 ≡ false = ne_eqb _ 1 (λ i. ne_of_lt more (sym i)) in
          step_off block_fault at v (counted-cut s at 1 _ refl room refl some short) (rw bytes)
      go false e b f = step_off block_fault at v (counted-short s at 1 room refl (leb-false 1 room e)) refl

  abbrev name_verdict : (a b c : Bool) → Verdict
  name_verdict a b c =
      let n : ℕ = number_at at 2 s in
      pick a (pick b (pick c v (stops not_utf8 at (wrong_format (valid_up_to (take n (drop (at + 2) s)))))) (stops cut_name at (too_short (2 + n) room)))
      (stops no_name_length at (too_short 2 room))

  name_step : name_verdict (leb 2 room) (leb (2 + number_at at 2 s) room) (is_utf8 (take (number_at at 2 s) (drop (at + 2) s))) ≡ after (name (drop at s)) name_fault at v
  unfolding name
  name_step = go (leb 2 room) refl (leb (2 + number_at at 2 s) room) refl (is_utf8 (take (number_at at 2 s) (drop (at + 2) s))) refl
    where
      go : (a : Bool) → leb 2 room ≡ a → (b : Bool) → leb (2 + number_at at 2 s) room ≡ b → (c : Bool) → is_utf8 (take (number_at at 2 s) (drop (at + 2) s)) ≡ c
          → name_verdict a b c ≡ after (name (drop at s)) name_fault at v
      go true e true f true g = step_on name_fault at v (on (counted 2) _ _ (counted_there s at 2 _ refl (leb-true _ room f)) (pass _ _ _ g)) refl
      go true e true f false g = step_off name_fault at v (on (counted 2) _ _ (counted_there s at 2 _ refl (leb-true _ room f)) (fail _ _ _ g)) refl
      go true e false f c g =
          let some : 2 ≤ room = leb-true 2 room e in
          let short : room < 2 + number_at at 2 s = leb-false _ room f in
          let more : 2 < 2 + number_at at 2 s = omega arith in
          let bytes : eqb (2 + number_at at 2 s) 2 ≡ false = ne_eqb _ 2 (λ i. ne_of_lt more (sym i)) in
          step_off name_fault at v (off (counted 2) _ _ (counted-cut s at 2 _ refl room refl some short)) (rw bytes)
      go false e b f c g = step_off name_fault at v (off (counted 2) _ _ (counted-short s at 2 room refl (leb-false 2 room e))) refl

  -- c sizes with their width in k bytes, so that a group with sizes has more than two
  module _ (k c : ℕ) (head : leb k 2 ≡ true) (more : (w : ℕ) → 0 < c * w → 2 < k + c * w) where
    abbrev width : ℕ
    width = number_at at k s

    abbrev sizes_verdict : (a b d e : Bool) → Verdict
    sizes_verdict a b d e =
        pick a (pick b (pick (both d e) v (stops wrong_width at (bad_width width))) (stops cut_sizes at (too_short (k + c * width) room))) (stops no_width at (too_short k room))

    sizes_step : sizes_verdict (leb k room) (leb (k + c * width) room) (leb 1 width) (leb width 16) ≡ after (size_group k c (drop at s)) sizes_fault at v
    sizes_step = go (leb k room) refl (leb (k + c * width) room) refl (leb 1 width) refl (leb width 16) refl
      where
        go : (a : Bool) → leb k room ≡ a → (b : Bool) → leb (k + c * width) room ≡ b → (d : Bool) → leb 1 width ≡ d → (e : Bool) → leb width 16 ≡ e
            → sizes_verdict a b d e ≡ after (size_group k c (drop at s)) sizes_fault at v
        go true p true q true g true h = step_on sizes_fault at v (group_good s at k c _ refl (leb-true _ room q) (leb-true 1 width g) (leb-true width 16 h)) refl
        go true p true q true g false h = step_off sizes_fault at v (group_wide s at k c _ refl (leb-true _ room q) (leb-false width 16 h)) refl
        go true p true q false g e h = step_off sizes_fault at v (group_narrow s at k c _ refl (leb-true _ room q) (leb-false 1 width g)) refl
        go true p false q d g e h =
            let some : k ≤ room = leb-true k room p in
            let short : room < k + c * width = leb-false _ room q in
            let bytes : leb (k + c * width) 2 ≡ false = lt-leb _ 2 (more width (omega arith)) in
            step_off sizes_fault at v (group_cut s at k c _ refl room refl some short) (rw bytes)
        go false p b q d g e h = step_off sizes_fault at v (group_short s at k c room refl (leb-false k room p)) (rw head)

-- ---- the kind
-- the check of the mode, and what the checks of each kind say
kind_step : (b : ℕ) (v : Verdict) (rest : Kind → Verdict) → ((k : Kind) → known b ≡ accepted k → v ≡ rest k)
    → pick (among any_kind (known b)) v (stops no_such_mode 0 (unknown_mode b)) ≡ why_kind (known b) rest
unfolding known
kind_step b v rest h = go (known b) refl
  where
    go : (a : Answer Kind) → known b ≡ a → pick (among any_kind a) v (stops no_such_mode 0 (unknown_mode b)) ≡ why_kind a rest
    go (accepted k) e = h k e
    go (refused r) e = ap (stops no_such_mode 0) (unknown-is mode_of unknown_mode b kinds r e)

-- ---- a message
module _ (s : List ℕ) where
  after_name_step : (h : AfterName) → has_format h ≡ with_format s → has_sizes h ≡ with_sizes s → first_failed (drop 5 request_checks) s ≡ why_after_name h s (name_end s)
  unfolding first_failed request_checks
  after_name_step format_and_sizes p q =
      rw (← p, ← q)
      (byte_step s (name_end s) _ no_format
      ∙ ap (after (byte (drop (name_end s) s)) (always no_format) (name_end s)) (sizes_step s (name_end s + 1) all_pass 1 2 refl (λ w h. omega arith)))
  after_name_step nothing p q = rw (← p, ← q)
  after_name_step format_only p q = rw (← p, ← q) (byte_step s (name_end s) _ no_format)

  -- the first check of a request that fails, field by field
  pub request_steps : first_failed request_checks s ≡ why_request s
  unfolding first_failed request_checks
  request_steps =
      byte_step s 0 _ no_mode
      ∙ ap (after (byte (drop 0 s)) (always no_mode) 0)
      (name_step s 1 _
      ∙ ap (after (name (drop 1 s)) name_fault 1)
      (kind_step (mode_in s) _ (λ (k : Kind). why_after_name (after_name k) s (name_end s)) (λ k e.
      after_name_step (after_name k) (sym (ap (among (λ (i : Kind). has_format (after_name i))) e)) (sym (ap (among (λ (i : Kind). has_sizes (after_name i))) e)))))

  last_step : (h : AfterFormat) → with_last is_two_sizes s ≡ is_two_sizes h → with_last is_one_size s ≡ is_one_size h → with_position s ≡ is_position h
      → first_failed (drop 5 response_checks) s ≡ why_after_format h s (last_at s)
  unfolding first_failed response_checks
  last_step nothingMore p q i = rw (p, q, i)
  last_step two_sizes p q i = rw (p, i) (sizes_step s (last_at s) all_pass 2 2 refl (λ w h. omega arith))
  last_step one_size p q i = rw (p, q, i) (sizes_step s (last_at s) all_pass 2 1 refl (λ w h. omega arith))
  last_step one_position p q i = rw (p, q, i) (number_step s (last_at s) all_pass 8 cut_position)

  after_mode_step : (h : AfterMode) → ((these : AfterFormat → Bool) → with_last these s ≡ has_last these h) → first_failed (drop 2 response_checks) s ≡ why_after_mode h s
  unfolding first_failed response_checks
  after_mode_step ended p = rw (p any_last, p is_two_sizes, p is_one_size, p is_position)
  after_mode_step (block_and_format h) p =
      rw (p any_last)
      (block_step s 1 _
      ∙ ap (after (block_length (drop 1 s)) block_fault 1)
      (byte_step s (2 + number_at 1 1 s) _ no_format
      ∙ ap (after (byte (drop (2 + number_at 1 1 s) s)) (always no_format) (2 + number_at 1 1 s)) (last_step h (p is_two_sizes) (p is_one_size) (p is_position))))

  -- the first check of a response that fails, field by field
  pub response_steps : first_failed response_checks s ≡ why_response s
  unfolding first_failed response_checks
  response_steps =
      byte_step s 0 _ no_mode
      ∙ ap (after (byte (drop 0 s)) (always no_mode) 0)
      (kind_step (mode_in s) _ (λ (k : Kind). why_after_mode (after_mode k) s) (λ k e.
      after_mode_step (after_mode k) (λ these. ap (among (λ (i : Kind). has_last these (after_mode i))) e)))

  -- ---- what was read
  -- the byte that was read at 0 is the mode
  pub mode-is : {b : ℕ} {t : List ℕ} → accepted (b leaving t) ≡ byte (drop 0 s) → b ≡ mode_in s
  unfolding byte
  mode-is e = go s e
    where
      go : (u : List ℕ) {b : ℕ} {t : List ℕ} → accepted (b leaving t) ≡ byte u → b ≡ mode_in u
      go [] e = absurd (never (sym e))
      go (x ∷ u) e = cc

  -- bytes that were read after their count are as many as it says
  counted_len : (k at : ℕ) {x t : List ℕ} → accepted (x leaving t) ≡ counted k (drop at s) → (x ≡ take (number_at at k s) (drop (at + k) s)) × (k + number_at at k s ≤ length s - at)
  counted_len k at {x} {t} e = go (leb k (length s - at)) refl (leb (k + number_at at k s) (length s - at)) refl
    where
      go : (a : Bool) → leb k (length s - at) ≡ a → (b : Bool) → leb (k + number_at at k s) (length s - at) ≡ b
          → (x ≡ take (number_at at k s) (drop (at + k) s)) × (k + number_at at k s ≤ length s - at)
      go true p true q =
          let there : accepted (x leaving t) ≡ accepted (take (number_at at k s) (drop (at + k) s) leaving drop (at + k + number_at at k s) s) =
          e ∙ sym (counted_there s at k _ refl (leb-true _ _ q)) in
          (cc, leb-true _ _ q)
      go true p false q = absurd (never (counted-cut s at k _ refl (length s - at) refl (leb-true _ _ p) (leb-false _ _ q) ∙ sym e))
      go false p b q = absurd (never (counted-short s at k (length s - at) refl (leb-false _ _ p) ∙ sym e))

  -- so that the next field begins where the count says
  pub counted_end : (k at start len : ℕ) {next : ℕ} {t : List ℕ} → accepted (take len (drop start s) leaving t) ≡ counted k (drop at s) → start ≡ at + k → start + len ≡ next → next ≤ length s
      → next ≡ at + k + number_at at k s
  counted_end k at start len e begins ends within =
      let (same, there) = counted_len k at e in
      let one : length (take len (drop start s)) ≡ len = length-take-le len (drop start s) (omega (arith, length-drop start s)) in
      let two : length (take (number_at at k s) (drop (at + k) s)) ≡ number_at at k s = length-take-le (number_at at k s) (drop (at + k) s) (omega (arith, length-drop (at + k) s)) in
      omega (arith, ap length same)

  -- a name that was read was counted
  pub name-counted : (at : ℕ) {x t : List ℕ} → accepted (x leaving t) ≡ name (drop at s) → accepted (x leaving t) ≡ counted 2 (drop at s)
  unfolding name ◌>>=◌ give refuse
  name-counted at {x} {t} e = go (counted 2 (drop at s)) e
    where
      judged : (y u : List ℕ) (ok : Bool) → accepted (x leaving t) ≡ judge ok (wrong_format (valid_up_to y)) y u → accepted (x leaving t) ≡ accepted (y leaving u)
      judged y u true i = i
      judged y u false i = absurd (never (sym i))

      go : (o : Answer (Read (List ℕ))) → accepted (x leaving t) ≡ onward o (λ (n : List ℕ). judge (is_utf8 n) (wrong_format (valid_up_to n)) n) → accepted (x leaving t) ≡ o
      go (accepted (y leaving u)) i = judged y u (is_utf8 y) i
      go (refused r) i = absurd (never (sym i))

  -- ---- what was read, of answers that were handed on by a call that names refusals
  -- the mode
  pub mode_read : (r : Seen ℕ) (b next : ℕ) → ByteRight s 0 r → HandedOn r (b, next) → b ≡ mode_in s
  mode_read r b next right same = mode-is (seen_as right (ok_is r (b, next) same)).paper

  -- where the name ends
  pub name_read : (r : Seen Place) (place : Place) (next : ℕ) → NameRight s 1 r → HandedOn r (place, next) → next ≡ name_end s
  name_read r place next right same =
      let name = seen_as right (ok_is r (place, next) same) in
      let (begins, ends, within) = name.place in
      counted_end 2 1 place.start place.len (name-counted 1 name.paper) begins ends within

  -- where the block length ends
  pub block_read : (r : Seen Place) (place : Place) (next : ℕ) → CountedRight 1 s 1 r → HandedOn r (place, next) → next ≡ block_end s
  block_read r place next right same =
      let block = seen_as right (ok_is r (place, next) same) in
      let (begins, ends, within) = block.place in
      counted_end 1 1 place.start place.len block.paper begins ends within
