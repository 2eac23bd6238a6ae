-- Document 02, request 02: refusal 2 for a name that is not UTF-8 carries the length of its longest valid beginning, and everybody passes it up.
-- Assumes nothing.
use Prim.Native.Nat.{ℕ, ◌+◌, ◌≤◌}
use mathlib.Core.Path.{◌≡◌, refl, ap, sym, subst, ◌∙◌}
use mathlib.Core.Bool.{Bool, true, false, false≢true}
use mathlib.Core.List.{List, [], ◌∷◌}
use mathlib.Core.Logic.{◌↔◌}
use native.Mathlib.Omega.{arith}
use borrow.Author.Tests.{le-leb}
use lib.Dec.{leb, eqb}
use lib.ListN.{length, take, drop}
use Rattle.paper.specs.Choice.{pick}
use Rattle.paper.specs.Answer.{Refusal, too_short, wrong_format, unknown_mode, bad_width, Answer, accepted, refused, ◌then◌, Read, ◌leaving◌, Reader, onward, ◌>>=◌, give, refuse, judge, hand_out}
use Rattle.paper.specs.Bytes.{Bytes, of_bytes}
use Rattle.paper.specs.Utf8.{Longest, valid_up_to, is_utf8}
use Rattle.paper.specs.Kind.{Kind, mode_of, kinds, one_of, known}
use Rattle.paper.specs.Field.{part, byte, headed, counted, name, numbers, good_width, size_group}
use Rattle.paper.specs.Rewriting.{rewriting}
use Rattle.paper.specs.Request.{Request, AfterName, format_and_sizes, nothing, format_only, after_name, read_after_name, read_request, request_bytes, good_name, write_request, rewrite_request, IsName}
use Rattle.paper.specs.Desk.{passes, judge_at_desk, desk_check}
use Rattle.paper.specs.BadName.{GoesBad, SaysWhere, HasName, SaidWhere}
use Rattle.paper.proofs.Utf8.{valid_up_to_lem, longest-is, is-utf8}
use Rattle.paper.proofs.Places.{on, off, pass, fail}
use Rattle.paper.proofs.Request.{good-name, request-name, name-too-long}

-- ---- answers that are not refusal 2
-- the number of an answer in the table, 0 where it is accepted, and the first value that it carries
abbrev number_in : {A : Type 0} → Answer A → ℕ
number_in (accepted a) = 0
number_in (refused r) = r.number

abbrev first_in : {A : Type 0} → Answer A → ℕ
first_in (accepted a) = 0
first_in (refused r) = r.first

abbrev Other : {A : Type 0} → Answer A → Type 0
Other a = number_in a ≡ 2 → ⊥

-- so of a reader, whatever it reads
abbrev Others : {A : Type 0} → Reader A → Type 0
Others p = (s : List ℕ) → Other (p s)

-- one field after the other
other_onward : {A B : Type 0} (o : Answer (Read A)) (next : A → Reader B) → Other o → ((a : A) → Others (next a)) → Other (onward o next)
other_onward (accepted (a leaving t)) next h g = g a t
other_onward (refused r) next h g = h

others_then : {A B : Type 0} (p : Reader A) (next : A → Reader B) → Others p → ((a : A) → Others (next a)) → Others (p >>= next)
unfolding ◌>>=◌
others_then p next h g s = other_onward (p s) next (h s) g

other_pick : {A : Type 0} (b : Bool) (x y : Answer A) → Other x → Other y → Other (pick b x y)
other_pick true x y h g = h
other_pick false x y h g = g

others_byte : Others byte
unfolding byte
others_byte [] e = omega arith
others_byte (b ∷ s) e = omega arith

others_part : (n : ℕ) → Others (part n)
unfolding part
others_part n s = other_pick (leb n (length s)) (accepted (take n s leaving drop n s)) (refused (too_short n (length s))) (λ e. omega arith) (λ e. omega arith)

others_headed : (k : ℕ) (follow : ℕ → ℕ) → Others (headed k follow)
unfolding headed
others_headed k follow s =
    other_onward (part k s) _ (others_part k s) (λ h t. other_onward (part (k + follow (of_bytes h)) s) _ (others_part _ s) (λ u r e. omega arith))

others_give : {A : Type 0} (a : A) → Others (give a)
unfolding give
others_give a s e = omega arith

others_judge : {A : Type 0} (ok : Bool) (r : Refusal) (a : A) → (r.number ≡ 2 → ⊥) → Others (judge ok r a)
unfolding give refuse
others_judge true r a h s = λ e. omega arith
others_judge false r a h s = h

others_sizes : (k c : ℕ) → Others (size_group k c)
unfolding size_group
others_sizes k c =
    others_then (headed k _) _ (others_headed k _)
    (λ h. others_judge (good_width h.head) (bad_width h.head) (numbers c h.head h.body) (λ e. omega arith))

others_hand : {A : Type 0} (a : Answer A) → Other a → Others (hand_out a)
unfolding give refuse
others_hand (accepted a) h s = h
others_hand (refused r) h s = h

other_kind : (ks : List Kind) (b : ℕ) → Other (one_of mode_of ks unknown_mode b)
unfolding one_of
other_kind [] b = λ e. omega arith
other_kind (k ∷ ks) b = other_pick (eqb (mode_of k) b) (accepted k) (one_of mode_of ks unknown_mode b) (λ e. omega arith) (other_kind ks b)

others_after : (k : Kind) (n : List ℕ) (h : AfterName) → Others (read_after_name k n h)
others_after k n format_and_sizes = others_then byte _ others_byte (λ f. others_then (size_group 1 2) _ (others_sizes 1 2) (λ xs. others_give _))
others_after k n nothing = others_give _
others_after k n format_only = others_then byte _ others_byte (λ f. others_give _)

-- what is read after a good name is never refused with 2
others_rest : (mode : ℕ) (n : List ℕ) → Others (hand_out (known mode) >>= (λ (k : Kind). read_after_name k n (after_name k)))
unfolding known
others_rest mode n = others_then _ _ (others_hand (known mode) (other_kind kinds mode)) (λ k. others_after k n (after_name k))

-- ---- an answer about a name
-- where the name is UTF-8 the answer is not refusal 2, and where it is not it is that, with what the test finds
says : {A : Type 0} (n : List ℕ) {a : Answer A} → (is_utf8 n ≡ true → Other a) → (is_utf8 n ≡ false → refused (wrong_format (valid_up_to n)) ≡ a) → SaysWhere n a
says n {a} good bad r = go (is_utf8 n) refl
  where
    go : (b : Bool) → is_utf8 n ≡ b → (a ≡ refused (wrong_format r)) ↔ GoesBad n r
    go true e = (λ is. absurd (good e (ap number_in is)), λ g. absurd (g.bad ((is-utf8 n).0 e)))
    go false e = (
      λ is. record { bad = λ u. false≢true (sym e ∙ (is-utf8 n).1 u); longest = subst (Longest n) (ap first_in (bad e ∙ is)) (valid_up_to_lem n) },
      λ g. sym (bad e) ∙ ap (λ (k : ℕ). refused (wrong_format k)) (sym (longest-is n r g.longest)),
    )

-- ---- the field, and a message that has the name
field-good : (s : List ℕ) {n t : List ℕ} → counted 2 s ≡ accepted (n leaving t) → is_utf8 n ≡ true → accepted (n leaving t) ≡ name s
unfolding name
field-good s {n} {t} e good = on (counted 2) _ _ (sym e) (pass (wrong_format (valid_up_to n)) n t good)

field-bad : (s : List ℕ) {n t : List ℕ} → counted 2 s ≡ accepted (n leaving t) → is_utf8 n ≡ false → refused (wrong_format (valid_up_to n)) ≡ name s
unfolding name
field-bad s {n} {t} e bad = on (counted 2) _ _ (sym e) (fail (wrong_format (valid_up_to n)) n t bad)

accepted_other : {A : Type 0} {a : A} {o : Answer A} → accepted a ≡ o → Other o
accepted_other is = subst Other is (λ e. omega arith)

module _ {s n : List ℕ} (h : HasName s n) where
  read-good : is_utf8 n ≡ true → Other (read_request s)
  unfolding read_request byte ◌>>=◌
  read-good e = rw h.is (other_onward (name h.after) _ (accepted_other (field-good h.after h.named e)) (others_rest h.mode))

  read-bad : is_utf8 n ≡ false → refused (wrong_format (valid_up_to n)) ≡ read_request s
  unfolding read_request byte
  read-bad e = rw h.is (on byte _ _ refl (off name _ h.after (field-bad h.after h.named e)))

-- ---- at the desk, written and rewritten
other_desk : (a : Answer (Read Request)) → Other a → Other (judge_at_desk a)
other_desk (refused r) h = h
other_desk (accepted (m leaving (b ∷ t))) h = λ e. omega arith
other_desk (accepted (m leaving [])) h = other_pick (passes (after_name m.kind) m) _ _ h (λ e. omega arith)

-- a name is not refused
name-good : {n : List ℕ} → IsName n → accepted n ≡ good_name n
name-good {n} named = sym ((good-name n n).1 (refl, named))

name-bad : (n : List ℕ) → length n ≤ 65535 → is_utf8 n ≡ false → refused (wrong_format (valid_up_to n)) ≡ good_name n
unfolding good_name
name-bad n short e = rw (le-leb _ _ short, e)

write_good : (m : Request) → IsName m.name → Other (write_request m)
unfolding write_request
write_good m named = accepted_other (ap (λ (a : Answer (List ℕ)). a then accepted (request_bytes m)) (name-good named))

write_bad : (m : Request) → length m.name ≤ 65535 → is_utf8 m.name ≡ false → refused (wrong_format (valid_up_to m.name)) ≡ write_request m
unfolding write_request
write_bad m short e = ap (λ (a : Answer (List ℕ)). a then accepted (request_bytes m)) (name-bad m.name short e)

is_name : (n : List ℕ) → length n ≤ 65535 → is_utf8 n ≡ true → IsName n
is_name n short e = record { utf8 = (is-utf8 n).0 e; short = short }

-- what was read is written
rewrite_good : (s : List ℕ) → Bytes s → Other (read_request s) → Other (rewrite_request s)
unfolding rewrite_request rewriting ◌>>=◌
rewrite_good s bytes = go (read_request s) refl
  where
    go : (o : Answer (Read Request)) → read_request s ≡ o → Other o → Other (onward o (λ (m : Request). hand_out (write_request m)))
    go (accepted (m leaving t)) e h = others_hand (write_request m) (write_good m (request-name s bytes e).0) t
    go (refused r) e h = h

-- the request of document 02
pub said_where : SaidWhere
unfolding desk_check rewrite_request rewriting
said_where = record {
  field = λ s {n} e. says n (λ good. accepted_other (field-good s e good)) (field-bad s e);
  check = λ n short. says n (λ good. accepted_other (name-good (is_name n short good))) (name-bad n short);
  reader = λ {s} {n} h. says n (read-good h) (read-bad h);
  writer = λ m short. says m.name (λ good. write_good m (is_name m.name short good)) (write_bad m short);
  desk = λ {s} {n} h. says n (λ good. other_desk (read_request s) (read-good h good)) (λ bad. ap judge_at_desk (read-bad h bad));
  rewriter = λ {s} {n} h bytes. says n (λ good. rewrite_good s bytes (read-good h good)) (λ bad. off read_request _ s (read-bad h bad));
  over_long = name-too-long;
}
