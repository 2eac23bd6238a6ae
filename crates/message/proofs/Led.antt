-- One law for every writer: what document 01's writer promises of the room behind the service byte, and the service byte put before it, is the promise of the whole.
-- Assumes nothing.
use mathlib.Core.Path.{◌≡◌, refl, sym, ap, ◌∙◌}
use Prim.Native.Nat.{ℕ, suc, ◌-◌, ◌≤◌}
use mathlib.Core.Bool.{Bool, true, false}
use mathlib.Core.List.{List, [], ◌∷◌, ◌++◌, append-nil}
use native.Mathlib.Omega.{arith}
use native.Mathlib.Numerals.{add-one}
use borrow.Author.Tests.{leb-true, leb-false, le-leb, lt-leb, ne_eqb}
use lib.Dec.{leb}
use lib.ListN.{length, take, drop, length-append, length-drop}
use lib.Seq.{take_all, drop-length}
use Rattle.paper.specs.Choice.{pick}
use Rattle.paper.specs.Answer.{wrong_format, no_room, Answer, accepted, refused, check, ◌then◌, over, Written, written}
use Rattle.paper.specs.Utf8.{is_utf8, valid_up_to}
use Rattle.paper.specs.Request.{Request, request_at, request_bytes, good_name, write_request}
use Rattle.paper.specs.Response.{Response, response_at, response_bytes, as_read, good_block_length, write_response}
use Rattle.paper.specs.RoutineControl.{RoutineRequest, RoutineResponse, byte_of, routine_laid, control_byte, routine_request_bytes, routine_response_bytes, write_routine_request, write_routine_response}
use Rattle.paper.specs.WholeMessage.{Sort, service_byte, led}
use Rattle.paper.proofs.Bytes.{length_to_bytes}
use Rattle.paper.proofs.Choice.{check_passed, then_passed}
use Rattle.paper.proofs.Request as request
use Rattle.paper.proofs.Response as response
use Rattle.wire.specs.Writing.{told, Wrote}
use Rattle.wire.specs.declared.refusal.Refusal as wire
use Rattle.std.specs.Prelude.{Result, min}
use Rattle.wire.proofs.Over.{over_length, rest, back}
use Rattle.message.specs.Writing.{answer_on, spoken_of, contents_on, ServicePut, Leads}

-- ---- the law
-- the answer about the rest speaks of no more bytes than that
spoken : (message : Answer (List ℕ)) (old : List ℕ) → Leads message → spoken_of (written message old).answer ≤ 65572
spoken (refused r) old h = rw h (omega arith)
spoken (accepted u) old h = go (leb (length u) (length old))
  where
    go : (b : Bool) → spoken_of (Written.answer (pick b (record { answer = accepted (length u); contents = over u old }) (record { answer = refused (no_room (length u) (length old)); contents = old }))) ≤ 65572
    go true = h.1
    go false = h.1

pub spoken-of : {message : Answer (List ℕ)} {old new : List ℕ} {w : Result ℕ wire.Refusal} → Leads message → Wrote message old w new → spoken_of (told w) ≤ 65572
spoken-of {message} {old} h w = rw w.answer (spoken message old h)

-- what the paper says of bytes for which there is room, or too little
abbrev result : Bool → List ℕ → List ℕ → Written
result b u old = pick {A = Written} b (record { answer = accepted (length u); contents = over u old }) (record { answer = refused (no_room (length u) (length old)); contents = old })

-- a byte is put over the first one of a room
put_first : (b x : ℕ) (l : List ℕ) → (written (accepted (b ∷ [])) (x ∷ l)).contents ≡ b ∷ l
unfolding over
put_first b x l = rw (le-leb 1 (suc (length l)) (omega arith))

-- behind the first byte of a room
led-room : (k : Sort) (message : Answer (List ℕ)) (x : ℕ) (old : List ℕ) → Leads message
    → (answer_on (suc (length old)) (written message old).answer ≡ (written (led k message) (x ∷ old)).answer)
    × (contents_on (service_byte k) (written message old).answer (x ∷ (written message old).contents) ≡ (written (led k message) (x ∷ old)).contents)
unfolding over
led-room k (refused r) x old h = (rw (ne_eqb r.number 7 (λ e. absurd (omega (arith, h, e)))), refl)
led-room k (accepted u) x old h = go (leb (length u) (length old)) refl
  where
    both : Bool → Bool → Type 0
    both b c =
        (answer_on (suc (length old)) (result b u old).answer ≡ (result c (service_byte k ∷ u) (x ∷ old)).answer)
        × (contents_on (service_byte k) (result b u old).answer (x ∷ (result b u old).contents) ≡ (result c (service_byte k ∷ u) (x ∷ old)).contents)

    same : (b : Bool) → both b b
    same true = (ap accepted (add-one (length u)), put_first (service_byte k) x (over u old))
    same false = (ap (λ (n : ℕ). refused (no_room n (suc (length old)))) (add-one (length u)), refl)

    go : (b : Bool) → leb (length u) (length old) ≡ b → both (leb (length u) (length old)) (leb (suc (length u)) (suc (length old)))
    go true e = rw (e, le-leb (suc (length u)) (suc (length old)) (omega (arith, leb-true (length u) (length old) e))) (same true)
    go false e = rw (e, lt-leb (suc (length u)) (suc (length old)) (omega (arith, leb-false (length u) (length old) e))) (same false)

-- a room with no byte
led-none : (k : Sort) (message : Answer (List ℕ)) → Leads message
    → (answer_on 0 (written message []).answer ≡ (written (led k message) []).answer)
    × (contents_on (service_byte k) (written message []).answer (written message []).contents ≡ (written (led k message) []).contents)
led-none k (refused r) h = (rw (ne_eqb r.number 7 (λ e. absurd (omega (arith, h, e)))), refl)
led-none k (accepted u) h = rw (lt-leb (length u) 0 (omega (arith, h.0)), lt-leb (suc (length u)) 0 (omega arith)) (ap (λ (n : ℕ). refused (no_room n 0)) (add-one (length u)), refl)

-- a room is as long as it was
length_kept : (message : Answer (List ℕ)) (old : List ℕ) → length (written message old).contents ≡ length old
length_kept (refused r) old = refl
length_kept (accepted u) old = go (leb (length u) (length old)) refl
  where
    go : (b : Bool) → leb (length u) (length old) ≡ b → length (result b u old).contents ≡ length old
    go true e = over_length u old (leb-true (length u) (length old) e)
    go false e = refl

-- the lent part of a room, and the room with that part back
rest_all : (at : ℕ) (old : List ℕ) → rest at old ≡ drop at old
rest_all at old = take_all (length old - at) (drop at old) (omega (arith, length-drop at old))

back_all : (at : ℕ) (old mid : List ℕ) → back at old mid ≡ take at old ++ mid
back_all at old mid =
    let none : drop (length old - at) (drop at old) ≡ [] = ap (λ (n : ℕ). drop n (drop at old)) (sym (length-drop at old)) ∙ drop-length (drop at old) in
    ap (λ (l : List ℕ). take at old ++ l) (ap (λ (l : List ℕ). mid ++ l) none ∙ append-nil mid)

-- the part behind the service byte was written, and then the service byte was put: the whole message is
module _ (k : Sort) (message : Answer (List ℕ)) {w r : Result ℕ wire.Refusal} (h : Leads message) where
  -- in a room with a first byte
  in-room : (x : ℕ) (old : List ℕ) {mid new : List ℕ} → Wrote message old w mid → ServicePut (service_byte k) w (x ∷ mid) r new → Wrote (led k message) (x ∷ old) r new
  in-room x old wrote put =
      let (answer, contents) = led-room k message x old h in
      record {
        answer = put.answer ∙ rw (wrote.answer, wrote.contents, length_kept message old) answer;
        contents = put.contents ∙ rw (wrote.answer, wrote.contents) contents;
      }

  -- in a room with no byte
  in_none : {mid new : List ℕ} → Wrote message [] w mid → ServicePut (service_byte k) w mid r new → Wrote (led k message) [] r new
  in_none wrote put =
      let (answer, contents) = led-none k message h in
      record {
        answer = put.answer ∙ rw (wrote.answer, wrote.contents, length_kept message []) answer;
        contents = put.contents ∙ rw (wrote.answer, wrote.contents) contents;
      }

  pub leads : (old : List ℕ) {at : ℕ} {mid new : List ℕ} → at ≡ min (length old) 1 → Wrote message (rest at old) w mid → ServicePut (service_byte k) w (back at old mid) r new → Wrote (led k message) old r new
  leads [] e wrote put = in_none (rw (rest_all, e) at wrote) (rw (back_all, e) at put)
  leads (x ∷ old) {at} e wrote put =
      let first : at ≡ 1 = omega (arith, e) in
      in-room x old (rw (rest_all, first) at wrote) (rw (back_all, first) at put)

-- ---- the messages of document 01 can be led by a service byte
-- if it is refused, then with 2
abbrev Two : {A : Type 0} → Answer A → Type 0
Two (accepted a) = Unit {0}
Two (refused r) = r.number ≡ 2

two_check : {A : Type 0} (ok : Bool) (good : ℕ) (a : Answer A) → Two a → Two (check ok (wrong_format good) a)
two_check true good a h = h
two_check false good a h = refl

two_then : {A B : Type 0} (a : Answer A) (b : B) → Two a → Two (a then accepted b)
two_then (accepted x) b h = tt
two_then (refused r) b h = h

leads_of : (o : Answer (List ℕ)) → Two o → ((u : List ℕ) → o ≡ accepted u → (1 ≤ length u) × (length u ≤ 65572)) → Leads o
leads_of (accepted u) h bounds = bounds u refl
leads_of (refused r) h bounds = h

pub request-leads : (m : Request) → Leads (write_request m)
unfolding write_request good_name request_bytes request_at
request-leads m =
    leads_of (write_request m)
    (two_then (good_name m.name) (request_bytes m) (two_check (leb (length m.name) 65535) 0 _ (two_check (is_utf8 m.name) (valid_up_to m.name) (accepted m.name) tt)))
    (λ u e. (first u e, request.written-longest m u e))
  where
    first : (u : List ℕ) → (good_name m.name then accepted (request_bytes m)) ≡ accepted u → 1 ≤ length u
    first u e =
        let (x, good, bytes) = then_passed (good_name m.name) (accepted (request_bytes m)) e in
        let is : u ≡ request_bytes m = cc in
        rw is (omega arith)

pub response-leads : (m : Response) → Leads (write_response m)
unfolding write_response good_block_length response_bytes response_at
response-leads m =
    leads_of (write_response m) (two_then (good_block_length (as_read m).block) (response_bytes m) (two_check (leb (length (as_read m).block) 255) 0 (accepted (as_read m).block) tt))
    (λ u e. (first u e, omega (arith, response.written-longest m u e)))
  where
    first : (u : List ℕ) → (good_block_length (as_read m).block then accepted (response_bytes m)) ≡ accepted u → 1 ≤ length u
    first u e =
        let (x, good, bytes) = then_passed (good_block_length (as_read m).block) (accepted (response_bytes m)) e in
        let is : u ≡ response_bytes m = cc in
        rw is (omega arith)

-- a routine message is three bytes and its record, of at most 65,535
routine_leads : (control identifier : ℕ) (r : List ℕ) → Leads (check (leb (length r) 65535) (wrong_format 0) (accepted (routine_laid control identifier r)))
routine_leads control identifier r =
    leads_of _ (two_check (leb (length r) 65535) 0 (accepted (routine_laid control identifier r)) tt)
    (λ u e.
    let (few, bytes) = check_passed (leb (length r) 65535) (wrong_format 0) (accepted (routine_laid control identifier r)) e in
    let is : u ≡ routine_laid control identifier r = cc in
    rw is (simp (length-append, length_to_bytes) (omega (arith, leb-true (length r) 65535 few))))

pub routine-request-leads : (m : RoutineRequest) → Leads (write_routine_request m)
unfolding write_routine_request routine_request_bytes
routine-request-leads m = routine_leads (control_byte m.suppress m.sub_function) m.identifier m.«record»

pub routine-response-leads : (m : RoutineResponse) → Leads (write_routine_response m)
unfolding write_routine_response routine_response_bytes
routine-response-leads m = routine_leads (byte_of m.sub_function) m.identifier m.«record»
