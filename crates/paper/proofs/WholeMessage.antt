-- Document 02, Req 14: what a whole message is read as, by its sort; that the layouts and demand 3 of document 01 hold with the service byte before them;
-- and that of a negative answer reading and writing give back each other.
-- Assumes nothing.
use mathlib.Core.Path.{◌≡◌, refl, ap, ap₂, sym, subst, ◌∙◌}
use Prim.Native.Nat.{ℕ, ◌<◌}
use mathlib.Core.Bool.{Bool, true, false}
use mathlib.Core.List.{List, [], ◌∷◌, ◌++◌, append-nil}
use mathlib.Core.Logic.{◌↔◌}
use native.Mathlib.Omega.{arith}
use borrow.Author.Tests.{eqb-true, eq-eqb, ne_eqb}
use lib.Dec.{eqb}
use lib.ListN.{length, get_or}
use Rattle.paper.specs.Answer.{Refusal, unknown_service, out_of_range, Answer, accepted, refused, ◌then◌, Read, ◌leaving◌, Reader, onward, ◌>>=◌, give, refuse, judge, hand_out}
use Rattle.paper.specs.Bytes.{Bytes}
use Rattle.paper.specs.Kind.{one_of}
use Rattle.paper.specs.Field.{part, byte}
use Rattle.paper.specs.Rewriting.{Layout, WholeLayout, Message, rewriting, Rewritten, Demand3}
use Rattle.paper.specs.Request.{Request, read_request, write_request, rewrite_request, RequestWay}
use Rattle.paper.specs.Response.{Response, read_response, write_response, rewrite_response, ResponseWay}
use Rattle.paper.specs.RoutineControl.{RoutineRequest, RoutineResponse, read_routine_request, read_routine_response, RoutineRequestWay, RoutineResponseWay}
use Rattle.paper.specs.WholeMessage.{Sort, file_request, routine_request, file_response, routine_response, negative_answer, service_byte, sorts, known_sort}
use Rattle.paper.specs.WholeMessage.{Service, file_transfer, routine_control, request_byte, known_service, list_of, stands, Negative, negative, no_more, read_negative}
use Rattle.paper.specs.WholeMessage.{WholeMessage, a_file_request, a_routine_request, a_file_response, a_routine_response, a_negative_answer, read_after_service, read_message}
use Rattle.paper.specs.WholeMessage.{led, write_negative, write_message, with_service, rewrite_with_service, LedWay}
use Rattle.paper.proofs.Choice.{never, then_passed}
use Rattle.paper.proofs.Codec.{onward-is}
use Rattle.paper.proofs.Fields.{part-is, two_of, reads-one-of}
use Rattle.paper.proofs.Request.{request_layout, request_demand_3}
use Rattle.paper.proofs.Response.{response_layout, response_demand_3}
use Rattle.paper.proofs.RoutineControl.{routine_request_layout, routine_response_layout}

-- ---- steps of a reader
-- a byte was there
byte-is : (s : List ℕ) (b : ℕ) (t : List ℕ) → byte s ≡ accepted (b leaving t) → s ≡ b ∷ t
unfolding byte
byte-is [] b t e = absurd (never e)
byte-is (c ∷ s) b t e = cc

-- an answer was handed out, and no byte taken
handed_out : {A : Type 0} (o : Answer A) (s : List ℕ) (a : A) (t : List ℕ) → hand_out o s ≡ accepted (a leaving t) → (o ≡ accepted a) × (t ≡ s)
unfolding give refuse
handed_out (accepted x) s a t e = (cc, cc)
handed_out (refused r) s a t e = absurd (never e)

-- a value was judged and passed, and no byte taken
passed : {A : Type 0} (ok : Bool) (r : Refusal) (a : A) (s : List ℕ) (b : A) (t : List ℕ) → judge ok r a s ≡ accepted (b leaving t) → (ok ≡ true) × (t ≡ s)
unfolding give refuse
passed true r a s b t e = (refl, cc)
passed false r a s b t e = absurd (never e)

-- what is given in the end says what was read
module _ {A M : Type 0} (read : Reader A) (make : A → M) (m : A) (t : List ℕ) where
  made_to : (r : List ℕ) → read r ≡ accepted (m leaving t) → (read >>= (λ (a : A). give (make a))) r ≡ accepted (make m leaving t)
  unfolding ◌>>=◌ give
  made_to r e = rw e

  made_from : ((a : A) → make a ≡ make m → a ≡ m) → (r : List ℕ) → (read >>= (λ (a : A). give (make a))) r ≡ accepted (make m leaving t) → read r ≡ accepted (m leaving t)
  unfolding ◌>>=◌ give
  made_from only r e =
      let (a, t₁, e₁, e₂) = onward-is (read r) (λ (a : A). give (make a)) (make m) t e in
      let one : a ≡ m = only a (cc) in
      let rest : t₁ ≡ t = cc in
      rw (one, rest) at e₁

-- ---- the sort of a message
small_service : (k : Sort) → service_byte k < 256
small_service = elim [ file_request ↦ omega arith | routine_request ↦ omega arith | file_response ↦ omega arith | routine_response ↦ omega arith | negative_answer ↦ omega arith ]

each_sort : (k : Sort) → one_of service_byte sorts (λ (_ : ℕ). unknown_service 0) (service_byte k) ≡ accepted k
unfolding one_of
each_sort = elim [ file_request ↦ refl | routine_request ↦ refl | file_response ↦ refl | routine_response ↦ refl | negative_answer ↦ refl ]

-- a message that begins with the service byte of a sort is read as that sort says: accepted or refused
pub sort_reads : (k : Sort) (r : List ℕ) → read_message (service_byte k ∷ r) ≡ read_after_service k r
unfolding read_message ◌>>=◌ byte give known_sort
sort_reads k r = rw (each_sort k)

-- ---- a sort's own reader, with the service byte before it
module _ {A : Type 0} (k : Sort) (read : Reader A) where
  -- behind its service byte the sort's own reader has the word
  pub service-reads : (r : List ℕ) → with_service k read (service_byte k ∷ r) ≡ read r
  unfolding with_service ◌>>=◌ byte give
  service-reads r = rw (eq-eqb (service_byte k) (service_byte k) refl)

  -- what is accepted begins with the service byte
  service-is : (s : List ℕ) (m : A) (t : List ℕ) → with_service k read s ≡ accepted (m leaving t) → (r : List ℕ) × (s ≡ service_byte k ∷ r) × (read r ≡ accepted (m leaving t))
  unfolding with_service ◌>>=◌
  service-is s m t e =
      let (b, r, there, e₁) = onward-is (byte s) _ m t e in
      let (c, r₂, judged, e₂) = onward-is (judge (eqb b (service_byte k)) (unknown_service 0) b r) (λ (_ : ℕ). read) m t e₁ in
      let (ok, same) = passed (eqb b (service_byte k)) (unknown_service 0) b r c r₂ judged in
      (r, byte-is s b r there ∙ ap (λ (x : ℕ). x ∷ r) (eqb-true b (service_byte k) ok), rw same at e₂)

-- the layouts of document 01, with the service byte before them
led_layout : {A : Type 0} {read : Reader A} {Way : A → List ℕ → Type 0} (k : Sort) → Layout read Way → Layout (with_service k read) (LedWay k Way)
led_layout {A} {read} {Way} k laid s m t bytes = (there, back)
  where
    there : with_service k read s ≡ accepted (m leaving t) → (u : List ℕ) × LedWay k Way m u × (s ≡ u ++ t)
    there e =
        let (r, j, f) = service-is k read s m t e in
        let (v, way, l) = (laid r m t (subst Bytes j bytes).1).0 f in
        (service_byte k ∷ v, record { rest = v; way = way; is = refl }, j ∙ ap (λ (x : List ℕ). service_byte k ∷ x) l)

    back : (u : List ℕ) × LedWay k Way m u × (s ≡ u ++ t) → with_service k read s ≡ accepted (m leaving t)
    back (u, w, j) =
        let is : s ≡ service_byte k ∷ (w.rest ++ t) = j ∙ ap (λ (x : List ℕ). x ++ t) w.is in
        rw (is, service-reads k read (w.rest ++ t)) ((laid (w.rest ++ t) m t (subst Bytes is bytes).1).1 (w.rest, w.way, refl))

whole_led_layout : {A : Type 0} {read : Reader A} {Way : A → List ℕ → Type 0} (k : Sort) → WholeLayout read Way → WholeLayout (with_service k read) (LedWay k Way)
whole_led_layout {A} {read} {Way} k laid s m t bytes = (there, back)
  where
    there : with_service k read s ≡ accepted (m leaving t) → LedWay k Way m s × (t ≡ [])
    there e =
        let (r, j, f) = service-is k read s m t e in
        let (way, none) = (laid r m t (subst Bytes j bytes).1).0 f in
        (record { rest = r; way = way; is = j }, none)

    back : LedWay k Way m s × (t ≡ []) → with_service k read s ≡ accepted (m leaving t)
    back (w, none) = rw (w.is, service-reads k read w.rest) ((laid w.rest m t (subst Bytes w.is bytes).1).1 (w.way, none))

pub request_message_layout : Layout (with_service file_request read_request) (LedWay file_request RequestWay)
request_message_layout = led_layout file_request request_layout

pub response_message_layout : Layout (with_service file_response read_response) (LedWay file_response ResponseWay)
response_message_layout = led_layout file_response response_layout

pub routine_request_message_layout : WholeLayout (with_service routine_request read_routine_request) (LedWay routine_request RoutineRequestWay)
routine_request_message_layout = whole_led_layout routine_request routine_request_layout

pub routine_response_message_layout : WholeLayout (with_service routine_response read_routine_response) (LedWay routine_response RoutineResponseWay)
routine_response_message_layout = whole_led_layout routine_response routine_response_layout

-- ---- demand 3
-- what is written with a service byte is that byte and what is written without it
led-is : (k : Sort) (o : Answer (List ℕ)) (u : List ℕ) → led k o ≡ accepted u → (v : List ℕ) × (u ≡ service_byte k ∷ v) × (o ≡ accepted v)
led-is k (accepted v) u e = (v, cc, refl)
led-is k (refused r) u e = absurd (never e)

-- demand 3 of a sort without its service byte is demand 3 of whole messages
module _ {A : Type 0} (k : Sort) (read : Reader A) (write : A → Answer (List ℕ)) (d : Demand3 A read (rewriting read write)) where
  message_behind : {s : List ℕ} {a : A} → Message A (with_service k read) s a → (r : List ℕ) × (s ≡ service_byte k ∷ r) × Message A read r a
  message_behind {s} {a} m =
      let (r, j, e) = service-is k read s a [] m.whole in
      (r, j, record { bytes = (subst Bytes j m.bytes).1; whole = e })

  whole-message : {s r : List ℕ} {a : A} → s ≡ service_byte k ∷ r → Message A read r a → Message A (with_service k read) s a
  whole-message {s} {r} j m = rw j (record { bytes = (small_service k, m.bytes); whole = service-reads k read r ∙ m.whole })

  rewrites : {r v t : List ℕ} {m : A} → read r ≡ accepted (m leaving t) → write m ≡ accepted v → [] ≡ t → Rewritten (rewriting read write) r v
  unfolding rewriting ◌>>=◌ give
  rewrites e₁ e₂ none = record { is = rw (e₁, e₂, ← none) }

  rewritten_behind : {s u : List ℕ} (r : List ℕ) → s ≡ service_byte k ∷ r → Rewritten (rewrite_with_service k read write) s u
      → (v : List ℕ) × (u ≡ service_byte k ∷ v) × Rewritten (rewriting read write) r v
  unfolding rewriting ◌>>=◌
  rewritten_behind {s} {u} r j w =
      let e : onward (read r) (λ (m : A). hand_out (led k (write m))) ≡ accepted (u leaving []) =
      ap (λ (o : Answer (Read A)). onward o (λ (m : A). hand_out (led k (write m)))) (sym (service-reads k read r) ∙ ap (with_service k read) (sym j)) ∙ w.is in
      let (m, t, e₁, e₂) = onward-is (read r) (λ (m : A). hand_out (led k (write m))) u [] e in
      let (e₃, none) = handed_out (led k (write m)) t u [] e₂ in
      let (v, is, e₄) = led-is k (write m) u e₃ in
      (v, is, rewrites e₁ e₄ none)

  whole-rewritten : {s u r v : List ℕ} → s ≡ service_byte k ∷ r → u ≡ service_byte k ∷ v → Rewritten (rewriting read write) r v → Rewritten (rewrite_with_service k read write) s u
  unfolding rewriting ◌>>=◌ give
  whole-rewritten {s} {u} {r} {v} j i w =
      let (m, t, e₁, e₂) = onward-is (read r) (λ (m : A). hand_out (write m)) v [] w.is in
      let (e₃, none) = handed_out (write m) t v [] e₂ in
      record { is = rw (j, i, service-reads k read r, e₁, e₃, ← none) }

  led_demand_3 : Demand3 A (with_service k read) (rewrite_with_service k read write)
  led_demand_3 = record {
    always = λ {s} {a} m.
        let (r, j, n) = message_behind m in
        let (v, w) = d.always n in
        (service_byte k ∷ v, whole-rewritten j refl w);
    same = λ {s} {t} {u} {v} {a} {b} m n g h.
        let (r, j, m₁) = message_behind m in
        let (r₂, j₂, n₁) = message_behind n in
        let (u₁, i, g₁) = rewritten_behind r j g in
        let (v₁, i₂, h₁) = rewritten_behind r₂ j₂ h in
        let both = d.same m₁ n₁ g₁ h₁ in
        ((λ e. i ∙ ap (λ (x : List ℕ). service_byte k ∷ x) (both.0 e) ∙ sym i₂), (λ e. both.1 (cc)));
    kept = λ {s} {u} {a} m g.
        let (r, j, m₁) = message_behind m in
        let (u₁, i, g₁) = rewritten_behind r j g in
        whole-message i (d.kept m₁ g₁);
    settled = λ {s} {u} {a} m g.
        let (r, j, m₁) = message_behind m in
        let (u₁, i, g₁) = rewritten_behind r j g in
        whole-rewritten i i (d.settled m₁ g₁);
    shortest = λ {s} {t} {u} {a} m g n.
        let (r, j, m₁) = message_behind m in
        let (u₁, i, g₁) = rewritten_behind r j g in
        let (r₂, j₂, n₁) = message_behind n in
        let least = d.shortest m₁ g₁ n₁ in
        omega (arith, ap length i, ap length j₂);
    no_other = λ {s} {t} {u} {a} m g n l.
        let (r, j, m₁) = message_behind m in
        let (u₁, i, g₁) = rewritten_behind r j g in
        let (r₂, j₂, n₁) = message_behind n in
        let as_long : length r₂ ≡ length u₁ = omega (arith, sym (ap length j₂) ∙ l ∙ ap length i) in
        j₂ ∙ ap (λ (x : List ℕ). service_byte k ∷ x) (d.no_other m₁ g₁ n₁ as_long) ∙ sym i;
  }

-- demand 3 holds of whole file transfer messages
pub request_message_demand_3 : Demand3 Request (with_service file_request read_request) (rewrite_with_service file_request read_request write_request)
unfolding rewrite_request
request_message_demand_3 = led_demand_3 file_request read_request write_request request_demand_3

pub response_message_demand_3 : Demand3 Response (with_service file_response read_response) (rewrite_with_service file_response read_response write_response)
unfolding rewrite_response
response_message_demand_3 = led_demand_3 file_response read_response write_response response_demand_3

-- ---- what a message is read as
-- the sort of what was read
abbrev sort_of : WholeMessage → Sort
sort_of (a_file_request m) = file_request
sort_of (a_routine_request m) = routine_request
sort_of (a_file_response m) = file_response
sort_of (a_routine_response m) = routine_response
sort_of (a_negative_answer m) = negative_answer

-- what was given in the end is of the sort that gives it
given_sort : {A : Type 0} (k : Sort) (read : Reader A) (make : A → WholeMessage) → ((a : A) → sort_of (make a) ≡ k)
    → (r : List ℕ) (x : WholeMessage) (t : List ℕ) → (read >>= (λ (a : A). give (make a))) r ≡ accepted (x leaving t) → sort_of x ≡ k
unfolding ◌>>=◌ give
given_sort {A} k read make of r x t e =
    let (a, t₁, e₁, e₂) = onward-is (read r) (λ (a : A). give (make a)) x t e in
    let is : make a ≡ x = cc in
    ap sort_of (sym is) ∙ of a

after_sort : (k : Sort) (r : List ℕ) (x : WholeMessage) (t : List ℕ) → read_after_service k r ≡ accepted (x leaving t) → sort_of x ≡ k
after_sort file_request = given_sort file_request read_request a_file_request (λ a. refl)
after_sort routine_request = given_sort routine_request read_routine_request a_routine_request (λ a. refl)
after_sort file_response = given_sort file_response read_response a_file_response (λ a. refl)
after_sort routine_response = given_sort routine_response read_routine_response a_routine_response (λ a. refl)
after_sort negative_answer = λ r. given_sort negative_answer read_negative a_negative_answer (λ a. refl) (service_byte negative_answer ∷ r)

reads_sort : (b : ℕ) (k : Sort) → known_sort b ≡ accepted k → service_byte k ≡ b
unfolding known_sort give
reads_sort b k e = ((reads-one-of service_byte (λ (_ : ℕ). unknown_service 0) sorts each_sort b).sound [] k [] tt (rw e)).1.is

-- a message that is accepted begins with the service byte of its sort
begins : (s : List ℕ) (x : WholeMessage) (t : List ℕ) → read_message s ≡ accepted (x leaving t)
    → (r : List ℕ) × (s ≡ service_byte (sort_of x) ∷ r) × (read_after_service (sort_of x) r ≡ accepted (x leaving t))
unfolding read_message ◌>>=◌
begins s x t e =
    let (b, r, e₁, e₂) = onward-is (byte s) _ x t e in
    let (k, r₂, e₃, e₄) = onward-is (hand_out (known_sort b) r) read_after_service x t e₂ in
    let (e₅, same) = handed_out (known_sort b) r k r₂ e₃ in
    let e₆ : read_after_service k r ≡ accepted (x leaving t) = ap (read_after_service k) (sym same) ∙ e₄ in
    let of = after_sort k r x t e₆ in
    (r, byte-is s b r e₁ ∙ ap (λ (c : ℕ). c ∷ r) (sym (reads_sort b k e₅) ∙ ap service_byte (sym of)), ap (λ (i : Sort). read_after_service i r) of ∙ e₆)

-- a message is read as a sort's exactly if it is one: its service byte, and then what its own reader says
read_as : {A : Type 0} (k : Sort) (read : Reader A) (make : A → WholeMessage) → ((a : A) → sort_of (make a) ≡ k) → ((a m : A) → make a ≡ make m → a ≡ m)
    → ((r : List ℕ) → read_after_service k r ≡ (read >>= (λ (a : A). give (make a))) r)
    → (s : List ℕ) (m : A) (t : List ℕ) → (read_message s ≡ accepted (make m leaving t)) ↔ (with_service k read s ≡ accepted (m leaving t))
read_as {A} k read make of only steps s m t = (there, back)
  where
    there : read_message s ≡ accepted (make m leaving t) → with_service k read s ≡ accepted (m leaving t)
    there e =
        let (r, j, f) = begins s (make m) t e in
        let g = sym (steps r) ∙ ap (λ (i : Sort). read_after_service i r) (sym (of m)) ∙ f in
        ap (with_service k read) (j ∙ ap (λ (i : Sort). service_byte i ∷ r) (of m)) ∙ service-reads k read r ∙ made_from read make m t (λ a. only a m) r g

    back : with_service k read s ≡ accepted (m leaving t) → read_message s ≡ accepted (make m leaving t)
    back e = let (r, j, f) = service-is k read s m t e in ap read_message j ∙ sort_reads k r ∙ steps r ∙ made_to read make m t r f

pub file-request-read : (s : List ℕ) (m : Request) (t : List ℕ) → (read_message s ≡ accepted (a_file_request m leaving t)) ↔ (with_service file_request read_request s ≡ accepted (m leaving t))
file-request-read = read_as file_request read_request a_file_request (λ a. refl) (λ a m e. cc) (λ r. refl)

pub routine-request-read : (s : List ℕ) (m : RoutineRequest) (t : List ℕ)
    → (read_message s ≡ accepted (a_routine_request m leaving t)) ↔ (with_service routine_request read_routine_request s ≡ accepted (m leaving t))
routine-request-read = read_as routine_request read_routine_request a_routine_request (λ a. refl) (λ a m e. cc) (λ r. refl)

pub file-response-read : (s : List ℕ) (m : Response) (t : List ℕ) → (read_message s ≡ accepted (a_file_response m leaving t)) ↔ (with_service file_response read_response s ≡ accepted (m leaving t))
file-response-read = read_as file_response read_response a_file_response (λ a. refl) (λ a m e. cc) (λ r. refl)

pub routine-response-read : (s : List ℕ) (m : RoutineResponse) (t : List ℕ)
    → (read_message s ≡ accepted (a_routine_response m leaving t)) ↔ (with_service routine_response read_routine_response s ≡ accepted (m leaving t))
routine-response-read = read_as routine_response read_routine_response a_routine_response (λ a. refl) (λ a m e. cc) (λ r. refl)

-- a negative answer counts its service byte, which is 0x7F
pub negative-read : (s : List ℕ) (m : Negative) (t : List ℕ)
    → (read_message s ≡ accepted (a_negative_answer m leaving t)) ↔ ((r : List ℕ) × (s ≡ 0x7F ∷ r) × (read_negative s ≡ accepted (m leaving t)))
negative-read s m t = (there, back)
  where
    there : read_message s ≡ accepted (a_negative_answer m leaving t) → (r : List ℕ) × (s ≡ 0x7F ∷ r) × (read_negative s ≡ accepted (m leaving t))
    there e = let (r, j, f) = begins s (a_negative_answer m) t e in (r, j, ap read_negative j ∙ made_from read_negative a_negative_answer m t (λ a i. cc) (0x7F ∷ r) f)

    back : (r : List ℕ) × (s ≡ 0x7F ∷ r) × (read_negative s ≡ accepted (m leaving t)) → read_message s ≡ accepted (a_negative_answer m leaving t)
    back (r, j, e) = ap read_message j ∙ sort_reads negative_answer r ∙ made_to read_negative a_negative_answer m t (0x7F ∷ r) (ap read_negative (sym j) ∙ e)

-- a service byte that is none of the five is 15
pub other_service : (b : ℕ) (r : List ℕ) → ((k : Sort) → service_byte k ≡ b → ⊥) → read_message (b ∷ r) ≡ refused (unknown_service 0)
unfolding read_message ◌>>=◌ byte refuse known_sort one_of
other_service b r none =
    rw (ne_eqb 0x38 b (none file_request), ne_eqb 0x31 b (none routine_request), ne_eqb 0x78 b (none file_response), ne_eqb 0x71 b (none routine_response), ne_eqb 0x7F b (none negative_answer))

-- what is written with the service byte of a sort is read as that sort reads what is written without it
pub led-reads : (k : Sort) (o : Answer (List ℕ)) (u : List ℕ) → led k o ≡ accepted u → (v : List ℕ) × (o ≡ accepted v) × (read_message u ≡ read_after_service k v)
led-reads k o u e = let (v, is, f) = led-is k o u e in (v, f, ap read_message is ∙ sort_reads k v)

-- ---- negative answers
each-service : (k : Service) → one_of request_byte (file_transfer ∷ routine_control ∷ []) (λ (_ : ℕ). out_of_range 0) (request_byte k) ≡ accepted k
unfolding one_of
each-service file_transfer = refl
each-service routine_control = refl

known-service : (b : ℕ) (k : Service) → known_service b ≡ accepted k → request_byte k ≡ b
unfolding known_service give
known-service b k e = ((reads-one-of request_byte (λ (_ : ℕ). out_of_range 0) (file_transfer ∷ routine_control ∷ []) each-service b).sound [] k [] tt (rw e)).1.is

no-more : (s : List ℕ) (x : Unit {0}) (t : List ℕ) → no_more s ≡ accepted (x leaving t) → (s ≡ []) × (t ≡ [])
unfolding no_more
no-more [] x t e = (refl, cc)
no-more (b ∷ s) x t e = absurd (never e)

three_of : (x : List ℕ) → length x ≡ 3 → x ≡ get_or x 0 0 ∷ get_or x 1 0 ∷ get_or x 2 0 ∷ []
three_of [] h = absurd (omega arith)
three_of (a ∷ x) h = ap (λ (l : List ℕ). a ∷ l) (two_of x (omega arith))

-- the bytes of a negative answer that is accepted, and how its code is marked
negative-is : (s : List ℕ) (m : Negative) (t : List ℕ) → read_negative s ≡ accepted (m leaving t)
    → (b : ℕ) × (s ≡ b ∷ request_byte m.service ∷ m.code ∷ []) × (m ≡ negative m.service m.code) × (t ≡ [])
unfolding read_negative ◌>>=◌ give
negative-is s m t e =
    let (x, t₁, e₁, f₁) = onward-is (part 3 s) _ m t e in
    let (y, t₂, e₂, f₂) = onward-is (no_more t₁) _ m t f₁ in
    let (k, t₃, e₃, f₃) = onward-is (hand_out (known_service (get_or x 1 0)) t₂) _ m t f₂ in
    let (e₄, same) = handed_out (known_service (get_or x 1 0)) t₂ k t₃ e₃ in
    let (long, j) = part-is 3 s x t₁ e₁ in
    let (none, none₂) = no-more t₁ y t₂ e₂ in
    let byte₂ = known-service (get_or x 1 0) k e₄ in
    let is : negative k (get_or x 2 0) ≡ m = cc in
    let last : t ≡ [] = cc in
    let whole : s ≡ get_or x 0 0 ∷ request_byte k ∷ get_or x 2 0 ∷ [] =
    j ∙ ap (λ (l : List ℕ). x ++ l) none ∙ append-nil x ∙ three_of x long ∙ ap (λ (b : ℕ). get_or x 0 0 ∷ b ∷ get_or x 2 0 ∷ []) (sym byte₂) in
    (get_or x 0 0, subst (λ (n : Negative). s ≡ get_or x 0 0 ∷ request_byte n.service ∷ n.code ∷ []) is whole, subst (λ (n : Negative). n ≡ negative n.service n.code) is refl, last)

-- the three bytes that are written, and what they are read as
negative-bytes : (k : Service) (c : ℕ) → write_negative (request_byte k) c ≡ accepted (0x7F ∷ request_byte k ∷ c ∷ [])
unfolding write_negative known_service
negative-bytes k c = rw (each-service k)

negative_back : (k : Service) (c : ℕ) → read_message (0x7F ∷ request_byte k ∷ c ∷ []) ≡ accepted (a_negative_answer (negative k c) leaving [])
unfolding read_message read_negative ◌>>=◌ byte part give no_more known_sort known_service one_of
negative_back file_transfer c = refl
negative_back routine_control c = refl

-- each gives back the other: a message is read as a negative answer exactly if that is written as the message, with nothing left over and the code marked by its service's list
pub negative_round : (s : List ℕ) (m : Negative) (t : List ℕ) → (read_message s ≡ accepted (a_negative_answer m leaving t))
    ↔ ((write_message (a_negative_answer m) ≡ accepted s) × (m.listed ≡ stands m.code (list_of m.service)) × (t ≡ []))
unfolding write_message
negative_round s m t = (there, back)
  where
    there : read_message s ≡ accepted (a_negative_answer m leaving t) → (write_negative (request_byte m.service) m.code ≡ accepted s) × (m.listed ≡ stands m.code (list_of m.service)) × (t ≡ [])
    there e =
        let (r, j, f) = (negative-read s m t).0 e in
        let (b, is, marked, none) = negative-is s m t f in
        let first : b ≡ 0x7F = cc in
        (negative-bytes m.service m.code ∙ ap accepted (sym (is ∙ ap (λ (x : ℕ). x ∷ request_byte m.service ∷ m.code ∷ []) first)), ap (λ (n : Negative). n.listed) marked, none)

    back : (write_negative (request_byte m.service) m.code ≡ accepted s) × (m.listed ≡ stands m.code (list_of m.service)) × (t ≡ []) → read_message s ≡ accepted (a_negative_answer m leaving t)
    back (e, marked, none) =
        let first = negative-bytes m.service m.code in
        let is : s ≡ 0x7F ∷ request_byte m.service ∷ m.code ∷ [] = cc in
        let mark : negative m.service m.code ≡ m = ap (λ (b : Bool). record { service = m.service; code = m.code; listed = b }) (sym marked) in
        ap read_message is ∙ negative_back m.service m.code ∙ ap₂ (λ (n : Negative) (l : List ℕ). accepted (a_negative_answer n leaving l)) mark (sym none)

-- a negative answer to the service of a byte, as it is written, is read back with that service and the code
pub negative-written : (b c : ℕ) (u : List ℕ) → write_negative b c ≡ accepted u → (k : Service) × (request_byte k ≡ b) × (read_message u ≡ accepted (a_negative_answer (negative k c) leaving []))
unfolding write_negative
negative-written b c u e =
    let (v, is, f) = led-is negative_answer (known_service b then accepted (b ∷ c ∷ [])) u e in
    let (k, known, g) = then_passed (known_service b) (accepted (b ∷ c ∷ [])) f in
    let of = known-service b k known in
    let rest : v ≡ b ∷ c ∷ [] = cc in
    (k, of, ap read_message (is ∙ ap (λ (l : List ℕ). 0x7F ∷ l) rest ∙ ap (λ (x : ℕ). 0x7F ∷ x ∷ c ∷ []) (sym of)) ∙ negative_back k c)
