-- Routine messages: what is accepted is laid out as document 01 says and the other way round, and what is written reads back.
-- Assumes nothing.
use mathlib.Core.Path.{◌≡◌, refl, ap, sym, subst, ◌∙◌}
use Prim.Native.Nat.{ℕ, ◌+◌, ◌%◌, ◌≤◌, ◌<◌}
use mathlib.Core.Bool.{Bool, true, false}
use mathlib.Core.List.{List, [], ◌∷◌}
use mathlib.Core.Logic.{◌↔◌}
use native.Mathlib.Omega.{arith}
use borrow.Author.Tests.{leb-true, leb-false, le-leb, lt-leb}
use lib.Dec.{leb}
use lib.ListN.{length, get_or, drop, length-drop}
use Rattle.paper.specs.Choice.{pick}
use Rattle.paper.specs.Answer.{wrong_format, unknown_sub_function, accepted, refused, ◌leaving◌, Reader, onward, ◌>>=◌, give, hand_out}
use Rattle.paper.specs.Bytes.{Bytes, of_bytes, to_bytes}
use Rattle.paper.specs.Kind.{one_of}
use Rattle.paper.specs.Rewriting.{WholeLayout, Message}
use Rattle.paper.specs.RoutineControl.{SubFunction, start_routine, stop_routine, request_routine_results, byte_of, sub_functions, known_sub}
use Rattle.paper.specs.RoutineControl.{RoutineRequest, RoutineResponse, RoutineBytes, routine_bytes, whole_rest, read_routine_request}
use Rattle.paper.specs.RoutineControl.{read_routine_response, routine_request_bytes, routine_response_bytes, routine_laid, control_byte}
use Rattle.paper.specs.RoutineControl.{RoutineRequestWay, RoutineResponseWay, write_routine_request, write_routine_response}
use Rattle.paper.proofs.Bytes.{bytes-right, bytes_append, below_length, of_length, of_to, length_to_bytes, bytes-to_bytes}
use Rattle.paper.proofs.Codec.{Wire, Reads, Then, onward-is, reads_as, reads_map, Kept, always}
use Rattle.paper.proofs.Fields.{Part, reads-part, Coded, reads-one-of}

-- ---- a reader that takes the whole rest
-- p accepts just the ways to write a, and leaves nothing
record ReadsAll (A : Type 0) (p : Reader A) (W : Wire A) : Type 0 where
  sound : (s : List ℕ) (a : A) (t : List ℕ) → Bytes s → p s ≡ accepted (a leaving t) → W a s × (t ≡ [])
  complete : (a : A) (u : List ℕ) → W a u → p u ≡ accepted (a leaving [])

-- the rest, as it is
record Rest (B : Type 0) (g : List ℕ → B) (b : B) (u : List ℕ) : Type 0 where
  bytes : Bytes u
  is : b ≡ g u

all_rest : {B : Type 0} (g : List ℕ → B) → ReadsAll B (whole_rest >>= (λ (r : List ℕ). give (g r))) (Rest B g)
unfolding ◌>>=◌ whole_rest give
all_rest g = record {
  sound = λ s b t h e. (record { bytes = h; is = cc }, cc);
  complete = λ b u v. rw v.is;
}

all_then : {A B : Type 0} {p : Reader A} {X : Wire A} {k : A → Reader B} {W : A → Wire B}
    → Reads A p X → ((a : A) → ReadsAll B (k a) (W a)) → ReadsAll B (p >>= k) (Then A B X W)
unfolding ◌>>=◌
all_then {A} {B} {p} {X} {k} {W} r q = record { sound = sound; complete = complete }
  where
    sound : (s : List ℕ) (b : B) (t : List ℕ) → Bytes s → onward (p s) k ≡ accepted (b leaving t) → Then A B X W b s × (t ≡ [])
    sound s b t h f =
        let (a, t₁, e, g) = onward-is (p s) k b t f in
        let (u, v, j) = r.sound s a t₁ h e in
        let (v₂, none) = (q a).sound t₁ b t (bytes-right u t₁ (subst Bytes j h)) g in
        (record { first = a; front = u; back = t₁; one = v; two = v₂; joined = j }, none)

    complete : (b : B) (u : List ℕ) → Then A B X W b u → onward (p u) k ≡ accepted (b leaving [])
    complete b u w = rw (w.joined, r.complete w.first w.front w.back w.one) ((q w.first).complete b w.back w.two)

all_layout : {A : Type 0} {p : Reader A} {X W : Wire A} → ((a : A) (u : List ℕ) → X a u ↔ W a u) → ReadsAll A p X → WholeLayout p W
all_layout i r s m t b = (
  (λ e. let (v, none) = r.sound s m t b e in ((i m s).0 v, none)),
  (λ v. rw v.1 (r.complete m s ((i m s).1 v.0))),
)

-- ---- the three routine bytes
record Head (h : RoutineBytes) (u : List ℕ) : Type 0 where
  control : h.control < 256
  identifier : h.identifier < 65536
  is : u ≡ h.control ∷ to_bytes 2 h.identifier

first_and_rest : (x : List ℕ) → 0 < length x → x ≡ get_or x 0 0 ∷ drop 1 x
first_and_rest [] h = absurd (omega arith)
first_and_rest (a ∷ x) h = refl

reads-routine-bytes : Reads RoutineBytes routine_bytes Head
unfolding routine_bytes
reads-routine-bytes = reads_as (λ h u. (there h u, back h u)) (reads_map g (reads-part 3))
  where
    g : List ℕ → RoutineBytes
    g x = record { control = get_or x 0 0; identifier = of_bytes (drop 1 x) }

    there : (h : RoutineBytes) (u : List ℕ) → Kept (List ℕ) RoutineBytes always g (Part 3) h u → Head h u
    there h u v =
        let x : List ℕ = v.from in
        let split : x ≡ get_or x 0 0 ∷ drop 1 x = first_and_rest x (omega (arith, v.way.long)) in
        let plain : Bytes (get_or x 0 0 ∷ drop 1 x) = subst Bytes split v.way.plain in
        let long : length (drop 1 x) ≡ 2 = rw length-drop (omega (arith, v.way.long)) in
        subst (λ (i : RoutineBytes). Head i u) (sym v.is)
        (record {
          control = plain.0;
          identifier = below_length 2 (drop 1 x) plain.1 long;
          is = v.way.is ∙ split ∙ ap (λ (l : List ℕ). get_or x 0 0 ∷ l) (sym (of_length 2 (drop 1 x) plain.1 long));
        })

    back : (h : RoutineBytes) (u : List ℕ) → Head h u → Kept (List ℕ) RoutineBytes always g (Part 3) h u
    back h u v = record {
      from = h.control ∷ to_bytes 2 h.identifier;
      passed = refl;
      is = ap (λ (n : ℕ). record { control = h.control; identifier = n }) (sym (of_to 2 h.identifier v.identifier));
      way = record { long = ap Prim.Native.Nat.suc (length_to_bytes 2 h.identifier); plain = (v.control, bytes-to_bytes 2 h.identifier v.identifier); is = v.is };
    }

-- ---- sub-functions
each_sub : (f : SubFunction) → one_of byte_of sub_functions unknown_sub_function (byte_of f) ≡ accepted f
unfolding one_of
each_sub start_routine = refl
each_sub stop_routine = refl
each_sub request_routine_results = refl

reads_sub : (b : ℕ) → Reads SubFunction (hand_out (known_sub b)) (Coded SubFunction byte_of b)
unfolding known_sub
reads_sub b = reads-one-of byte_of unknown_sub_function sub_functions each_sub b

-- a byte is its top bit and its low seven bits, and the other way round
control-is : (c : ℕ) → c < 256 → pick (leb 128 c) 128 0 + c % 128 ≡ c
control-is c h = go (leb 128 c) refl
  where
    go : (t : Bool) → leb 128 c ≡ t → pick t 128 0 + c % 128 ≡ c
    go true e = omega (arith, leb-true 128 c e)
    go false e = omega (arith, leb-false 128 c e)

record Control (suppress : Bool) (f : SubFunction) : Type 0 where
  small : control_byte suppress f < 256
  top : leb 128 (control_byte suppress f) ≡ suppress
  low : byte_of f ≡ control_byte suppress f % 128

control : (suppress : Bool) (f : SubFunction) → Control suppress f
control true start_routine = record { small = omega arith; top = refl; low = refl }
control true stop_routine = record { small = omega arith; top = refl; low = refl }
control true request_routine_results = record { small = omega arith; top = refl; low = refl }
control false start_routine = record { small = omega arith; top = refl; low = refl }
control false stop_routine = record { small = omega arith; top = refl; low = refl }
control false request_routine_results = record { small = omega arith; top = refl; low = refl }

-- ---- both sorts of message
-- a message of either sort: which bits of the first byte are judged, and what is made of its parts
module _ (M : Type 0) (judged : ℕ → ℕ) (made : RoutineBytes → SubFunction → List ℕ → M) where
  -- the parts of a message m, and the bytes that they are laid out as
  record Parts (m : M) (u : List ℕ) : Type 0 where
    head : RoutineBytes
    sub : SubFunction
    rest : List ℕ
    small : head.control < 256
    identifier : head.identifier < 65536
    bytes : Bytes rest
    judging : byte_of sub ≡ judged head.control
    is : m ≡ made head sub rest
    laid : u ≡ routine_laid head.control head.identifier rest

  Steps : Wire M
  Steps = Then RoutineBytes M Head (λ (h : RoutineBytes). Then SubFunction M (Coded SubFunction byte_of (judged h.control)) (λ (f : SubFunction). Rest M (made h f)))

  there : (m : M) (u : List ℕ) → Steps m u → Parts m u
  unfolding Steps
  there m u v = record {
    head = v.first;
    sub = v.two.first;
    rest = v.two.back;
    small = v.one.control;
    identifier = v.one.identifier;
    bytes = v.two.two.bytes;
    judging = v.two.one.is;
    is = v.two.two.is;
    laid = rw (v.joined, v.one.is, v.two.joined, v.two.one.none);
  }

  back : (m : M) (u : List ℕ) → Parts m u → Steps m u
  unfolding Steps
  back m u v = record {
    first = v.head;
    front = v.head.control ∷ to_bytes 2 v.head.identifier;
    back = v.rest;
    one = record { control = v.small; identifier = v.identifier; is = refl };
    two = record { first = v.sub; front = []; back = v.rest; one = record { is = v.judging; none = refl }; two = record { bytes = v.bytes; is = v.is }; joined = refl };
    joined = v.laid;
  }

  reads_routine : {W : Wire M} → ((m : M) (u : List ℕ) → Parts m u ↔ W m u)
      → WholeLayout (routine_bytes >>= (λ (h : RoutineBytes). hand_out (known_sub (judged h.control)) >>= (λ (f : SubFunction). whole_rest >>= (λ (r : List ℕ). give (made h f r))))) W
  unfolding Steps
  reads_routine i =
      all_layout (λ m u. ((λ v. (i m u).0 (there m u v)), (λ v. back m u ((i m u).1 v))))
      (all_then reads-routine-bytes (λ h. all_then (reads_sub (judged h.control)) (λ f. all_rest (made h f))))

-- ---- requests
abbrev request_of : RoutineBytes → SubFunction → List ℕ → RoutineRequest
request_of h f r = record { suppress = leb 128 h.control; sub_function = f; identifier = h.identifier; «record» = r }

request_there : (m : RoutineRequest) (u : List ℕ) → Parts RoutineRequest (λ (c : ℕ). c % 128) request_of m u → RoutineRequestWay m u
unfolding routine_request_bytes
request_there m u v =
    subst (λ (r : RoutineRequest). RoutineRequestWay r u) (sym v.is)
    (record {
      identifier = v.identifier;
      bytes = v.bytes;
      is = v.laid ∙ ap (λ (c : ℕ). routine_laid c v.head.identifier v.rest) (sym (rw v.judging (control-is v.head.control v.small)));
    })

request-back : (m : RoutineRequest) (u : List ℕ) → RoutineRequestWay m u → Parts RoutineRequest (λ (c : ℕ). c % 128) request_of m u
unfolding routine_request_bytes
request-back m u v =
    let c = control m.suppress m.sub_function in
    record {
      head = record { control = control_byte m.suppress m.sub_function; identifier = m.identifier };
      sub = m.sub_function;
      rest = m.«record»;
      small = c.small;
      identifier = v.identifier;
      bytes = v.bytes;
      judging = c.low;
      is = ap (λ (b : Bool). record { suppress = b; sub_function = m.sub_function; identifier = m.identifier; «record» = m.«record» }) (sym c.top);
      laid = v.is;
    }

-- a routine request is accepted with value m exactly if it is m's one way of being written; the tail is empty
pub routine_request_layout : WholeLayout read_routine_request RoutineRequestWay
unfolding read_routine_request
routine_request_layout = reads_routine RoutineRequest (λ (c : ℕ). c % 128) request_of (λ m u. (request_there m u, request-back m u))

-- ---- responses
abbrev response_of : RoutineBytes → SubFunction → List ℕ → RoutineResponse
response_of h f r = record { sub_function = f; identifier = h.identifier; «record» = r }

response_there : (m : RoutineResponse) (u : List ℕ) → Parts RoutineResponse (λ (c : ℕ). c) response_of m u → RoutineResponseWay m u
unfolding routine_response_bytes
response_there m u v =
    subst (λ (r : RoutineResponse). RoutineResponseWay r u) (sym v.is)
    (record { identifier = v.identifier; bytes = v.bytes; is = rw v.judging v.laid })

response-back : (m : RoutineResponse) (u : List ℕ) → RoutineResponseWay m u → Parts RoutineResponse (λ (c : ℕ). c) response_of m u
unfolding routine_response_bytes
response-back m u v =
    record {
      head = record { control = byte_of m.sub_function; identifier = m.identifier };
      sub = m.sub_function;
      rest = m.«record»;
      small = omega (arith, (control false m.sub_function).small);
      identifier = v.identifier;
      bytes = v.bytes;
      judging = refl;
      is = refl;
      laid = v.is;
    }

-- a routine response is accepted with value m exactly if it is m's one way of being written; the tail is empty
pub routine_response_layout : WholeLayout read_routine_response RoutineResponseWay
unfolding read_routine_response
routine_response_layout = reads_routine RoutineResponse (λ (c : ℕ). c) response_of (λ m u. (response_there m u, response-back m u))

-- ---- writing
bytes-laid : (b n : ℕ) (r : List ℕ) → b < 256 → n < 65536 → Bytes r → Bytes (routine_laid b n r)
bytes-laid b n r small fits plain = (small, bytes_append (to_bytes 2 n) r (bytes-to_bytes 2 n fits) plain)

-- a routine request with a record of at most 65,535 bytes is written in its one way, and what is written reads back with the same fields and nothing left over
pub request_round : (m : RoutineRequest) (u : List ℕ) → RoutineRequestWay m u → length m.«record» ≤ 65535
    → (write_routine_request m ≡ accepted u) × Message RoutineRequest read_routine_request u m
unfolding write_routine_request routine_request_bytes
request_round m u v few =
    let bytes : Bytes u = rw v.is (bytes-laid _ m.identifier m.«record» (control m.suppress m.sub_function).small v.identifier v.bytes) in
    (rw (le-leb _ _ few, v.is), record { bytes = bytes; whole = (routine_request_layout u m [] bytes).1 (v, refl) })

-- a longer record is refused
pub request-too-long : (m : RoutineRequest) → 65535 < length m.«record» → write_routine_request m ≡ refused (wrong_format 0)
unfolding write_routine_request
request-too-long m many = rw (lt-leb _ _ many)

-- the same of a routine response
pub response_round : (m : RoutineResponse) (u : List ℕ) → RoutineResponseWay m u → length m.«record» ≤ 65535
    → (write_routine_response m ≡ accepted u) × Message RoutineResponse read_routine_response u m
unfolding write_routine_response routine_response_bytes
response_round m u v few =
    let small : byte_of m.sub_function < 256 = omega (arith, (control false m.sub_function).small) in
    let bytes : Bytes u = rw v.is (bytes-laid _ m.identifier m.«record» small v.identifier v.bytes) in
    (rw (le-leb _ _ few, v.is), record { bytes = bytes; whole = (routine_response_layout u m [] bytes).1 (v, refl) })

pub response-too-long : (m : RoutineResponse) → 65535 < length m.«record» → write_routine_response m ≡ refused (wrong_format 0)
unfolding write_routine_response
response-too-long m many = rw (lt-leb _ _ many)
