-- Document 02, Req 13: what joined messages are taken apart to. A reader that takes its own, whatever follows, makes its messages joinable; requests and responses are,
-- routine messages are not. Taking a joined buffer apart gives the lengths of its requests, and each buffer that is taken apart is such a join.
-- Assumes nothing.
use mathlib.Core.Path.{◌≡◌, refl, ap, ap₂, sym, subst, ◌∙◌}
use Prim.Native.Nat.{ℕ, zero, suc, ◌+◌, ◌-◌, ◌≤◌, ◌<◌}
use mathlib.Core.List.{List, [], ◌∷◌, ◌++◌, map, append_assoc, append-nil, append_cancel_right}
use native.Mathlib.Nat.{zero-add, suc-add}
use native.Mathlib.Omega.{arith}
use lib.ListN.{length, replicate, length-append, length-map}
use Rattle.paper.specs.Answer.{Refusal, too_many, Answer, accepted, refused, Read, ◌leaving◌, Reader, ◌>>=◌}
use Rattle.paper.specs.Bytes.{Bytes}
use Rattle.paper.specs.Field.{byte}
use Rattle.paper.specs.Rewriting.{Rewritten, Demand3}
use Rattle.paper.specs.Request.{Request, read_request, rewrite_request}
use Rattle.paper.specs.Response.{Response, read_response, rewrite_response}
use Rattle.paper.specs.Batch.{messages, joined, number_of, batch_numbers}
use Rattle.paper.specs.Joined.{TakesItsOwn, Whole, FromRewriting, Each, Joinable, Pieces, one_piece, pieces, pieces_of, piece_lengths, Ends, with_the_buffer, at_a_piece, at_the_most, Parts, TakenApartTo, OneRequest}
use Rattle.paper.proofs.Batch.{messages-joined, lengths_add_up, joined-read}
use Rattle.paper.proofs.Choice.{never, then_passed}
use Rattle.paper.proofs.Bytes.{bytes-right}
use Rattle.paper.proofs.Codec.{Wire, Reads, message}
use Rattle.paper.proofs.Request.{reads-request, request-longest, request_demand_3}
use Rattle.paper.proofs.Response.{reads-response, response_demand_3}

-- ---- what makes it so
-- a reader of just the ways to write, whatever follows them, takes its own, where it refuses no bytes
pub takes_its_own : {A : Type 0} {p : Reader A} {W : Wire A} → Reads A p W → ((a : A) (t : List ℕ) → p [] ≡ accepted (a leaving t) → ⊥) → TakesItsOwn A p
takes_its_own {A} {p} {W} r none = record { alike = alike; some = λ {a} {t} e. none a t e }
  where
    alike : (u t : List ℕ) {a : A} → Bytes (u ++ t) → p (u ++ t) ≡ accepted (a leaving t) → (v : List ℕ) → p (u ++ v) ≡ accepted (a leaving v)
    alike u t {a} b e v =
        let (w, way, same) = r.sound (u ++ t) a t b e in
        rw (append_cancel_right u w t same) (r.complete a w v way)

-- ---- messages that are joined
some_bytes : {b : ℕ} {s : List ℕ} → [] ≡ b ∷ s → ⊥
some_bytes {b} {s} e = let z : ◌≡◌ {A = ℕ} 0 (suc (length s)) = ap length e in omega arith

module _ {A : Type 0} {read : Reader A} (o : TakesItsOwn A read) where
  -- a whole message is taken as it is, whatever follows it
  pub before_any : {s : List ℕ} (m : Whole A read s) (t : List ℕ) → read (s ++ t) ≡ accepted (m.meaning leaving t)
  before_any {s} m t = o.alike s [] (rw append-nil m.message.bytes) (rw append-nil m.message.whole) t

  -- it has a byte
  pub not_empty : Whole A read [] → ⊥
  not_empty m = o.some m.message.whole

  -- so it begins no longer one
  begins_none : {s t : List ℕ} → Whole A read s → Whole A read (s ++ t) → t ≡ []
  begins_none {s} {t} m n = let e = before_any m t in let f = n.message.whole in cc

  -- the first of some messages ends where the first of the others does
  same-tail : {s r : List ℕ} (x y : List ℕ) → Whole A read s → Whole A read r → s ++ x ≡ r ++ y → x ≡ y
  same-tail x y m n e = let f = before_any m x in let g = before_any n y in cc

  same_messages : (ms ns : List (List ℕ)) → Each (Whole A read) ms → Each (Whole A read) ns → joined ms ≡ joined ns → ms ≡ ns
  unfolding joined
  same_messages [] [] w v e = refl
  same_messages [] ([] ∷ ns) w v e = absurd (not_empty v.0)
  same_messages [] ((b ∷ n) ∷ ns) w v e = absurd (some_bytes e)
  same_messages ([] ∷ ms) ns w v e = absurd (not_empty w.0)
  same_messages ((b ∷ m) ∷ ms) [] w v e = absurd (some_bytes (sym e))
  same_messages ((b ∷ m) ∷ ms) (n ∷ ns) w v e =
      let tail : joined ms ≡ joined ns = same-tail (joined ms) (joined ns) w.0 v.0 e in
      ap₂ {C = List (List ℕ)} (λ (x : List ℕ) (xs : List (List ℕ)). x ∷ xs)
      (append_cancel_right (b ∷ m) n (joined ms) (e ∙ ap (λ (t : List ℕ). n ++ t) (sym tail)))
      (same_messages ms ns w.1 v.1 tail)

  -- so messages are joinable where what a whole one is rewritten to is a whole one
  pub joinable : {rewrite : Reader (List ℕ)} → ((s u : List ℕ) → Whole A read s → Rewritten rewrite s u → Whole A read u) → Joinable A read rewrite
  joinable {rewrite} kept = record {
    begins_none = begins_none;
    same_messages = same_messages;
    same_rewritten = λ us vs w v e. same_messages us vs (all-kept us w) (all-kept vs v) e;
  }
    where
      all-kept : (us : List (List ℕ)) → Each (FromRewriting A read rewrite) us → Each (Whole A read) us
      all-kept [] w = tt
      all-kept (u ∷ us) w = (kept w.0.before u w.0.whole w.0.rewritten, all-kept us w.1)

-- by demand 3 they are
kept_whole : {A : Type 0} {read : Reader A} {rewrite : Reader (List ℕ)} → Demand3 A read rewrite → (s u : List ℕ) → Whole A read s → Rewritten rewrite s u → Whole A read u
kept_whole d s u w r = record { meaning = w.meaning; message = d.kept w.message r }

-- ---- requests and responses
pub request_takes_its_own : TakesItsOwn Request read_request
unfolding read_request ◌>>=◌ byte
request_takes_its_own = takes_its_own reads-request (λ m t e. never e)

pub response_takes_its_own : TakesItsOwn Response read_response
unfolding read_response ◌>>=◌ byte
response_takes_its_own = takes_its_own reads-response (λ m t e. never e)

pub request_joinable : Joinable Request read_request rewrite_request
request_joinable = joinable request_takes_its_own (kept_whole request_demand_3)

pub response_joinable : Joinable Response read_response rewrite_response
response_joinable = joinable response_takes_its_own (kept_whole response_demand_3)

-- ---- taken apart
abbrev pub WholeRequests : List (List ℕ) → Type 0
WholeRequests = Each (Whole Request read_request)

-- so many pieces before those of another buffer
abbrev pub before : List ℕ → Pieces → Pieces
before ls p = record { lengths = ls ++ p.lengths; ended = p.ended }

first_piece : (most b : ℕ) (m t : List ℕ) → Whole Request read_request (b ∷ m) → pieces (suc most) ((b ∷ m) ++ t) ≡ before (length (b ∷ m) ∷ []) (pieces most t)
unfolding pieces
first_piece most b m t w =
    let long : length ((b ∷ m) ++ t) - length t ≡ length (b ∷ m) = omega (arith, length-append (b ∷ m) t) in
    rw (before_any request_takes_its_own w t, long)

-- whole requests are the first pieces, whatever follows them
pub first_pieces : (most : ℕ) (ms : List (List ℕ)) (t : List ℕ) → WholeRequests ms → pieces (length ms + most) (joined ms ++ t) ≡ before (map length ms) (pieces most t)
unfolding joined
first_pieces most [] t w = rw zero-add
first_pieces most ([] ∷ ms) t w = absurd (not_empty request_takes_its_own w.0)
first_pieces most ((b ∷ m) ∷ ms) t w =
    rw (suc-add (length ms) most, append_assoc (b ∷ m) (joined ms) t, first_piece (length ms + most) b m (joined ms ++ t) w.0, first_pieces most ms t w.1)

-- what begins a buffer, or its rest: no bytes; some, and no place for a piece; a piece
pub no_bytes : (most : ℕ) → pieces most [] ≡ record { lengths = []; ended = accepted tt }
unfolding pieces
no_bytes zero = refl
no_bytes (suc most) = refl

pub no_place : (t : List ℕ) → (t ≡ [] → ⊥) → pieces 0 t ≡ record { lengths = []; ended = refused too_many }
unfolding pieces
no_place [] some = absurd (some refl)
no_place (b ∷ t) some = refl

pub piece_there : (most : ℕ) (t : List ℕ) → (t ≡ [] → ⊥) → pieces (suc most) t ≡ one_piece t (read_request t) (pieces most)
unfolding pieces
piece_there most [] some = absurd (some refl)
piece_there most (b ∷ t) some = refl

module _ (ms : List (List ℕ)) (w : WholeRequests ms) where
  -- whole requests, of which there are few enough, and then this
  pieces_and : (few : length ms ≤ 4096) (t : List ℕ) → pieces_of (joined ms ++ t) ≡ before (map length ms) (pieces (4096 - length ms) t)
  pieces_and few t = let all : 4096 ≡ length ms + (4096 - length ms) = omega arith in ap (λ (n : ℕ). pieces n (joined ms ++ t)) all ∙ first_pieces (4096 - length ms) ms t w

  -- the join of whole requests, at most 4,096 of them, is taken apart to their lengths
  pub pieces-of-joined : length ms ≤ 4096 → piece_lengths (joined ms) ≡ accepted (map length ms)
  unfolding piece_lengths
  pieces-of-joined few =
      let e : pieces_of (joined ms) ≡ before (map length ms) (pieces (4096 - length ms) []) = rw append-nil at (pieces_and few []) in
      rw (e, no_bytes (4096 - length ms), append-nil (map length ms))

  module _ (t : List ℕ) (some : t ≡ [] → ⊥) where
    -- a piece that is refused after them ends it: as many as they are were found
    pub pieces_to_refused : {e : Refusal} → length ms < 4096 → read_request t ≡ refused e → pieces_of (joined ms ++ t) ≡ record { lengths = map length ms; ended = refused e }
    pieces_to_refused {e} few r =
        let place : 4096 - length ms ≡ suc (4095 - length ms) = omega arith in
        rw (pieces_and (omega arith) t, place, piece_there (4095 - length ms) t some, r, append-nil (map length ms))

    -- whatever follows 4,096 of them is too many
    pub pieces_to_most : length ms ≡ 4096 → pieces_of (joined ms ++ t) ≡ record { lengths = map length ms; ended = refused too_many }
    pieces_to_most many =
        let place : 4096 - length ms ≡ 0 = omega arith in
        rw (pieces_and (omega arith) t, place, no_place t some, append-nil (map length ms))

-- ---- every buffer
-- no bytes, or some
ends_now : (most b : ℕ) (s : List ℕ) (e : Refusal) → Ends most 0 (b ∷ s) (refused e) → Parts most (b ∷ s) (record { lengths = []; ended = refused e })
unfolding joined
ends_now most b s e h = record { requests = []; rest = b ∷ s; whole = tt; is = refl; lengths = refl; few = omega arith; ended = h }

-- one place and one piece more
ends_more : {most found : ℕ} {rest : List ℕ} {a : Answer (Unit {0})} → Ends most found rest a → Ends (suc most) (suc found) rest a
ends_more (with_the_buffer e) = with_the_buffer e
ends_more (at_a_piece l s e) = at_a_piece (omega arith) s e
ends_more (at_the_most l s) = at_the_most (ap suc l) s

parts_piece : (most b : ℕ) (s : List ℕ) (a : Answer (Read Request)) → read_request (b ∷ s) ≡ a → Bytes (b ∷ s)
    → ((t : List ℕ) → Bytes t → Parts most t (pieces most t)) → Parts (suc most) (b ∷ s) (one_piece (b ∷ s) a (pieces most))
unfolding joined
parts_piece most b s (accepted (m leaving t)) e h more =
    let (u, way, is) = reads-request.sound (b ∷ s) m t h e in
    let p = more t (bytes-right u t (subst Bytes is h)) in
    let long : length (b ∷ s) - length t ≡ length u = omega (arith, length-append u t, ap length is) in
    record {
      requests = u ∷ p.requests;
      rest = p.rest;
      whole = (record { meaning = m; message = message reads-request u m way }, p.whole);
      is = is ∙ ap (λ (x : List ℕ). u ++ x) p.is ∙ sym (append_assoc u (joined p.requests) p.rest);
      lengths = ap₂ {C = List ℕ} (λ (n : ℕ) (ns : List ℕ). n ∷ ns) long p.lengths;
      few = omega (arith, p.few);
      ended = ends_more p.ended;
    }
parts_piece most b s (refused r) e h more = ends_now (suc most) b s r (at_a_piece (omega arith) (λ n. some_bytes (sym n)) e)

-- it is taken apart into whole requests and a rest
pub parts : (most : ℕ) (s : List ℕ) → Bytes s → Parts most s (pieces most s)
unfolding pieces joined
parts zero [] h = record { requests = []; rest = []; whole = tt; is = refl; lengths = refl; few = omega arith; ended = with_the_buffer refl }
parts (suc most) [] h = record { requests = []; rest = []; whole = tt; is = refl; lengths = refl; few = omega arith; ended = with_the_buffer refl }
parts zero (b ∷ s) h = ends_now 0 b s too_many (at_the_most refl (λ n. some_bytes (sym n)))
parts (suc most) (b ∷ s) h = parts_piece most b s (read_request (b ∷ s)) refl h (parts most)

-- what is refused after as many pieces as there may be is too many
pub most-is-too-many : {most found : ℕ} {rest : List ℕ} {a : Answer (Unit {0})} {e : Refusal} → Ends most found rest a → found ≡ most → a ≡ refused e → e ≡ too_many
most-is-too-many (with_the_buffer n) f g = absurd (never (sym g))
most-is-too-many (at_a_piece l s r) f g = absurd (omega arith)
most-is-too-many (at_the_most l s) f g = cc

-- ---- a buffer that is accepted
ended-with : {most found : ℕ} {rest : List ℕ} {a : Answer (Unit {0})} {x : Unit {0}} → Ends most found rest a → a ≡ accepted x → rest ≡ []
ended-with (with_the_buffer n) e = n
ended-with (at_a_piece l s r) e = absurd (never e)
ended-with (at_the_most l s) e = absurd (never e)

-- it was joined from whole requests of these lengths, at most 4,096
joined_from : (s ls : List ℕ) → Bytes s → piece_lengths s ≡ accepted ls → (ms : List (List ℕ)) × WholeRequests ms × (length ms ≤ 4096) × (joined ms ≡ s) × (map length ms ≡ ls)
unfolding piece_lengths
joined_from s ls h e =
    let p = parts 4096 s h in
    let (x, ended, lengths) = then_passed (pieces_of s).ended (accepted (pieces_of s).lengths) e in
    let all-of-it : s ≡ joined p.requests = p.is ∙ ap (λ (t : List ℕ). joined p.requests ++ t) (ended-with p.ended ended) ∙ append-nil (joined p.requests) in
    let same : (pieces_of s).lengths ≡ ls = cc in
    (p.requests, p.whole, p.few, sym all-of-it, sym p.lengths ∙ same)

taken_from : (ms : List (List ℕ)) (s ls : List ℕ) → WholeRequests ms → length ms ≤ 4096 → joined ms ≡ s → map length ms ≡ ls → TakenApartTo s ls
taken_from ms s ls whole few is lengths =
    let same : messages s ls ≡ ms = rw (← is, ← lengths) (messages-joined ms) in
    record {
      few = rw (← lengths, length-map) few;
      whole = rw same whole;
      again = rw same is;
      lengths = rw same lengths;
      adds_up = rw (← is, ← lengths) (lengths_add_up ms);
    }

pub taken_apart_to : (s ls : List ℕ) → Bytes s → piece_lengths s ≡ accepted ls → TakenApartTo s ls
taken_apart_to s ls h e = let (ms, whole, few, is, lengths) = joined_from s ls h e in taken_from ms s ls whole few is lengths

-- each length is that of a request
request_length : (m : List ℕ) → Whole Request read_request m → OneRequest (length m)
request_length [] w = absurd (not_empty request_takes_its_own w)
request_length (b ∷ m) w =
    let way = reads-request.sound (b ∷ m) w.meaning [] w.message.bytes w.message.whole in
    (omega arith, omega (arith, request-longest w.meaning way.0 way.1, ap length way.2, length-append way.0 []))

request-lengths : (ms : List (List ℕ)) → WholeRequests ms → Each OneRequest (map length ms)
request-lengths [] w = tt
request-lengths (m ∷ ms) w = (request_length m w.0, request-lengths ms w.1)

-- whatever ended it
pub piece-lengths : (most : ℕ) (s : List ℕ) → Bytes s → Each OneRequest (pieces most s).lengths
piece-lengths most s h = let p = parts most s h in rw p.lengths (request-lengths p.requests p.whole)

-- ---- joined, taken apart, and read in one call
all-good : (ms : List (List ℕ)) → WholeRequests ms → map number_of ms ≡ replicate (length ms) 0
unfolding number_of
all-good [] w = refl
all-good (m ∷ ms) w = rw w.0.message.whole (ap (λ (ns : List ℕ). 0 ∷ ns) (all-good ms w.1))

-- each request of a join is accepted: its number is 0
pub joined_numbers : (ms : List (List ℕ)) → length ms ≤ 4096 → WholeRequests ms → batch_numbers (joined ms) (map length ms) ≡ accepted (replicate (length ms) 0)
joined_numbers ms few w = joined-read ms few ∙ ap accepted (all-good ms w)

-- and so is each of a buffer that is taken apart
pub apart_numbers : (s ls : List ℕ) → Bytes s → piece_lengths s ≡ accepted ls → batch_numbers s ls ≡ accepted (replicate (length ls) 0)
apart_numbers s ls h e =
    let apart = taken_apart_to s ls h e in
    let many : length (messages s ls) ≡ length ls = sym (length-map (messages s ls) length) ∙ ap length apart.lengths in
    let few : length (messages s ls) ≤ 4096 = omega (arith, apart.few) in
    rw (apart.again, apart.lengths, many) at (joined_numbers (messages s ls) few apart.whole)
