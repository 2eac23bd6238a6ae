-- What was read behind the service byte, said of the whole message: each place one byte on.
-- Assumes nothing.
use mathlib.Core.Path.{◌≡◌, refl, sym, ap, ◌∙◌}
use Prim.Native.Nat.{ℕ, ◌+◌, ◌-◌, ◌≤◌, ◌<◌}
use mathlib.Core.Bool.{Bool, true, false}
use mathlib.Core.List.{List, [], ◌∷◌}
use native.Mathlib.Omega.{arith}
use borrow.Author.Tests.{eqb-true, eq-eqb}
use lib.Dec.{eqb}
use lib.ListN.{length, get_or, take, drop, length-drop}
use Rattle.std.specs.Prelude.{Result, Ok, Err}
use lib.Seq.{drop-drop, take_all, length-take-le}
use Rattle.paper.specs.Choice.{pick}
use Rattle.paper.specs.Answer.{left_over, accepted, refused, ◌leaving◌, ◌>>=◌, give, refuse, hand_out}
use Rattle.paper.specs.Bytes.{Bytes}
use Rattle.paper.specs.Field.{part, byte}
use Rattle.paper.specs.Request.{read_request}
use Rattle.paper.specs.Response.{Response, AfterMode, ended, block_and_format, after_mode, read_response, as_read, kept_after_mode}
use Rattle.paper.specs.RoutineControl.{read_routine_request, read_routine_response}
use Rattle.paper.specs.WholeMessage.{Sort, file_request, routine_request, file_response, routine_response, negative_answer, known_sort, known_service, list_of, stands, no_more, read_negative}
use Rattle.paper.specs.WholeMessage.{read_after_service, read_message}
use Rattle.paper.proofs.Places.{on, off, part-short, part_there}
use Rattle.paper.proofs.Response.{response_layout}
use Rattle.wire.specs.Refusals.{row}
use Rattle.wire.specs.Place.{bytes_at}
use Rattle.wire.specs.declared.place.Place.{Place}
use Rattle.wire.specs.declared.refusal.Refusal as wire
use Rattle.file_operation.specs.Mode.{kind_of}
use Rattle.request_file_transfer.specs.Reading as request
use Rattle.request_file_transfer.specs.declared.read.RequestFileTransferRequest.{RequestFileTransferRequest}
use Rattle.request_file_transfer_response.specs.Reading as response
use Rattle.request_file_transfer_response.specs.Reading.{block_start}
use Rattle.request_file_transfer_response.specs.declared.read.RequestFileTransferResponse.{RequestFileTransferResponse}
use Rattle.routine_control.specs.Request.{RoutineRequestRight}
use Rattle.routine_control.specs.Response.{RoutineResponseRight}
use Rattle.routine_control.specs.declared.request.RoutineControlRequest.{RoutineControlRequest}
use Rattle.routine_control.specs.declared.response.RoutineControlResponse.{RoutineControlResponse}
use Rattle.message.specs.Reading.{place_on, block_on, SortRight, MessageRight}
use Rattle.message.specs.Service.{service_of}
use Rattle.message.specs.declared.service.Service as code
use Rattle.message.specs.declared.read.Message.{Message}

-- ---- places
-- the part that `&s[1..]` lends
abbrev pub lent : List ℕ → List ℕ
lent s = take (length s - 1) (drop 1 s)

pub lent_is : (s : List ℕ) → lent s ≡ drop 1 s
lent_is s = take_all (length s - 1) (drop 1 s) (omega (arith, length-drop 1 s))

drop_on : (n : ℕ) (s : List ℕ) → drop (n + 1) s ≡ drop n (drop 1 s)
drop_on n s = let e : n + 1 ≡ 1 + n = omega arith in ap (λ (k : ℕ). drop k s) e ∙ sym (drop-drop n 1 s)

bytes_on : (s : List ℕ) (p : Place) → bytes_at s (place_on p) ≡ bytes_at (drop 1 s) p
bytes_on s p = ap (take p.len) (drop_on p.start s)

-- the empty place at 0 stays: it has no byte anywhere
block-bytes : (s : List ℕ) (p : Place) → (p.start ≡ 0 → p.len ≡ 0) → bytes_at s (block_on p) ≡ bytes_at (drop 1 s) p
block-bytes s p none = go (eqb p.start 0) refl
  where
    go : (b : Bool) → eqb p.start 0 ≡ b → bytes_at s (pick b p (place_on p)) ≡ bytes_at (drop 1 s) p
    go true e = rw (none (eqb-true p.start 0 e))
    go false e = bytes_on s p

-- ---- the four sorts of document 01: the record of the whole is that of the rest, but for its place
abbrev request_on : RequestFileTransferRequest → RequestFileTransferRequest
request_on q = record { file_path_and_name = place_on q.file_path_and_name; size = q.size; kind = q.kind; data_format_identifier = q.data_format_identifier }

abbrev response_on : RequestFileTransferResponse → RequestFileTransferResponse
response_on q = record {
  max_number_of_block_length = block_on q.max_number_of_block_length;
  file_size = q.file_size;
  position = q.position;
  kind = q.kind;
  data_format_identifier = q.data_format_identifier;
}

abbrev routine_request_on : RoutineControlRequest → RoutineControlRequest
routine_request_on q = record {
  suppress_positive_response = q.suppress_positive_response;
  sub_function = q.sub_function;
  routine_id = q.routine_id;
  option_record = place_on q.option_record;
}

abbrev routine_response_on : RoutineControlResponse → RoutineControlResponse
routine_response_on q = record { sub_function = q.sub_function; routine_id = q.routine_id; status_record = place_on q.status_record }

-- a refusal of the rest is that of the whole
module _ {s : List ℕ} {e : wire.Refusal} where
  pub request_off : request.RequestRight (lent s) (Err e) → SortRight file_request s (Err e)
  request_off h = record { paper = off read_request _ (drop 1 s) (rw lent_is at h.paper); place = tt }

  pub response_off : response.ResponseRight (lent s) (Err e) → SortRight file_response s (Err e)
  response_off h = record { paper = off read_response _ (drop 1 s) (rw lent_is at h.paper); place = tt }

  pub routine_request_off : RoutineRequestRight (lent s) (Err e) → SortRight routine_request s (Err e)
  routine_request_off h = record { paper = off read_routine_request _ (drop 1 s) (rw lent_is at h.paper); place = tt }

  pub routine_response_off : RoutineResponseRight (lent s) (Err e) → SortRight routine_response s (Err e)
  routine_response_off h = record { paper = off read_routine_response _ (drop 1 s) (rw lent_is at h.paper); place = tt }

module _ (s : List ℕ) (long : 1 ≤ length s) where
  pub request-on : {q : RequestFileTransferRequest} {tail : ℕ} → request.RequestRight (lent s) (Ok (q, tail))
      → SortRight file_request s (Ok (Message.FileRequest (request_on q) (tail + 1)))
  unfolding give
  request-on {q} {tail} lends =
      let h : request.RequestRight (drop 1 s) (Ok (q, tail)) = rw lent_is at lends in
      let p = h.place in
      record {
        paper = rw (bytes_on s q.file_path_and_name, drop_on tail s) (on read_request _ (drop 1 s) h.paper refl);
        place = record {
          begins = ap (λ (n : ℕ). n + 1) p.begins;
          ends = omega (arith, p.ends, length-drop 1 s);
          halves = p.halves;
          within = omega (arith, p.within, length-drop 1 s);
        };
      }

  pub routine-request-on : {q : RoutineControlRequest} → RoutineRequestRight (lent s) (Ok q) → SortRight routine_request s (Ok (Message.RoutineRequest (routine_request_on q)))
  unfolding give
  routine-request-on {q} lends =
      let h : RoutineRequestRight (drop 1 s) (Ok q) = rw lent_is at lends in
      record {
        paper = rw (bytes_on s q.option_record) (on read_routine_request _ (drop 1 s) h.paper refl);
        place = (ap (λ (n : ℕ). n + 1) h.place.0, omega (arith, h.place.1, length-drop 1 s));
      }

  pub routine-response-on : {q : RoutineControlResponse} → RoutineResponseRight (lent s) (Ok q) → SortRight routine_response s (Ok (Message.RoutineResponse (routine_response_on q)))
  unfolding give
  routine-response-on {q} lends =
      let h : RoutineResponseRight (drop 1 s) (Ok q) = rw lent_is at lends in
      record {
        paper = rw (bytes_on s q.status_record) (on read_routine_response _ (drop 1 s) h.paper refl);
        place = (ap (λ (n : ℕ). n + 1) h.place.0, omega (arith, h.place.1, length-drop 1 s));
      }

-- a response whose kind has no block length has none
no_block : (t : List ℕ) (m : Response) (r : List ℕ) → Bytes t → accepted (m leaving r) ≡ read_response t → after_mode m.kind ≡ ended → m.block ≡ []
unfolding as_read
no_block t m r bytes read kind =
    let (u, way, joined) = (response_layout t m r bytes).0 (sym read) in
    ap Response.block (sym way.plain ∙ ap (λ (h : AfterMode). kept_after_mode h m) kind)

-- where a block length begins behind the service byte
pub start_small : (k : AfterMode) → block_start k 1 ≤ 2
start_small ended = omega arith
start_small (block_and_format more) = omega arith

bytes_behind : (s : List ℕ) → Bytes s → Bytes (drop 1 s)
bytes_behind [] h = tt
bytes_behind (b ∷ s) h = h.1

module _ (s : List ℕ) (long : 1 ≤ length s) (bytes : Bytes s) where
  pub response-on : {q : RequestFileTransferResponse} {tail : ℕ} → response.ResponseRight (lent s) (Ok (q, tail))
      → SortRight file_response s (Ok (Message.FileResponse (response_on q) (tail + 1)))
  unfolding give
  response-on {q} {tail} lends =
      let h : response.ResponseRight (drop 1 s) (Ok (q, tail)) = rw lent_is at lends in
      let (begins, ends, none) = go h (after_mode (kind_of q.kind)) refl in
      record {
        paper = rw (block-bytes s q.max_number_of_block_length none, drop_on tail s) (on read_response _ (drop 1 s) h.paper refl);
        place = record { begins = begins; ends = ends; halves = h.place.halves; within = omega (arith, h.place.within, length-drop 1 s) };
      }
    where
      place : Place
      place = q.max_number_of_block_length

      go : response.ResponseRight (drop 1 s) (Ok (q, tail)) → (k : AfterMode) → after_mode (kind_of q.kind) ≡ k
          → ((block_on place).start ≡ block_start k 2) × ((block_on place).start + (block_on place).len ≤ length s) × (place.start ≡ 0 → place.len ≡ 0)
      go h ended e =
          let start : place.start ≡ 0 = h.place.begins ∙ ap (λ (k : AfterMode). block_start k 1) e in
          let none : bytes_at (drop 1 s) place ≡ [] = no_block (drop 1 s) (response.meant (drop 1 s) q) (drop tail (drop 1 s)) (bytes_behind s bytes) h.paper e in
          let fits : place.len ≤ length (drop place.start (drop 1 s)) = omega (arith, h.place.ends, length-drop place.start (drop 1 s)) in
          let empty : place.len ≡ 0 = sym (length-take-le place.len (drop place.start (drop 1 s)) fits) ∙ ap length none in
          (rw (eq-eqb place.start 0 start) start, rw (eq-eqb place.start 0 start) (omega (arith, start, empty)), λ _. empty)
      go h (block_and_format more) e =
          let start : place.start ≡ 2 = h.place.begins ∙ ap (λ (k : AfterMode). block_start k 1) e in
          let other : eqb place.start 0 ≡ false = ap (λ (n : ℕ). eqb n 0) start in
          (rw other (ap (λ (n : ℕ). n + 1) start), rw other (omega (arith, h.place.ends, length-drop 1 s)), λ z. absurd (omega (arith, start, z)))

-- ---- negative answers
more_follows : (t : List ℕ) {n : ℕ} → length t ≡ n → 0 < n → refused (left_over n) ≡ no_more t
unfolding no_more
more_follows [] e h = absurd (omega arith)
more_follows (b ∷ t) e h = ap (λ (n : ℕ). refused (left_over n)) (sym e)

module _ (s : List ℕ) (long : 1 ≤ length s) where
  -- the three bytes or more that are read, of which the first is 0x7F
  abbrev whole : List ℕ
  whole = 0x7F ∷ drop 1 s

  as_long : length whole ≡ length s
  as_long = omega (arith, length-drop 1 s)

  pub negative-short : length s < 3 → SortRight negative_answer s (Err (wire.Refusal.TooShort 3 (length s)))
  unfolding read_negative
  negative-short few = record {
    paper = off read_negative _ whole (off (part 3) _ whole (part-short whole 0 3 (length s) (omega (arith, as_long)) few));
    place = tt;
  }

  pub negative-long : 3 < length s → SortRight negative_answer s (Err (wire.Refusal.LeftOver (length s - 3)))
  unfolding read_negative
  negative-long many = record {
    paper = off read_negative _ whole
        (on (part 3) _ whole (part_there whole 0 3 (omega (arith, as_long))) (off no_more _ (drop 3 whole) (more_follows (drop 3 whole) (omega (arith, length-drop 3 whole, as_long)) (omega arith))));
    place = tt;
  }

-- of three bytes the second is judged
pub negative_off : (s : List ℕ) {e : wire.Refusal} → length s ≡ 3 → refused (row e) ≡ known_service (get_or s 1 0) → SortRight negative_answer s (Err e)
unfolding read_negative ◌>>=◌ part no_more refuse
negative_off [] l k = absurd (omega arith)
negative_off (a ∷ []) l k = absurd (omega arith)
negative_off (a ∷ b ∷ []) l k = absurd (omega arith)
negative_off (a ∷ b ∷ c ∷ []) l k = record { paper = rw (← k); place = tt }
negative_off (a ∷ b ∷ c ∷ d ∷ t) l k = absurd (omega arith)

-- and then the third, the code, is marked by the list of its service
pub negative_on : (s : List ℕ) (k : code.Service) {listed : Bool} → length s ≡ 3 → accepted (service_of k) ≡ known_service (get_or s 1 0) → listed ≡ stands (get_or s 2 0) (list_of (service_of k))
    → SortRight negative_answer s (Ok (Message.Negative (record { service = k; code = get_or s 2 0; listed = listed })))
unfolding read_negative ◌>>=◌ part no_more give
negative_on [] k l known is = absurd (omega arith)
negative_on (a ∷ []) k l known is = absurd (omega arith)
negative_on (a ∷ b ∷ []) k l known is = absurd (omega arith)
negative_on (a ∷ b ∷ c ∷ []) k l known is = record { paper = rw (← known, is); place = tt }
negative_on (a ∷ b ∷ c ∷ d ∷ t) k l known is = absurd (omega arith)

-- ---- the service byte
-- it is missing
pub no_service : {s : List ℕ} {e : wire.Refusal} → refused (row e) ≡ byte s → MessageRight s (Err e)
unfolding read_message
no_service {s} h = record { paper = off byte _ s h; place = tt }

module _ {s t : List ℕ} {b : ℕ} (first : accepted (b leaving t) ≡ byte s) where
  -- it is none of the five
  pub no_sort : {e : wire.Refusal} → refused (row e) ≡ known_sort b → MessageRight s (Err e)
  unfolding read_message refuse
  no_sort e = record { paper = on byte _ s first (off (hand_out (known_sort b)) _ t (rw (← e))); place = tt }

  -- the sort has the rest
  pub of_sort : {k : Sort} {r : Result Message wire.Refusal} → accepted k ≡ known_sort b → drop 1 s ≡ t → SortRight k s r → MessageRight s r
  unfolding read_message give
  of_sort {k} e rest h = record { paper = h.paper ∙ on byte _ s first (on (hand_out (known_sort b)) _ t {a = k} {t = t} (rw (← e)) (ap (read_after_service k) rest)); place = h.place }
