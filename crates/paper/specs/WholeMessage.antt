-- Document 02, Req 14: whole messages off the adapter. A service byte says which of five sorts it is; what follows it is document 01's, cited here and not said again.
use Rattle.std.specs.Prelude.{◌≡◌, ℕ, Bool, false, List, [], ◌∷◌, length, get_or, eqb}
use Rattle.paper.specs.Choice.{either}
use Rattle.paper.specs.Answer.{left_over, out_of_range, unknown_service, Answer, accepted, refused, ◌then◌, ◌leaving◌, Reader, ◌>>=◌, give, judge, hand_out}
use Rattle.paper.specs.Kind.{one_of}
use Rattle.paper.specs.Field.{part, byte}
use Rattle.paper.specs.Rewriting.{rewriting}
use Rattle.paper.specs.Request.{Request, read_request, write_request}
use Rattle.paper.specs.Response.{Response, read_response, write_response}
use Rattle.paper.specs.RoutineControl.{RoutineRequest, RoutineResponse, read_routine_request, read_routine_response, write_routine_request, write_routine_response}
use Rattle.paper.specs.RoutineControl.{file_transfer_negative_codes, routine_negative_codes}

-- ---- the five sorts
pub data Sort : Type 0 where
  file_request routine_request file_response routine_response negative_answer : Sort

abbrev pub service_byte : Sort → ℕ
service_byte file_request = 0x38
service_byte routine_request = 0x31
service_byte file_response = 0x78
service_byte routine_response = 0x71
service_byte negative_answer = 0x7F

abbrev pub sorts : List Sort
sorts = file_request ∷ routine_request ∷ file_response ∷ routine_response ∷ negative_answer ∷ []

-- the sort of a service byte, else 15
unfoldable pub known_sort : ℕ → Answer Sort
known_sort b = one_of service_byte sorts (λ (_ : ℕ). unknown_service 0) b

-- ---- negative answers
-- the services that we have
pub data Service : Type 0 where
  file_transfer routine_control : Service

abbrev pub request_byte : Service → ℕ
request_byte file_transfer = 0x38
request_byte routine_control = 0x31

-- the service of a request's byte, else 11
unfoldable pub known_service : ℕ → Answer Service
known_service b = one_of request_byte (file_transfer ∷ routine_control ∷ []) (λ (_ : ℕ). out_of_range 0) b

-- document 01's lists
abbrev pub list_of : Service → List ℕ
list_of file_transfer = file_transfer_negative_codes
list_of routine_control = routine_negative_codes

-- the byte stands in the list
unfoldable pub stands : ℕ → List ℕ → Bool
stands b [] = false
stands b (x ∷ xs) = either (eqb b x) (stands b xs)

-- a code is listed when it stands in its service's list; another is read all the same
pub record Negative : Type 0 where
  pub service : Service
  pub code : ℕ
  pub listed : Bool

abbrev pub negative : Service → ℕ → Negative
negative k c = record { service = k; code = c; listed = stands c (list_of k) }

-- nothing may follow, else 9 with how many bytes do
unfoldable pub no_more : Reader (Unit {0})
no_more [] = accepted (tt leaving [])
no_more (b ∷ t) = refused (left_over (length (b ∷ t)))

-- exactly three bytes, counted from the service byte on: 1 when short, 9 when longer, then 11
unfoldable pub read_negative : Reader Negative
read_negative = do
  x ← part 3
  _ ← no_more
  k ← hand_out (known_service (get_or x 1 0))
  give (negative k (get_or x 2 0))

-- ---- reading
-- what a message means
pub data WholeMessage : Type 0 where
  a_file_request : Request → WholeMessage
  a_routine_request : RoutineRequest → WholeMessage
  a_file_response : Response → WholeMessage
  a_routine_response : RoutineResponse → WholeMessage
  a_negative_answer : Negative → WholeMessage

-- the bytes after the service byte, by sort; a negative answer counts the service byte too
abbrev pub read_after_service : Sort → Reader WholeMessage
read_after_service file_request = do
  m ← read_request
  give (a_file_request m)
read_after_service routine_request = do
  m ← read_routine_request
  give (a_routine_request m)
read_after_service file_response = do
  m ← read_response
  give (a_file_response m)
read_after_service routine_response = do
  m ← read_routine_response
  give (a_routine_response m)
read_after_service negative_answer = λ (t : List ℕ). (read_negative >>= (λ (m : Negative). give (a_negative_answer m))) (service_byte negative_answer ∷ t)

-- 1 for an empty message, 15 for a service byte that we don't have, then what the sort refuses
unfoldable pub read_message : Reader WholeMessage
read_message = do
  b ← byte
  k ← hand_out (known_sort b)
  read_after_service k

-- ---- writing
-- the service byte before the message's own bytes, or the message's refusal; the check of room comes with the buffer, and counts the service byte
abbrev pub led : Sort → Answer (List ℕ) → Answer (List ℕ)
led k (accepted u) = accepted (service_byte k ∷ u)
led k (refused e) = refused e

-- a negative answer to a service that we don't have is 11; a code that is not listed may be written
unfoldable pub write_negative : (service code : ℕ) → Answer (List ℕ)
write_negative service code = led negative_answer (known_service service then accepted (service ∷ code ∷ []))

unfoldable pub write_message : WholeMessage → Answer (List ℕ)
write_message (a_file_request m) = led file_request (write_request m)
write_message (a_routine_request m) = led routine_request (write_routine_request m)
write_message (a_file_response m) = led file_response (write_response m)
write_message (a_routine_response m) = led routine_response (write_routine_response m)
write_message (a_negative_answer m) = write_negative (request_byte m.service) m.code

-- ---- demands 2 and 3 on whole messages of one sort
-- its service byte, and then what its reader says
unfoldable pub with_service : {A : Type 0} → Sort → Reader A → Reader A
with_service k read = do
  b ← byte
  _ ← judge (eqb b (service_byte k)) (unknown_service 0) b
  read

-- such a message read and written anew
abbrev pub rewrite_with_service : {A : Type 0} → Sort → Reader A → (A → Answer (List ℕ)) → Reader (List ℕ)
rewrite_with_service {A} k read write = rewriting (with_service k read) (λ (m : A). led k (write m))

-- u is one of m's ways of being written as such a message: its service byte, and then one of document 01's ways
pub record LedWay {A : Type 0} (k : Sort) (Way : A → List ℕ → Type 0) (m : A) (u : List ℕ) : Type 0 where
  pub rest : List ℕ
  pub way : Way m rest
  pub is : u ≡ service_byte k ∷ rest
