-- Document 01, "Routine control".
use Rattle.std.specs.Prelude.{ℕ, ◌+◌, ◌%◌, ◌<◌, ◌≡◌, Bool, List, [], ◌∷◌, ◌++◌, length, get_or, drop, leb}
use Rattle.paper.specs.Choice.{pick}
use Rattle.paper.specs.Answer.{Answer, accepted, wrong_format, unknown_sub_function, check, ◌leaving◌, Reader, ◌>>=◌, give, hand_out}
use Rattle.paper.specs.Bytes.{Bytes, of_bytes, to_bytes}
use Rattle.paper.specs.Kind.{one_of}
use Rattle.paper.specs.Field.{part}

pub data SubFunction : Type 0 where
  start_routine stop_routine request_routine_results : SubFunction

abbrev pub byte_of : SubFunction → ℕ
byte_of start_routine = 1
byte_of stop_routine = 2
byte_of request_routine_results = 3

abbrev pub sub_functions : List SubFunction
sub_functions = start_routine ∷ stop_routine ∷ request_routine_results ∷ []

-- the sub-function of a byte, else refusal 4 with the byte
unfoldable pub known_sub : ℕ → Answer SubFunction
known_sub b = one_of byte_of sub_functions unknown_sub_function b

pub record RoutineRequest : Type 0 where
  pub suppress : Bool
  pub sub_function : SubFunction
  pub identifier : ℕ
  pub «record» : List ℕ

pub record RoutineResponse : Type 0 where
  pub sub_function : SubFunction
  pub identifier : ℕ
  pub «record» : List ℕ

-- ---- reading
-- the three routine bytes: the sub-function byte, and the identifier in two bytes, high first
pub record RoutineBytes : Type 0 where
  pub control : ℕ
  pub identifier : ℕ

unfoldable pub routine_bytes : Reader RoutineBytes
routine_bytes = do
  x ← part 3
  give (record { control = get_or x 0 0; identifier = of_bytes (drop 1 x) })

-- the whole rest; the tail is always empty
unfoldable pub whole_rest : Reader (List ℕ)
whole_rest s = accepted (s leaving [])

-- in a request bit 0x80 means "suppress the positive response", and the low seven bits are judged
unfoldable pub read_routine_request : Reader RoutineRequest
read_routine_request = do
  h ← routine_bytes
  f ← hand_out (known_sub (h.control % 128))
  r ← whole_rest
  give (record { suppress = leb 128 h.control; sub_function = f; identifier = h.identifier; «record» = r })

-- in a response the whole byte is judged
unfoldable pub read_routine_response : Reader RoutineResponse
read_routine_response = do
  h ← routine_bytes
  f ← hand_out (known_sub h.control)
  r ← whole_rest
  give (record { sub_function = f; identifier = h.identifier; «record» = r })

-- ---- writing
abbrev pub routine_laid : ℕ → ℕ → List ℕ → List ℕ
routine_laid control identifier r = control ∷ (to_bytes 2 identifier ++ r)

-- the byte of a request: bit 0x80 and the sub-function
abbrev pub control_byte : Bool → SubFunction → ℕ
control_byte suppress f = pick suppress 128 0 + byte_of f

unfoldable pub routine_request_bytes : RoutineRequest → List ℕ
routine_request_bytes m = routine_laid (control_byte m.suppress m.sub_function) m.identifier m.«record»

unfoldable pub routine_response_bytes : RoutineResponse → List ℕ
routine_response_bytes m = routine_laid (byte_of m.sub_function) m.identifier m.«record»

-- u is the one way in which m is written
pub record RoutineRequestWay (m : RoutineRequest) (u : List ℕ) : Type 0 where
  pub identifier : m.identifier < 65536
  pub bytes : Bytes m.«record»
  pub is : u ≡ routine_request_bytes m

pub record RoutineResponseWay (m : RoutineResponse) (u : List ℕ) : Type 0 where
  pub identifier : m.identifier < 65536
  pub bytes : Bytes m.«record»
  pub is : u ≡ routine_response_bytes m

-- the check when writing: the record too long (the check of room comes with the buffer)
unfoldable pub write_routine_request : RoutineRequest → Answer (List ℕ)
write_routine_request m = check (leb (length m.«record») 65535) (wrong_format 0) (accepted (routine_request_bytes m))

unfoldable pub write_routine_response : RoutineResponse → Answer (List ℕ)
write_routine_response m = check (leb (length m.«record») 65535) (wrong_format 0) (accepted (routine_response_bytes m))

-- ---- the permitted negative codes, in source order
abbrev pub file_transfer_negative_codes : List ℕ
file_transfer_negative_codes = 0x13 ∷ 0x22 ∷ 0x24 ∷ 0x31 ∷ 0x33 ∷ 0x34 ∷ 0x70 ∷ []

abbrev pub routine_negative_codes : List ℕ
routine_negative_codes = 0x12 ∷ 0x13 ∷ 0x22 ∷ 0x24 ∷ 0x31 ∷ 0x33 ∷ 0x72 ∷ []
