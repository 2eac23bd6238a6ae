-- Document 02, Req 14: the one line that the program `read_message` prints, in ASCII. Its words for a refusal and for what is too long, and the dash for
-- a format byte that is not there, are the reading program's.
use Rattle.std.specs.Prelude.{ℕ, ◌+◌, ◌-◌, ◌/◌, ◌%◌, Bool, List, [], ◌∷◌, ◌++◌, length, leb, ltb}
use Prim.Native.Char.{code}
use Rattle.paper.specs.Choice.{pick}
use Rattle.paper.specs.Answer.{Answer, accepted, refused, Read, ◌leaving◌}
use Rattle.paper.specs.Kind.{mode_of}
use Rattle.paper.specs.Request.{after_name, request_bytes}
use Rattle.paper.specs.Response.{AfterMode, ended, block_and_format, after_mode, response_bytes}
use Rattle.paper.specs.RoutineControl.{byte_of}
use Rattle.paper.specs.ReadingProgram.{Shown, dash, shown, format_shown, too_long, bad, ascii, text_of}
use Rattle.paper.specs.Form.{filled_in}
use Rattle.paper.specs.WholeMessage.{file_request, file_response, service_byte, request_byte}
use Rattle.paper.specs.WholeMessage.{WholeMessage, a_file_request, a_routine_request, a_file_response, a_routine_response, a_negative_answer, read_message}

-- ---- the line of a sort
-- `request kind K name N format F normal M left L`
abbrev pub request_text : Shown → (kind name normal left : ℕ) → List ℕ
request_text (shown f) k n m l = filled_in (ascii "request kind _ name _ format _ normal _ left _\n") (k ∷ n ∷ f ∷ m ∷ l ∷ [])
request_text dash k n m l = filled_in (ascii "request kind _ name _ format - normal _ left _\n") (k ∷ n ∷ m ∷ l ∷ [])

-- `response kind K block N format F normal M left L`
abbrev pub response_text : Shown → (kind block normal left : ℕ) → List ℕ
response_text (shown f) k n m l = filled_in (ascii "response kind _ block _ format _ normal _ left _\n") (k ∷ n ∷ f ∷ m ∷ l ∷ [])
response_text dash k n m l = filled_in (ascii "response kind _ block _ format - normal _ left _\n") (k ∷ n ∷ m ∷ l ∷ [])

-- the format byte of a response, or `-` where the kind has none
abbrev pub response_format : AfterMode → ℕ → Shown
response_format ended f = dash
response_format (block_and_format more) f = shown f

-- `routine request sub-function F suppress P identifier I record N`; P is 1 where the positive response is to be suppressed, else 0
abbrev pub routine_request_text : (sub_function : ℕ) → (suppress : Bool) → (identifier record-length : ℕ) → List ℕ
routine_request_text f p i n = filled_in (ascii "routine request sub-function _ suppress _ identifier _ record _\n") (f ∷ pick p 1 0 ∷ i ∷ n ∷ [])

-- `routine response sub-function F identifier I record N`
abbrev pub routine_response_text : (sub_function identifier record-length : ℕ) → List ℕ
routine_response_text f i n = filled_in (ascii "routine response sub-function _ identifier _ record _\n") (f ∷ i ∷ n ∷ [])

-- a byte in two digits of sixteen, the last six of them capital letters
abbrev pub hex_digit : ℕ → ℕ
hex_digit n = pick (ltb n 10) (code "0" + n) (code "A" + (n - 10))

abbrev pub hex_byte : ℕ → List ℕ
hex_byte b = hex_digit (b / 16) ∷ hex_digit (b % 16) ∷ []

-- whether the code is listed
abbrev pub mark : Bool → List ℕ
mark listed = pick listed (ascii " listed\n") (ascii " unlisted\n")

-- `negative 0xSS 0xCC listed` or `negative 0xSS 0xCC unlisted`
abbrev pub negative_text : (service code : ℕ) → (listed : Bool) → List ℕ
negative_text s c listed = ascii "negative 0x" ++ (hex_byte s ++ (ascii " 0x" ++ (hex_byte c ++ mark listed)))

-- ---- the line of a message
-- `normal` is the length of the rewritten message, its service byte included
abbrev pub message_text : WholeMessage → (left : ℕ) → List ℕ
message_text (a_file_request m) left =
    request_text (format_shown (after_name m.kind) m.format) (mode_of m.kind) (length m.name) (length (service_byte file_request ∷ request_bytes m)) left
message_text (a_routine_request m) left = routine_request_text (byte_of m.sub_function) m.suppress m.identifier (length m.«record»)
message_text (a_file_response m) left =
    response_text (response_format (after_mode m.kind) m.format) (mode_of m.kind) (length m.block) (length (service_byte file_response ∷ response_bytes m)) left
message_text (a_routine_response m) left = routine_response_text (byte_of m.sub_function) m.identifier (length m.«record»)
message_text (a_negative_answer m) left = negative_text (request_byte m.service) m.code m.listed

-- the message, or `refused N A B`
abbrev pub answer_text : Answer (Read WholeMessage) → List ℕ
answer_text (accepted (m leaving t)) = message_text m (length t)
answer_text (refused r) = text_of (bad r)

-- above 4,096 bytes it says `too long`; else it reads one whole message
unfoldable pub message_line : List ℕ → List ℕ
message_line s = pick (leb (length s) 4096) (answer_text (read_message s)) (text_of too_long)
