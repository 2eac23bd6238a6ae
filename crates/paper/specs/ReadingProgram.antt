-- Document 01, "The reading program": the one line that it prints, and its text in ASCII.
use Rattle.std.specs.Prelude.{ℕ, zero, suc, ◌+◌, ◌/◌, ◌%◌, List, [], ◌∷◌, ◌++◌, length, leb, ltb}
use Prim.Native.Char.{code}
use Prim.Native.String.{String, [] as empty, ◌∷◌ as ◌then◌}
use Rattle.paper.specs.Choice.{pick}
use Rattle.paper.specs.Answer.{Refusal, Answer, accepted, refused, Read, ◌leaving◌}
use Rattle.paper.specs.Kind.{mode_of}
use Rattle.paper.specs.Request.{Request, AfterName, format_and_sizes, nothing, format_only, after_name, read_request, request_bytes}

-- ---- the line
-- the format byte, or `-` where the kind has none
pub data Shown : Type 0 where
  dash : Shown
  shown : ℕ → Shown

abbrev pub format_shown : AfterName → ℕ → Shown
format_shown format_and_sizes f = shown f
format_shown nothing f = dash
format_shown format_only f = shown f

-- the input is too long; or the request is accepted, with its kind, the length of its name, its format, the length of the rewritten message and how many
-- bytes are left over; or it is refused
pub data Line : Type 0 where
  too_long : Line
  good : (kind name : ℕ) → (format : Shown) → (normal left : ℕ) → Line
  bad : Refusal → Line

abbrev pub line_for : Answer (Read Request) → Line
line_for (accepted (m leaving t)) = good (mode_of m.kind) (length m.name) (format_shown (after_name m.kind) m.format) (length (request_bytes m)) (length t)
line_for (refused r) = bad r

-- above 4,096 bytes it says `too long`; else it reads one request
unfoldable pub line_of : List ℕ → Line
line_of s = pick (leb (length s) 4096) (line_for (read_request s)) too_long

-- ---- its text
-- the digits of a number, the most significant first, with no zero in front; 0 is `0` (k is more than their count)
unfoldable pub decimal_in : ℕ → ℕ → List ℕ
decimal_in zero n = []
decimal_in (suc k) n = pick (ltb n 10) ((code "0" + n) ∷ []) (decimal_in k (n / 10) ++ ((code "0" + n % 10) ∷ []))

unfoldable pub decimal : ℕ → List ℕ
decimal n = decimal_in (suc n) n

-- a text in ASCII: the number of each letter
abbrev pub ascii : String → List ℕ
ascii empty = []
ascii (letter then others) = code letter ∷ ascii others

abbrev pub shown_text : Shown → List ℕ
shown_text dash = ascii "-"
shown_text (shown f) = decimal f

-- `accepted kind K name N format F normal M left L`, `refused N A B` or `too long`, each ended by a line feed
unfoldable pub text_of : Line → List ℕ
text_of too_long = ascii "too long\n"
text_of (good k n f m l) =
    ascii "accepted kind " ++ (decimal k ++ (ascii " name " ++ (decimal n ++ (ascii " format " ++ (shown_text f ++ (ascii " normal " ++ (decimal m ++ (ascii " left " ++ (decimal l ++ ascii "\n")))))))))
text_of (bad r) = ascii "refused " ++ (decimal r.number ++ (ascii " " ++ (decimal r.first ++ (ascii " " ++ (decimal r.second ++ ascii "\n")))))
