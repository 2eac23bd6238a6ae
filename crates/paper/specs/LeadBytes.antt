-- Document 02, request 07, "One table for name bytes": the sequence class of each lead byte, after the productions of RFC 3629, section 4.
-- A class says what may follow the byte. Lead bytes that differ and let the same follow, as E1 and EE, are of one class.
use Rattle.std.specs.Prelude.{ℕ, List, [], ◌∷◌}
use Rattle.paper.specs.Choice.{pick}
use Rattle.paper.specs.Utf8.{tail, in_range, begins}

-- the nine classes; four have a lead byte of their own, by which they are called
pub data Class : Type 0 where
  no_lead ascii two_bytes lead_e0 three_bytes lead_ed lead_f0 four_bytes lead_f4 : Class

-- which class stands for which range of lead bytes: all bytes from 00 to FF, in their order
abbrev pub classes : List ((ℕ × ℕ) × Class)
classes =
    ((0x00, 0x7F), ascii)
    ∷ ((0x80, 0xC1), no_lead)
    ∷ ((0xC2, 0xDF), two_bytes)
    ∷ ((0xE0, 0xE0), lead_e0)
    ∷ ((0xE1, 0xEC), three_bytes)
    ∷ ((0xED, 0xED), lead_ed)
    ∷ ((0xEE, 0xEF), three_bytes)
    ∷ ((0xF0, 0xF0), lead_f0)
    ∷ ((0xF1, 0xF3), four_bytes)
    ∷ ((0xF4, 0xF4), lead_f4)
    ∷ ((0xF5, 0xFF), no_lead)
    ∷ []

-- the class of the first of these ranges that has the byte
unfoldable pub class_in : List ((ℕ × ℕ) × Class) → ℕ → Class
class_in [] b = no_lead
class_in (r ∷ rs) b = pick (in_range r.0 b) r.1 (class_in rs b)

-- the sequence class of a lead byte
unfoldable pub class_of : ℕ → Class
class_of b = class_in classes b

-- how many bytes a character has whose lead byte is of this class: 0 where no character begins so
abbrev pub size_of : Class → ℕ
size_of no_lead = 0
size_of ascii = 1
size_of two_bytes = 2
size_of lead_e0 = 3
size_of three_bytes = 3
size_of lead_ed = 3
size_of lead_f0 = 4
size_of four_bytes = 4
size_of lead_f4 = 4

-- the ranges of the bytes that follow it: the second byte's own, then tails
abbrev pub following : Class → List (ℕ × ℕ)
following no_lead = []
following ascii = []
following two_bytes = tail ∷ []
following lead_e0 = (0xA0, 0xBF) ∷ tail ∷ []
following three_bytes = tail ∷ tail ∷ []
following lead_ed = (0x80, 0x9F) ∷ tail ∷ []
following lead_f0 = (0x90, 0xBF) ∷ tail ∷ tail ∷ []
following four_bytes = tail ∷ tail ∷ tail ∷ []
following lead_f4 = (0x80, 0x8F) ∷ tail ∷ tail ∷ []

-- the length of a character whose lead byte is of this class and is followed by s; 0 where s does not begin with what has to follow
unfoldable pub length_by : Class → List ℕ → ℕ
length_by k s = pick (begins (following k) s) (size_of k) 0
