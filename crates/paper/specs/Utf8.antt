-- RFC 3629, section 4: the grammar of UTF-8, which decides what a name may be; and the same as a test that can be run.
use Rattle.std.specs.Prelude.{ℕ, zero, suc, ◌+◌, ◌≤◌, Bool, true, false, List, [], ◌∷◌, ◌++◌, length, take, drop, leb, eqb}
use Rattle.paper.specs.Choice.{pick, both}

-- ---- the grammar
-- %xLO-HI
abbrev pub In : ℕ → ℕ → ℕ → Type 0
In lo hi b = (lo ≤ b) × (b ≤ hi)

-- UTF8-tail = %x80-BF
abbrev pub Tail : ℕ → Type 0
Tail b = In 0x80 0xBF b

-- UTF8-char = UTF8-1 / UTF8-2 / UTF8-3 / UTF8-4, a constructor for each production
pub data Utf8Char : List ℕ → Type 0 where
  utf8_1 : {a : ℕ} → In 0x00 0x7F a → Utf8Char (a ∷ [])
  utf8_2 : {a b : ℕ} → In 0xC2 0xDF a → Tail b → Utf8Char (a ∷ b ∷ [])
  utf8_3_e0 : {a b c : ℕ} → In 0xE0 0xE0 a → In 0xA0 0xBF b → Tail c → Utf8Char (a ∷ b ∷ c ∷ [])
  utf8_3_e1 : {a b c : ℕ} → In 0xE1 0xEC a → Tail b → Tail c → Utf8Char (a ∷ b ∷ c ∷ [])
  utf8_3_ed : {a b c : ℕ} → In 0xED 0xED a → In 0x80 0x9F b → Tail c → Utf8Char (a ∷ b ∷ c ∷ [])
  utf8_3_ee : {a b c : ℕ} → In 0xEE 0xEF a → Tail b → Tail c → Utf8Char (a ∷ b ∷ c ∷ [])
  utf8_4_f0 : {a b c d : ℕ} → In 0xF0 0xF0 a → In 0x90 0xBF b → Tail c → Tail d → Utf8Char (a ∷ b ∷ c ∷ d ∷ [])
  utf8_4_f1 : {a b c d : ℕ} → In 0xF1 0xF3 a → Tail b → Tail c → Tail d → Utf8Char (a ∷ b ∷ c ∷ d ∷ [])
  utf8_4_f4 : {a b c d : ℕ} → In 0xF4 0xF4 a → In 0x80 0x8F b → Tail c → Tail d → Utf8Char (a ∷ b ∷ c ∷ d ∷ [])

-- UTF8-octets = *( UTF8-char )
pub data Utf8 : List ℕ → Type 0 where
  none : Utf8 []
  more : {c s : List ℕ} → Utf8Char c → Utf8 s → Utf8 (c ++ s)

-- r is the length of the longest beginning of s that is UTF-8
pub record Longest (s : List ℕ) (r : ℕ) : Type 0 where
  pub within : r ≤ length s
  pub good : Utf8 (take r s)
  pub most : (k : ℕ) → k ≤ length s → Utf8 (take k s) → k ≤ r

-- ---- the same, to be run; proofs/Utf8.antt shows that it is the grammar
-- the productions once more, in the same order: a row for each, with the range of each byte
abbrev pub tail : ℕ × ℕ
tail = (0x80, 0xBF)

abbrev pub productions : List (List (ℕ × ℕ))
productions =
    ((0x00, 0x7F) ∷ [])
    ∷ ((0xC2, 0xDF) ∷ tail ∷ [])
    ∷ ((0xE0, 0xE0) ∷ (0xA0, 0xBF) ∷ tail ∷ [])
    ∷ ((0xE1, 0xEC) ∷ tail ∷ tail ∷ [])
    ∷ ((0xED, 0xED) ∷ (0x80, 0x9F) ∷ tail ∷ [])
    ∷ ((0xEE, 0xEF) ∷ tail ∷ tail ∷ [])
    ∷ ((0xF0, 0xF0) ∷ (0x90, 0xBF) ∷ tail ∷ tail ∷ [])
    ∷ ((0xF1, 0xF3) ∷ tail ∷ tail ∷ tail ∷ [])
    ∷ ((0xF4, 0xF4) ∷ (0x80, 0x8F) ∷ tail ∷ tail ∷ [])
    ∷ []

unfoldable pub in_range : ℕ × ℕ → ℕ → Bool
in_range r b = both (leb r.0 b) (leb b r.1)

-- the text begins with a byte in each of these ranges, one after the other
unfoldable pub begins : List (ℕ × ℕ) → List ℕ → Bool
begins [] s = true
begins (r ∷ rs) [] = false
begins (r ∷ rs) (b ∷ s) = both (in_range r b) (begins rs s)

-- the length of the first row with which the text begins, 0 where there is none
unfoldable pub first_row : List (List (ℕ × ℕ)) → List ℕ → ℕ
first_row [] s = 0
first_row (row ∷ rows) s = pick (begins row s) (length row) (first_row rows s)

-- the length of the character with which the text begins, 0 where none does
unfoldable pub char_length : List ℕ → ℕ
char_length s = first_row productions s

-- the length of the longest beginning that is UTF-8, of at most f characters
unfoldable pub valid_from : ℕ → List ℕ → ℕ
valid_from zero s = 0
valid_from (suc f) s = pick (eqb (char_length s) 0) 0 (char_length s + valid_from f (drop (char_length s) s))

-- the length of the longest beginning that is UTF-8
unfoldable pub valid_up_to : List ℕ → ℕ
valid_up_to s = valid_from (length s) s

-- the whole of it is UTF-8
unfoldable pub is_utf8 : List ℕ → Bool
is_utf8 s = eqb (valid_up_to s) (length s)
