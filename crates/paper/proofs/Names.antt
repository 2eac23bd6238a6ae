-- How much of each of these names is valid UTF-8: each production's first and last character, the neighbours just outside, and a mix.
-- Assumes nothing.
use Prim.Native.Nat.{ℕ}
use mathlib.Core.Path.{◌≡◌, refl}
use mathlib.Core.List.{List, [], ◌∷◌, map}
use Rattle.paper.specs.Utf8.{in_range, begins, first_row, char_length, valid_from, valid_up_to}

pub record Name : Type 0 where
  pub bytes : List ℕ
  pub valid : ℕ

abbrev row : List ℕ → ℕ → Name
row bytes valid = record { bytes = bytes; valid = valid }

abbrev pub names : List Name
names =
    row (0x00 ∷ []) 1
    ∷ row (0x7F ∷ []) 1
    ∷ row (0xC2 ∷ 0x80 ∷ []) 2
    ∷ row (0xDF ∷ 0xBF ∷ []) 2
    ∷ row (0xE0 ∷ 0xA0 ∷ 0x80 ∷ []) 3
    ∷ row (0xE0 ∷ 0xBF ∷ 0xBF ∷ []) 3
    ∷ row (0xE1 ∷ 0x80 ∷ 0x80 ∷ []) 3
    ∷ row (0xEC ∷ 0xBF ∷ 0xBF ∷ []) 3
    ∷ row (0xED ∷ 0x80 ∷ 0x80 ∷ []) 3
    ∷ row (0xED ∷ 0x9F ∷ 0xBF ∷ []) 3
    ∷ row (0xEE ∷ 0x80 ∷ 0x80 ∷ []) 3
    ∷ row (0xEF ∷ 0xBF ∷ 0xBF ∷ []) 3
    ∷ row (0xF0 ∷ 0x90 ∷ 0x80 ∷ 0x80 ∷ []) 4
    ∷ row (0xF0 ∷ 0xBF ∷ 0xBF ∷ 0xBF ∷ []) 4
    ∷ row (0xF1 ∷ 0x80 ∷ 0x80 ∷ 0x80 ∷ []) 4
    ∷ row (0xF3 ∷ 0xBF ∷ 0xBF ∷ 0xBF ∷ []) 4
    ∷ row (0xF4 ∷ 0x80 ∷ 0x80 ∷ 0x80 ∷ []) 4
    ∷ row (0xF4 ∷ 0x8F ∷ 0xBF ∷ 0xBF ∷ []) 4
    ∷ row (0x80 ∷ []) 0
    ∷ row (0xC1 ∷ 0xBF ∷ []) 0
    ∷ row (0xC2 ∷ 0x7F ∷ []) 0
    ∷ row (0xC2 ∷ 0xC0 ∷ []) 0
    ∷ row (0xE0 ∷ 0x9F ∷ 0xBF ∷ []) 0
    ∷ row (0xED ∷ 0xA0 ∷ 0x80 ∷ []) 0
    ∷ row (0xF0 ∷ 0x8F ∷ 0xBF ∷ 0xBF ∷ []) 0
    ∷ row (0xF4 ∷ 0x90 ∷ 0x80 ∷ 0x80 ∷ []) 0
    ∷ row (0xF5 ∷ 0x80 ∷ 0x80 ∷ 0x80 ∷ []) 0
    ∷ row (0xC0 ∷ 0x80 ∷ []) 0
    ∷ row (0xDF ∷ []) 0
    ∷ row (0xEF ∷ 0xBF ∷ []) 0
    ∷ row (0xF4 ∷ 0x8F ∷ 0xBF ∷ []) 0
    ∷ row [] 0
    ∷ row (0x61 ∷ 0xE2 ∷ 0x82 ∷ 0xAC ∷ 0xFF ∷ 0x61 ∷ []) 4
    ∷ []

-- each name is valid up to the place that its row says, and no further
pub names-right : map (λ (n : Name). valid_up_to n.bytes) names ≡ map (λ (n : Name). n.valid) names
unfolding valid_up_to valid_from char_length first_row begins in_range
names-right = refl
