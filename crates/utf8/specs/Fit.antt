-- Text judged byte by byte: whether a byte can stand where it stands depends on the three before it alone.
-- That text of which each byte fits is UTF-8, but for a character that it breaks off, is shown in proofs/Fit.antt.
use Rattle.std.specs.Prelude.{ℕ, ◌-◌, ◌≤◌, ◌<◌, ◌≡◌, ◌⊎◌, List, leb, length, get_or}
use Rattle.paper.specs.Choice.{pick}
use Rattle.paper.specs.Utf8.{In, Tail}

-- d can stand right after a, b and c
pub record Fits (a b c d : ℕ) : Type 0 where
  pub in_four : 0xF0 ≤ a → Tail d
  pub in_three : 0xE0 ≤ b → Tail d
  pub in_two : 0xC0 ≤ c → Tail d
  pub starts : a < 0xF0 → b < 0xE0 → c < 0xC0 → (d < 0x80) ⊎ In 0xC2 0xF4 d
  pub after_e0 : c ≡ 0xE0 → 0xA0 ≤ d
  pub after_ed : c ≡ 0xED → d ≤ 0x9F
  pub after_f0 : c ≡ 0xF0 → 0x90 ≤ d
  pub after_f4 : c ≡ 0xF4 → d ≤ 0x8F

-- of the first n bytes of s each fits after the three before it, but for the first three
abbrev pub FitTo : List ℕ → ℕ → Type 0
FitTo s n = (i : ℕ) → i < n → 3 ≤ i → Fits (get_or s (i - 3) 0) (get_or s (i - 2) 0) (get_or s (i - 1) 0) (get_or s i 0)

abbrev pub AllFit : List ℕ → Type 0
AllFit s = FitTo s (length s)

-- a, b and c fit where a text begins: as if zeros stood before it
pub record FitStart (a b c : ℕ) : Type 0 where
  pub first : Fits 0 0 0 a
  pub second : Fits 0 0 a b
  pub third : Fits 0 a b c

-- the first n bytes of s, three or more, fit
pub record Fitting (s : List ℕ) (n : ℕ) : Type 0 where
  pub three : 3 ≤ n
  pub within : n ≤ length s
  pub start : FitStart (get_or s 0 0) (get_or s 1 0) (get_or s 2 0)
  pub fit : FitTo s n

-- how many of a, b and c belong to a character that goes on after them
unfoldable pub unfinished_of : ℕ → ℕ → ℕ → ℕ
unfinished_of a b c = pick (leb 0xC0 c) 1 (pick (leb 0xE0 b) 2 (pick (leb 0xF0 a) 3 0))
