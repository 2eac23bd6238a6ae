-- Text in ASCII.
use Rattle.std.specs.Prelude.{ℕ, ◌-◌, ◌≤◌, ◌<◌, List, length, get_or}

-- each of the first n bytes of s is below 0x80
abbrev pub AsciiTo : List ℕ → ℕ → Type 0
AsciiTo s n = (i : ℕ) → i < n → get_or s i 0 < 0x80

abbrev pub Ascii : List ℕ → Type 0
Ascii s = AsciiTo s (length s)

-- s begins with n bytes of ASCII
pub record AsciiStart (s : List ℕ) (n : ℕ) : Type 0 where
  pub within : n ≤ length s
  pub ascii : AsciiTo s n

-- it does, and with no more
pub record AsciiRun (s : List ℕ) (n : ℕ) : Type 0 where
  pub start : AsciiStart s n
  pub ends : n < length s → 0x80 ≤ get_or s n 0

-- the last n bytes of s are ASCII
pub record AsciiEnd (s : List ℕ) (n : ℕ) : Type 0 where
  pub within : n ≤ length s
  pub ascii : (i : ℕ) → i < length s → length s - n ≤ i → get_or s i 0 < 0x80
