-- The row of hex digits by their numbers in ASCII, and what the code computes of a character. Assumes nothing.
use mathlib.Core.Path.{◌≡◌, refl, sym, ap, ◌∙◌}
use Prim.Native.Nat.{ℕ, ◌+◌, ◌-◌, ◌≤◌, ◌<◌}
use mathlib.Core.List.{List}
use mathlib.Core.Logic.{⊎_elim}
use native.Mathlib.Omega.{arith}
use lib.ListN.{length, get_or, get_or-append}
use lib.Seq.{get_or-append-add}
use lib.Dec.{eqb}
use borrow.Author.Tests.{ne_eqb}
use Rattle.paper.specs.Listing.{first_place, numbers_from}
use Rattle.paper.specs.CodeText.{hex_digits, place_in}
use Rattle.paper.proofs.Choice.{cut}
use Rattle.paper.proofs.FirstPlace.{first-none, numbers_at}
use Rattle.paper.proofs.Spelling.{Once, once_back}

-- a character that stands at place v of a row without repeats
place_is : (row : List ℕ) → Once row → (v c : ℕ) → v < length row → get_or row v 0 ≡ c → place_in row c ≡ v
place_is row once v c h e = ap (place_in row) (sym e) ∙ once_back row once v h

-- one that stands nowhere in it
place_none : (row : List ℕ) (c : ℕ) → ((j : ℕ) → j < length row → c ≡ get_or row j 0 → ⊥) → place_in row c ≡ length row
place_none row c h = first-none (eqb c) 0 row (λ j l. ne_eqb c (get_or row j 0) (h j l))

hex_digit : (n : ℕ) → n < 10 → get_or hex_digits n 0 ≡ 48 + n
unfolding numbers_from
hex_digit n h = get_or-append (numbers_from 48 10) (numbers_from 65 6) 0 n h ∙ numbers_at 48 10 n 0 h

hex_letter : (n : ℕ) → 10 ≤ n → n < 16 → get_or hex_digits n 0 ≡ 65 + (n - 10)
unfolding numbers_from
hex_letter n a b =
    let behind : n ≡ 10 + (n - 10) = omega arith in
    ap (λ (j : ℕ). get_or hex_digits j 0) behind ∙ get_or-append-add (numbers_from 48 10) (numbers_from 65 6) (n - 10) 0 ∙ numbers_at 65 6 (n - 10) 0 (omega arith)

hex_once : Once hex_digits
unfolding first_place numbers_from
hex_once = refl

pub digit-place : (c : ℕ) → 48 ≤ c → c ≤ 57 → c - 48 ≡ place_in hex_digits c
digit-place c a b = let is : get_or hex_digits (c - 48) 0 ≡ c = hex_digit (c - 48) (omega arith) ∙ omega arith in sym (place_is hex_digits hex_once (c - 48) c (omega arith) is)

pub letter_place : (c : ℕ) → 65 ≤ c → c ≤ 70 → c - 65 + 10 ≡ place_in hex_digits c
letter_place c a b =
    let is : get_or hex_digits (c - 65 + 10) 0 ≡ c = hex_letter (c - 65 + 10) (omega arith) (omega arith) ∙ omega arith in
    sym (place_is hex_digits hex_once (c - 65 + 10) c (omega arith) is)

pub no_hex : (c : ℕ) → ((j : ℕ) → j < 10 → c ≡ 48 + j → ⊥) → ((j : ℕ) → j < 6 → c ≡ 65 + j → ⊥) → 16 ≡ place_in hex_digits c
no_hex c low high =
    sym
    (place_none hex_digits c
    (λ j l e. ⊎_elim (λ (h : j < 10). low j h (e ∙ hex_digit j h)) (λ (h : 10 ≤ j). high (j - 10) (omega arith) (e ∙ hex_letter j h l)) (cut j 10)))
