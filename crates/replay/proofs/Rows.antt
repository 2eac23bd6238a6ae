-- The rows of four bytes that a log is: what is left of them, and the record at the place where that begins, read out of the log's bytes.
-- Assumes nothing.
use Rattle.std.proofs.Common.{◌≡◌, ℕ, zero, suc, ◌+◌, ◌-◌, ◌*◌, ◌<◌, ◌≤◌, List, [], ◌∷◌, length, get_or, take, refl, arith, lit<}
use Rattle.std.specs.List.{flat_map}
use Rattle.std.proofs.lemmas.Grind.{common_steps}
use Rattle.std.proofs.lemmas.List.{drop-drop, length-append}
use Rattle.std.proofs.lemmas.List.Concat.{get_or-flat_map}
use Rattle.replay.specs.Replay.{IsRecord}
use Rattle.replay.specs.Run.{IsEnd}
use Rattle.replay.specs.declared.LogRecord.{LogRecord}

-- ---- what is left of a log
-- at first all of it
pub all_left : (rows : List (List ℕ)) → IsEnd rows rows
all_left rows = grind (arith, common_steps)

-- what is left of what was left
pub end_of_end : {left rest : List (List ℕ)} (rows : List (List ℕ)) → IsEnd left rest → IsEnd rest rows → IsEnd left rows
end_of_end rows p q = grind (arith, common_steps, drop-drop)

-- all but the first row
pub without_first : {rest left : List (List ℕ)} {row : List ℕ} → rest ≡ row ∷ left → IsEnd left rest
without_first {left = left} here = let one : suc (length left) - length left ≡ 1 = omega arith in rw (here, one) refl

-- ---- the bytes of a log of rows of four
abbrev Fours : List (List ℕ) → Type 0
Fours rows = (i : ℕ) → i < length rows → length (get_or rows i []) ≡ 4

length-fours : (rows : List (List ℕ)) (n : ℕ) → Fours rows → n ≤ length rows → length (flat_map (λ x. x) (take n rows)) ≡ 4 * n
length-fours rows zero f h = refl
length-fours [] (suc n) f h = absurd (omega arith)
length-fours (row ∷ rows) (suc n) f h =
    omega (arith, length-append row (flat_map (λ x. x) (take n rows)), f 0 (omega arith), length-fours rows n (λ i l. f (suc i) (omega arith)) (omega arith))

byte_there : (rows rest left : List (List ℕ)) (row : List ℕ) → rest ≡ row ∷ left → IsEnd rest rows → Fours rows → (i j : ℕ) → j < 4 → i ≡ 4 * (length rows - length rest) + j
    → get_or (flat_map (λ x. x) rows) i 0 ≡ get_or row j 0
byte_there rows rest left row here end f i j l e =
    let at = length rows - length rest in
    let h : at < length rows = grind (arith, common_steps) in
    let there : get_or rows at [] ≡ row = grind (arith, common_steps) in
    let byte = get_or-flat_map (λ x. x) rows at j [] 0 h (omega (arith, f at h)) in
    rw (e, ← there) (rw (length-fours rows at f (omega arith)) at byte)

-- the record that its four bytes are
pub read_there : (rows : List (List ℕ)) → Fours rows → {rest left : List (List ℕ)} {row : List ℕ} → rest ≡ row ∷ left → (flat : List ℕ) (r : LogRecord) → flat ≡ flat_map (λ x. x) rows → IsEnd rest rows
    → (let at = length rows - length rest in IsRecord (get_or flat (4 * at) 0 ∷ get_or flat (4 * at + 1) 0 ∷ get_or flat (4 * at + 2) 0 ∷ get_or flat (4 * at + 3) 0 ∷ []) r) → IsRecord row r
read_there rows f {rest} {left} {row} here flat r e end is =
    let byte = byte_there rows rest left row here end f in
    let at = 4 * (length rows - length rest) in
    record { right = rw (e, byte at 0 (lit< tt) (omega arith), byte (at + 1) 1 (lit< tt) refl, byte (at + 2) 2 (lit< tt) refl, byte (at + 3) 3 (lit< tt) refl) at is.right; short = is.short }
