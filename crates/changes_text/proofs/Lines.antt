-- The lines of entries: one after the other, and found again in the bytes of the entries.
-- Assumes nothing.
use mathlib.Core.Path.{◌≡◌, refl, ap, ap₂, ◌∙◌}
use Prim.Native.Nat.{ℕ, suc, ◌+◌, ◌*◌, ◌-◌, ◌≤◌, ◌<◌}
use mathlib.Core.List.{List, [], ◌∷◌, ◌++◌, append-nil, append_assoc}
use native.Mathlib.Omega.{arith}
use borrow.Author.Tests.{ne_eqb}
use lib.ListN.{length, get_or, drop, drop_of_length-le}
use lib.Seq.{drop-drop, get_or-drop}
use Rattle.std.specs.Prelude.{Result}
use Rattle.paper.specs.Answer.{accepted, over}
use Rattle.paper.specs.TroubleCode.{TroubleCode, trouble_code}
use Rattle.paper.specs.Changes.{Entry, entry_bytes, entries_bytes, entry_from, entry_in}
use Rattle.paper.specs.ChangesProgram.{entry_line, entry_lines, changes_text}
use Rattle.paper.proofs.Changes.{entry_back, drop_entry}
use Rattle.wire.specs.Writing.{Wrote}
use Rattle.wire.specs.declared.refusal.Refusal.{Refusal}
use Rattle.wire.proofs.Writes.{filled}
use Rattle.changes_text.specs.Entries.{lines_in, changes_said}

-- bytes written over a room of their length are what it holds
pub fills : {bytes old new : List ℕ} {r : Result ℕ Refusal} → Wrote (accepted bytes) old r new → length bytes ≡ length old → new ≡ bytes
unfolding over
fills {bytes} {old} w e =
    let all : length old ≤ length bytes = omega (arith, e) in
    (filled refl w).given_room (omega (arith, e)) ∙ ap (λ (t : List ℕ). bytes ++ t) (drop_of_length-le old all) ∙ append-nil bytes

-- the entry whose six bytes stand there
pub entry_at : (s : List ℕ) (i : ℕ) {c : TroubleCode} → c ≡ trouble_code (get_or s (i + 1) 0) (get_or s (i + 2) 0) (get_or s (i + 3) 0)
    → entry_from (get_or s i 0) c (get_or s (i + 4) 0) (get_or s (i + 5) 0) ≡ entry_in (drop i s)
entry_at s i e = let first : i + 0 ≡ i = omega arith in rw e (simp (get_or-drop, first))

-- the line at place k, before those behind it
pub line_more : (s : List ℕ) (n k : ℕ) → k < n → lines_in (n - k) (drop (6 * k) s) ≡ entry_line (entry_in (drop (6 * k) s)) ++ lines_in (n - (k + 1)) (drop (6 * (k + 1)) s)
unfolding lines_in
line_more s n k h =
    let less : n - k ≡ suc (n - (k + 1)) = omega arith in
    let behind : 6 * k + 6 ≡ 6 * (k + 1) = omega arith in
    rw (less, drop-drop 6 (6 * k) s, behind) refl

-- and behind the last none
pub line_none : (s : List ℕ) (n k : ℕ) → n ≤ k → lines_in (n - k) s ≡ []
unfolding lines_in
line_none s n k h = let none : n - k ≡ 0 = omega arith in rw none refl

-- the lines of entries are found again in their bytes
pub lines_back : (es : List Entry) (t : List ℕ) → lines_in (length es) (entries_bytes es ++ t) ≡ entry_lines es
unfolding lines_in entries_bytes entry_lines
lines_back [] t = refl
lines_back (e ∷ es) t =
    ap (λ (s : List ℕ). entry_line (entry_in s) ++ lines_in (length es) (drop 6 s)) (append_assoc (entry_bytes e) (entries_bytes es) t)
    ∙ ap₂ (λ (d : Entry) (s : List ℕ). entry_line d ++ lines_in (length es) s) (entry_back e (entries_bytes es ++ t)) (drop_entry e (entries_bytes es ++ t))
    ∙ ap (λ (s : List ℕ). entry_line e ++ s) (lines_back es t)

pub changes_back : (es : List Entry) (t : List ℕ) → changes_said (length es) (entries_bytes es ++ t) ≡ changes_text es
changes_back [] t = refl
changes_back (e ∷ es) t = let some : suc (length es) ≡ 0 → ⊥ = λ h. omega arith in rw (ne_eqb _ _ some) (lines_back (e ∷ es) t)
