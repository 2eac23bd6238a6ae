-- The words of the program's line put together, and the words that its argument can be.
-- Assumes nothing.
use mathlib.Core.Path.{◌≡◌, ap, ◌∙◌}
use Prim.Native.Nat.{ℕ, ◌+◌, ◌≤◌, ◌<◌}
use mathlib.Core.List.{List, ◌++◌, append_assoc}
use native.Mathlib.Omega.{arith}
use borrow.Author.Tests.{lt-leb, le-leb}
use lib.ListN.{length}
use Rattle.paper.specs.Answer.{Refusal}
use Rattle.paper.specs.ReadingProgram.{decimal, ascii, text_of, too_long}
use Rattle.paper.specs.Reason.{Field, field_of, Fault, Check, Verdict, stops, first_failed}
use Rattle.paper.specs.WhyProgram.{called, sentence, refused_text, why_text, why_line, Sort, request, response, word_of}
use Rattle.ascii_text.specs.Text.{Laid, Put, field}
use Rattle.ascii_text.proofs.Laid.{field-short, put-laid, put_as}
use Rattle.reason_line.specs.Text.{place_words, place_text, end_text}

-- ---- the argument
-- a word that is neither sort's
pub no_word : {word : List ℕ} → (word ≡ ascii "request" → ⊥) → (word ≡ ascii "response" → ⊥) → (sort : Sort) → word ≡ ascii (word_of sort) → ⊥
no_word f g request is = f is
no_word f g response is = g is

-- ---- the line
six : (a b c d e f : List ℕ) → ((a ++ b) ++ (c ++ d)) ++ (e ++ f) ≡ a ++ (b ++ (c ++ (d ++ (e ++ f))))
six a b c d e f = simp append_assoc

-- the numbers of a refusal are its text
pub refusal_is : {r : Refusal} {n a b : ℕ} → n ≡ r.number → a ≡ r.first → b ≡ r.second
    → ((ascii "refused " ++ decimal n) ++ (ascii " " ++ decimal a)) ++ (ascii " " ++ decimal b) ≡ refused_text r
refusal_is {r} e f g = rw (e, f, g) (six (ascii "refused ") (decimal r.number) (ascii " ") (decimal r.first) (ascii " ") (decimal r.second))

eight : (a b c d e f g h : List ℕ) → (a ++ ((b ++ (c ++ d)) ++ e)) ++ (f ++ (g ++ h)) ≡ a ++ (b ++ (c ++ (d ++ (e ++ (f ++ (g ++ h))))))
eight a b c d e f g h = simp append_assoc

-- a field's words are put, and its offset after them
pub place_put : {words : List ℕ} (g : Field) (o : ℕ) {n : ℕ} {old new : List ℕ} → Laid (field words o) n old new → n ≤ length words + 20 → words ≡ place_words g → length words ≤ 18
    → Put (place_text g o) n 38 old new
place_put {words} g o laid most is short = put_as (put-laid laid most) (field-short words o (omega arith) ∙ ap (λ (w : List ℕ). w ++ decimal o) is) (omega arith)

-- the refusal, the field with its offset, and the sentence are the text of a reason
pub reason-is : (f : Fault) (o : ℕ) (r : Refusal) {g : Field} → g ≡ field_of f → (refused_text r ++ place_text g o) ++ end_text f ≡ why_text (stops f o r)
unfolding why_text
reason-is f o r e =
    rw e (eight (refused_text r) (ascii ": ") (ascii (called (field_of f))) (ascii " at ") (decimal o) (ascii ": ") (ascii (sentence f)) (ascii "\n"))

-- the input is too long
pub too_long_lem : (checks : List Check) (s : List ℕ) → 131072 < length s → text_of too_long ≡ why_line checks s
unfolding why_line
too_long_lem checks s h = rw (lt-leb _ _ h)

-- it is not: the checks decide
pub by_checks : (checks : List Check) (s : List ℕ) {v : Verdict} → length s ≤ 131072 → v ≡ first_failed checks s → why_text v ≡ why_line checks s
unfolding why_line
by_checks checks s h e = rw (le-leb _ _ h) (ap why_text e)
