-- What some numbers mean, and what is written of it into rooms of several lengths, by computing the definitions.
-- Assumes nothing.
use mathlib.Core.Path.{◌≡◌, refl}
use Prim.Native.Nat.{ℕ, ◌-◌, ◌^◌}
use mathlib.Core.List.{[], ◌∷◌, map}
use lib.ListN.{replicate}
use Rattle.paper.specs.Answer.{refusal, accepted, refused, over, written}
use Rattle.paper.specs.Kind.{one_of}
use Rattle.paper.specs.ReadingProgram.{ascii}
use Rattle.refusal_words.specs.Words.{among, meaning}

-- the letters of 0, and the words of the last number of each document
letters : meaning 0 ≡ accepted (97 ∷ 99 ∷ 99 ∷ 101 ∷ 112 ∷ 116 ∷ 101 ∷ 100 ∷ [])
unfolding meaning among one_of
letters = refl

last_01 : meaning 9 ≡ accepted (ascii "bytes left over: the message ends before its bytes do")
unfolding meaning among one_of
last_01 = refl

last_02 : meaning 18 ≡ accepted (ascii "bad character: a character cannot stand where it does, or the text ends early")
unfolding meaning among one_of
last_02 = refl

-- other numbers have none
unknown : map meaning (19 ∷ 255 ∷ (2 ^ 64 - 1) ∷ []) ≡ refused (refusal 11 0 0) ∷ refused (refusal 11 0 0) ∷ refused (refusal 11 0 0) ∷ []
unfolding meaning among one_of
unknown = refl

-- how many bytes the words of 0 to 18 have: what is answered where the room is 88 bytes
counted : map (λ (n : ℕ). (written (meaning n) (replicate 88 0)).answer) (0 ∷ 1 ∷ 2 ∷ 3 ∷ 4 ∷ 5 ∷ 6 ∷ 7 ∷ 8 ∷ 9 ∷ 10 ∷ 11 ∷ 12 ∷ 13 ∷ 14 ∷ 15 ∷ 16 ∷ 17 ∷ 18 ∷ [])
    ≡ accepted 8 ∷ accepted 48 ∷ accepted 61 ∷ accepted 47 ∷ accepted 62 ∷ accepted 47 ∷ accepted 39 ∷ accepted 55 ∷ accepted 61 ∷ accepted 53 ∷ accepted 53 ∷ accepted 88 ∷ accepted 59 ∷ accepted 39 ∷ accepted 68 ∷ accepted 79 ∷ accepted 37 ∷ accepted 42 ∷ accepted 77 ∷ []
unfolding meaning among one_of
counted = refl

-- room for the letters and more keeps what stands behind them; a byte too few is 7, and an unknown number 11 in any room, with nothing written
roomy : written (meaning 0) (replicate 10 7) ≡ record { answer = accepted 8; contents = 97 ∷ 99 ∷ 99 ∷ 101 ∷ 112 ∷ 116 ∷ 101 ∷ 100 ∷ 7 ∷ 7 ∷ [] }
unfolding meaning among one_of over
roomy = refl

too_small : written (meaning 0) (replicate 7 7) ≡ record { answer = refused (refusal 7 8 7); contents = replicate 7 7 }
unfolding meaning among one_of
too_small = refl

unknown-first : written (meaning 19) [] ≡ record { answer = refused (refusal 11 0 0); contents = [] }
unfolding meaning among one_of
unknown-first = refl
