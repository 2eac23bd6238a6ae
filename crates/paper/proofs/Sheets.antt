-- Document 02, Req 01: what the tally answers to some sheets, by computing the definitions.
-- Assumes nothing.
use mathlib.Core.Path.{◌≡◌, refl}
use Prim.Native.Nat.{ℕ, zero}
use mathlib.Core.Bool.{true, false}
use mathlib.Core.List.{List, [], ◌∷◌, ◌++◌, map}
use lib.ListN.{replicate}
use Rattle.std.proofs.lemmas.List.{length-replicate}
use Rattle.paper.specs.Answer.{Refusal, refusal, Answer, accepted, refused}
use Rattle.paper.specs.Bytes.{of_bytes}
use Rattle.paper.specs.Utf8.{in_range}
use Rattle.paper.specs.Tally.{entry_of, entries, records, in_ranges, all_good, count, table, good_length, tallied, table_of}

-- the bytes of a record of station 7 and coach 123,456
abbrev entry : (month direction number : ℕ) → List ℕ
entry m d n = m ∷ 7 ∷ d ∷ n ∷ 0x00 ∷ 0x01 ∷ 0xE2 ∷ 0x40 ∷ []

-- the fields, each from its bytes; the coach number has its highest byte first
fields : entry_of (3 ∷ 200 ∷ 1 ∷ 6 ∷ 0x01 ∷ 0x02 ∷ 0x03 ∷ 0x04 ∷ []) ≡ record { month = 3; station = 200; direction = 1; number = 6; coach = 0x01020304 }
unfolding of_bytes
fields = refl

-- the ranges: both ends of each, and what lies beyond
ranges : (map (λ (m : ℕ). in_ranges m 0 0) (0 ∷ 1 ∷ 12 ∷ 13 ∷ 255 ∷ []) ≡ false ∷ true ∷ true ∷ false ∷ false ∷ [])
    × (map (λ (d : ℕ). in_ranges 1 d 0) (0 ∷ 1 ∷ 2 ∷ 255 ∷ []) ≡ true ∷ true ∷ false ∷ false ∷ [])
    × (map (λ (n : ℕ). in_ranges 1 0 n) (0 ∷ 9 ∷ 10 ∷ 255 ∷ []) ≡ true ∷ true ∷ false ∷ false ∷ [])
unfolding in_ranges in_range
ranges = (refl, refl, refl)

abbrev none : List ℕ
none = replicate 10 0

-- a row: the sheet, and the answer
abbrev pub rows : List (List ℕ × Answer (List (List ℕ)))
rows =
    -- no record
    ([], accepted (replicate 12 none))
    -- January with refusals 0, 0, 6
    ∷ (entry 1 0 0 ++ (entry 1 1 0 ++ entry 1 0 6), accepted ((2 ∷ 0 ∷ 0 ∷ 0 ∷ 0 ∷ 0 ∷ 1 ∷ 0 ∷ 0 ∷ 0 ∷ []) ∷ replicate 11 none))
    -- June and the corners of the table: the first and the last month, the first and the last number
    ∷ (
      entry 12 1 9 ++ (entry 6 0 3 ++ (entry 1 0 0 ++ (entry 12 0 9 ++ (entry 1 1 9 ++ entry 12 1 0)))),
      accepted
          ((1 ∷ 0 ∷ 0 ∷ 0 ∷ 0 ∷ 0 ∷ 0 ∷ 0 ∷ 0 ∷ 1 ∷ [])
          ∷ none ∷ none ∷ none ∷ none
          ∷ (0 ∷ 0 ∷ 0 ∷ 1 ∷ 0 ∷ 0 ∷ 0 ∷ 0 ∷ 0 ∷ 0 ∷ [])
          ∷ none ∷ none ∷ none ∷ none ∷ none
          ∷ (1 ∷ 0 ∷ 0 ∷ 0 ∷ 0 ∷ 0 ∷ 0 ∷ 0 ∷ 0 ∷ 2 ∷ [])
          ∷ []),
    )
    -- station and coach number may be anything
    ∷ (1 ∷ 255 ∷ 0 ∷ 0 ∷ 255 ∷ 255 ∷ 255 ∷ 255 ∷ (1 ∷ 0 ∷ 0 ∷ 0 ∷ 0 ∷ 0 ∷ 0 ∷ 0 ∷ []), accepted ((2 ∷ 0 ∷ 0 ∷ 0 ∷ 0 ∷ 0 ∷ 0 ∷ 0 ∷ 0 ∷ 0 ∷ []) ∷ replicate 11 none))
    -- 11 carries the place of the record, not of its byte: month, direction, number out of range
    ∷ (entry 0 0 0, refused (refusal 11 0 0))
    ∷ (entry 1 0 0 ++ entry 13 0 0, refused (refusal 11 1 0))
    ∷ (entry 1 0 0 ++ (entry 1 1 1 ++ entry 1 2 0), refused (refusal 11 2 0))
    ∷ (entry 1 0 0 ++ (entry 1 0 10 ++ entry 1 0 0), refused (refusal 11 1 0))
    -- several fields of one record, and several records: the first record
    ∷ (entry 1 0 0 ++ (entry 0 9 99 ++ entry 13 0 0), refused (refusal 11 1 0))
    -- 10 where the length is no multiple of 8, before any record is judged
    ∷ (1 ∷ [], refused (refusal 10 0 0))
    ∷ (1 ∷ 7 ∷ 0 ∷ 0 ∷ 0 ∷ 0 ∷ 0 ∷ [], refused (refusal 10 0 0))
    ∷ (entry 1 0 0 ++ (1 ∷ []), refused (refusal 10 0 0))
    ∷ (entry 13 0 0 ++ (1 ∷ []), refused (refusal 10 0 0))
    ∷ []

-- to each sheet the answer of its row is given
pub rows_right : map (λ (r : List ℕ × Answer (List (List ℕ))). tallied r.0) rows ≡ map (λ (r : List ℕ × Answer (List (List ℕ))). r.1) rows
unfolding in_range entries records in_ranges all_good count table tallied
rows_right = refl

-- what the length alone decides, of two sheets of zeros of any length: so none of them is computed
by_length : (n m : ℕ) {r q : Refusal} → good_length n ≡ refused r → good_length m ≡ refused q → map (λ (k : ℕ). tallied (replicate k 0)) (n ∷ m ∷ []) ≡ refused r ∷ refused q ∷ []
unfolding tallied
by_length n m e h = rw (length-replicate n zero, length-replicate m zero, e, h) refl

-- 65,536 records and a piece are 10; with one record more it is 12, piece or not
many : map (λ (n : ℕ). tallied (replicate n 0)) (524289 ∷ 524297 ∷ []) ≡ refused (refusal 10 0 0) ∷ refused (refusal 12 0 0) ∷ []
many = by_length 524289 524297 refl refl

-- each refusal gives a table of zeros
zeros : map (λ (e : ℕ). table_of (refused (refusal e 3 0))) (10 ∷ 11 ∷ 12 ∷ []) ≡ replicate 3 (replicate 12 none)
zeros = refl
