-- Document 02, Req 09 and Req 10: what some listings answer, an index and some lookups, by computing the definitions.
-- Assumes nothing.
use mathlib.Core.Path.{◌≡◌, refl}
use Prim.Native.Nat.{ℕ}
use mathlib.Core.List.{List, [], ◌∷◌, ◌++◌, map}
use mathlib.Core.Option.{none, some}
use lib.ListN.{length, get_or, set, replicate}
use Rattle.paper.specs.Answer.{refusal, Answer, accepted, refused, over, written}
use Rattle.paper.specs.TroubleCode.{TroubleCode, trouble_code}
use Rattle.paper.specs.Tally.{count, sum}
use Rattle.paper.specs.Listing.{SubFunction, by_status_mask, by_severity_mask, Listed, unknown_severity, known_severity, Listing, listing, one_by_one, records_in, read_listing, Head, head_of, record_at, records_bytes, listing_bytes, write_listing, handed_in, write_handed}
use Rattle.paper.specs.Listing.{first_place, numbers_from, Index, index_of, zero_index, index_in, same_numbers, has_code, Found, find, look_up}

-- ---- reading
-- a row: the message, and what reading it answers
abbrev rows : List (List ℕ × Answer Listing)
rows =
    -- no record is good; the mask is no record
    (0x59 ∷ 0x02 ∷ 0xFF ∷ [], accepted (listing by_status_mask 0xFF []))
    ∷ (0x59 ∷ 0x02 ∷ 0x00 ∷ 0x03 ∷ 0x01 ∷ 0x11 ∷ 0x2F ∷ [], accepted (listing by_status_mask 0x00 (unknown_severity (trouble_code 0x03 0x01 0x11) 0x2F ∷ [])))
    ∷ (0x59 ∷ 0x02 ∷ 0x7F ∷ 0x03 ∷ 0x01 ∷ 0x11 ∷ 0x2F ∷ 0xC1 ∷ 0x00 ∷ 0x00 ∷ 0x08 ∷ [], accepted (listing by_status_mask 0x7F (unknown_severity (trouble_code 0x03 0x01 0x11) 0x2F ∷ unknown_severity (trouble_code 0xC1 0x00 0x00) 0x08 ∷ [])))
    -- fewer than three bytes, whatever they are
    ∷ ([], refused (refusal 1 3 0))
    ∷ (0x59 ∷ 0x02 ∷ [], refused (refusal 1 3 2))
    ∷ (0x00 ∷ 0x00 ∷ [], refused (refusal 1 3 2))
    -- wrong first bytes, a cut record or not
    ∷ (0x19 ∷ 0x02 ∷ 0xFF ∷ [], refused (refusal 15 0 0))
    ∷ (0x59 ∷ 0x01 ∷ 0xFF ∷ [], refused (refusal 15 0 0))
    ∷ (0x59 ∷ 0x0A ∷ 0xFF ∷ 0x03 ∷ [], refused (refusal 15 0 0))
    -- a cut record
    ∷ (0x59 ∷ 0x02 ∷ 0xFF ∷ 0x03 ∷ [], refused (refusal 10 0 0))
    ∷ (0x59 ∷ 0x02 ∷ 0xFF ∷ 0x03 ∷ 0x01 ∷ 0x11 ∷ [], refused (refusal 10 0 0))
    ∷ (0x59 ∷ 0x02 ∷ 0xFF ∷ 0x03 ∷ 0x01 ∷ 0x11 ∷ 0x2F ∷ 0xC1 ∷ [], refused (refusal 10 0 0))
    ∷ []

pub rows_right : map (λ (r : List ℕ × Answer Listing). read_listing by_status_mask r.0) rows ≡ map (λ (r : List ℕ × Answer Listing). r.1) rows
unfolding one_by_one records_in read_listing
rows_right = refl

-- n zeros after the head: 4,096 records are taken, a cut one after them is seen, and one whole one more is too many, a cut one after it or not
abbrev zeros : ℕ → List ℕ
zeros n = 0x59 ∷ 0x02 ∷ 0xFF ∷ replicate n 0

abbrev head : ℕ → ℕ → Answer Head
head m n = accepted (record { mask = m; records = n })

pub limit : map (λ (n : ℕ). head_of (read_listing by_status_mask (zeros n))) (16384 ∷ 16387 ∷ 16388 ∷ 16389 ∷ []) ≡ head 0xFF 4096 ∷ refused (refusal 10 0 0) ∷ refused (refusal 12 0 0) ∷ refused (refusal 12 0 0) ∷ []
unfolding one_by_one records_in read_listing
limit = refl

-- ---- reading what the brake supplier answers: severity and functional unit before each code
abbrev severe_rows : List (List ℕ × Answer Listing)
severe_rows =
    (0x59 ∷ 0x08 ∷ 0xFF ∷ [], accepted (listing by_severity_mask 0xFF []))
    ∷ (0x59 ∷ 0x08 ∷ 0x7F ∷ 0x80 ∷ 0x10 ∷ 0x03 ∷ 0x01 ∷ 0x11 ∷ 0x2F ∷ 0x00 ∷ 0x00 ∷ 0xC1 ∷ 0x00 ∷ 0x00 ∷ 0x08 ∷ [], accepted (listing by_severity_mask 0x7F (known_severity 0x80 0x10 (trouble_code 0x03 0x01 0x11) 0x2F ∷ known_severity 0x00 0x00 (trouble_code 0xC1 0x00 0x00) 0x08 ∷ [])))
    ∷ (0x59 ∷ 0x08 ∷ [], refused (refusal 1 3 2))
    -- the other sub-function's listing, and a length that would be whole records of that one
    ∷ (0x59 ∷ 0x02 ∷ 0xFF ∷ [], refused (refusal 15 0 0))
    ∷ (0x59 ∷ 0x08 ∷ 0xFF ∷ 0x03 ∷ 0x01 ∷ 0x11 ∷ 0x2F ∷ [], refused (refusal 10 0 0))
    ∷ (0x59 ∷ 0x08 ∷ 0xFF ∷ 0x80 ∷ 0x10 ∷ 0x03 ∷ 0x01 ∷ 0x11 ∷ [], refused (refusal 10 0 0))
    ∷ []

pub severe_right : (map (λ (r : List ℕ × Answer Listing). read_listing by_severity_mask r.0) severe_rows ≡ map (λ (r : List ℕ × Answer Listing). r.1) severe_rows)
    × (read_listing by_status_mask (0x59 ∷ 0x08 ∷ 0xFF ∷ []) ≡ refused (refusal 15 0 0))
unfolding one_by_one records_in read_listing
severe_right = (refl, refl)

-- its records are six bytes: 4,096 are taken, a cut one after them is seen, and one whole one more is too many
pub severe_limit : map (λ (n : ℕ). head_of (read_listing by_severity_mask (0x59 ∷ 0x08 ∷ 0xFF ∷ replicate n 0))) (24576 ∷ 24581 ∷ 24582 ∷ []) ≡ head 0xFF 4096 ∷ refused (refusal 10 0 0) ∷ refused (refusal 12 0 0) ∷ []
unfolding one_by_one records_in read_listing
severe_limit = refl

-- ---- three records, of which the first and the last have one code
abbrev first : Listed
first = unknown_severity (trouble_code 0x03 0x01 0x11) 0x2F

abbrev second : Listed
second = unknown_severity (trouble_code 0xC1 0x00 0x00) 0x08

abbrev third : Listed
third = unknown_severity (trouble_code 0x03 0x01 0x11) 0x09

abbrev message : List ℕ
message = 0x59 ∷ 0x02 ∷ 0x7F ∷ 0x03 ∷ 0x01 ∷ 0x11 ∷ 0x2F ∷ 0xC1 ∷ 0x00 ∷ 0x00 ∷ 0x08 ∷ 0x03 ∷ 0x01 ∷ 0x11 ∷ 0x09 ∷ []

-- by place: none past the end, and none of a listing that is refused
pub places : map (λ (k : ℕ). record_at k (read_listing by_status_mask message)) (0 ∷ 1 ∷ 2 ∷ 3 ∷ 4096 ∷ []) ++ (record_at 0 (read_listing by_status_mask (0x5A ∷ message)) ∷ [])
    ≡ some first ∷ some second ∷ some third ∷ none ∷ none ∷ none ∷ []
unfolding one_by_one records_in read_listing
places = refl

-- the index: two records have high byte 0x03, the first of all among them; one has 0xC1, at place 1; no other byte has any, and there is 0
abbrev index : Index
index = index_in (read_listing by_status_mask message)

abbrev highs : List ℕ
highs = 0x00 ∷ 0x02 ∷ 0x03 ∷ 0x04 ∷ 0xC0 ∷ 0xC1 ∷ 0xC2 ∷ 0xFF ∷ []

pub index-right : (map (λ (h : ℕ). get_or index.counts h 9) highs ≡ 0 ∷ 0 ∷ 2 ∷ 0 ∷ 0 ∷ 1 ∷ 0 ∷ 0 ∷ [])
    × (map (λ (h : ℕ). get_or index.firsts h 9) highs ≡ 0 ∷ 0 ∷ 0 ∷ 0 ∷ 0 ∷ 1 ∷ 0 ∷ 0 ∷ [])
    × (length index.counts ∷ length index.firsts ∷ sum index.counts ∷ sum index.firsts ∷ [] ≡ 256 ∷ 256 ∷ 3 ∷ 1 ∷ [])
unfolding one_by_one records_in read_listing first_place numbers_from index_of count sum
index-right = (refl, refl, refl)

-- of a listing that is refused
pub index-refused : index_in (read_listing by_status_mask []) ≡ zero_index
unfolding read_listing
index-refused = refl

-- ---- lookups
-- indexes that are not this listing's own: the first of a high byte that no record has
abbrev wrong_first : Index
wrong_first = record { counts = index.counts; firsts = set index.firsts 0x10 1 }

-- a count
abbrev wrong-count : Index
wrong-count = record { counts = set index.counts 0x03 1; firsts = index.firsts }

-- the last of two records, for the first
abbrev late_first : Index
late_first = record { counts = index.counts; firsts = set index.firsts 0x03 2 }

-- another length
abbrev longer : Index
longer = record { counts = index.counts ++ (0 ∷ []); firsts = index.firsts }

-- another listing's
abbrev other : Index
other = zero_index

-- a row: the message, the index, the code, and what the lookup answers
abbrev Row : Type 0
Row = List ℕ × Index × TroubleCode × Answer Found

abbrev at_place : ℕ → Listed → Answer Found
at_place k r = accepted (record { place = k; «record» = r })

abbrev lookups : List Row
lookups =
    -- the first of two records with the code
    (message, index, trouble_code 0x03 0x01 0x11, at_place 0 first)
    ∷ (message, index, trouble_code 0xC1 0x00 0x00, at_place 1 second)
    -- a high byte that is there, and a code that is not; a high byte that is not
    ∷ (message, index, trouble_code 0x03 0x01 0x12, refused (refusal 16 0 0))
    ∷ (message, index, trouble_code 0x03 0x02 0x11, refused (refusal 16 0 0))
    ∷ (message, index, trouble_code 0x10 0x01 0x11, refused (refusal 16 0 0))
    -- the last record
    ∷ (0x59 ∷ 0x02 ∷ 0x7F ∷ 0x03 ∷ 0x01 ∷ 0x12 ∷ 0x2F ∷ 0xC1 ∷ 0x00 ∷ 0x00 ∷ 0x08 ∷ 0x03 ∷ 0x01 ∷ 0x11 ∷ 0x09 ∷ [], index, trouble_code 0x03 0x01 0x11, at_place 2 third)
    -- an index that is not this listing's own, whatever the code
    ∷ (message, wrong_first, trouble_code 0x03 0x01 0x11, refused (refusal 11 0 0))
    ∷ (message, wrong_first, trouble_code 0x03 0x01 0x12, refused (refusal 11 0 0))
    ∷ (message, wrong-count, trouble_code 0xC1 0x00 0x00, refused (refusal 11 0 0))
    ∷ (message, late_first, trouble_code 0xC1 0x00 0x00, refused (refusal 11 0 0))
    ∷ (message, longer, trouble_code 0xC1 0x00 0x00, refused (refusal 11 0 0))
    ∷ (message, other, trouble_code 0xC1 0x00 0x00, refused (refusal 11 0 0))
    -- no record, and its index of zeros; a listing that is refused, whatever the index
    ∷ (0x59 ∷ 0x02 ∷ 0x7F ∷ [], other, trouble_code 0x03 0x01 0x11, refused (refusal 16 0 0))
    ∷ (0x59 ∷ 0x02 ∷ [], wrong_first, trouble_code 0x03 0x01 0x11, refused (refusal 1 3 2))
    ∷ (0x59 ∷ message, other, trouble_code 0x03 0x01 0x11, refused (refusal 15 0 0))
    ∷ (message ++ (0x03 ∷ []), other, trouble_code 0x03 0x01 0x11, refused (refusal 10 0 0))
    ∷ []

pub lookups_right : map (λ (r : Row). look_up by_status_mask r.0 r.1 r.2) lookups ≡ map (λ (r : Row). r.3) lookups
unfolding one_by_one records_in read_listing first_place numbers_from index_of count same_numbers has_code find look_up
lookups_right = refl

-- ---- the same over the other form: the index is that of the codes, and a record is found with its severity
abbrev severe : List ℕ
severe = 0x59 ∷ 0x08 ∷ 0x7F ∷ 0x80 ∷ 0x10 ∷ 0x03 ∷ 0x01 ∷ 0x11 ∷ 0x2F ∷ 0x20 ∷ 0x33 ∷ 0xC1 ∷ 0x00 ∷ 0x00 ∷ 0x08 ∷ 0x40 ∷ 0x10 ∷ 0x03 ∷ 0x01 ∷ 0x11 ∷ 0x09 ∷ []

pub severe_index : index_in (read_listing by_severity_mask severe) ≡ index
unfolding one_by_one records_in read_listing first_place numbers_from index_of count
severe_index = refl

pub severe_lookups : map (λ (c : TroubleCode). look_up by_severity_mask severe index c) (trouble_code 0x03 0x01 0x11 ∷ trouble_code 0xC1 0x00 0x00 ∷ trouble_code 0x80 0x10 0x03 ∷ [])
    ≡ at_place 0 (known_severity 0x80 0x10 (trouble_code 0x03 0x01 0x11) 0x2F) ∷ at_place 1 (known_severity 0x20 0x33 (trouble_code 0xC1 0x00 0x00) 0x08) ∷ refused (refusal 16 0 0) ∷ []
unfolding one_by_one records_in read_listing first_place numbers_from index_of count same_numbers has_code find look_up
severe_lookups = refl

-- ---- writing
-- a record handed over: a mark, severity, functional unit, the code, the status
abbrev handed : ℕ → ℕ → ℕ → List ℕ
handed mark severity unit = mark ∷ severity ∷ unit ∷ 0x03 ∷ 0x01 ∷ 0x11 ∷ 0x2F ∷ []

abbrev write : SubFunction → List ℕ → Answer (List ℕ)
write f b = write_handed f 0x7F b

-- a listing, and the same from records that are handed over; a cut one is refused
pub writes : write_listing (listing by_status_mask 0x7F (first ∷ second ∷ third ∷ []))
    ∷ write by_status_mask (0 ∷ 0 ∷ 0 ∷ 0x03 ∷ 0x01 ∷ 0x11 ∷ 0x2F ∷ 0 ∷ 0 ∷ 0 ∷ 0xC1 ∷ 0x00 ∷ 0x00 ∷ 0x08 ∷ 0 ∷ 0 ∷ 0 ∷ 0x03 ∷ 0x01 ∷ 0x11 ∷ 0x09 ∷ []) ∷ write by_status_mask []
    ∷ write by_status_mask (0 ∷ 0 ∷ 0 ∷ 0x03 ∷ 0x01 ∷ 0x11 ∷ []) ∷ []
    ≡ accepted message ∷ accepted message ∷ accepted (0x59 ∷ 0x02 ∷ 0x7F ∷ []) ∷ refused (refusal 10 0 0) ∷ []
unfolding records_bytes listing_bytes first_place write_listing one_by_one handed_in write_handed
writes = refl

-- of sub-function 0x08 with severity and functional unit. The mark decides, whatever the two values: any mark but 0 says that they are known
pub severe_writes : write by_severity_mask (handed 1 0x80 0x10) ∷ write by_severity_mask (handed 0xFF 0 0) ∷ write by_status_mask (handed 0 0x80 0x10) ∷ []
    ≡ accepted (0x59 ∷ 0x08 ∷ 0x7F ∷ 0x80 ∷ 0x10 ∷ 0x03 ∷ 0x01 ∷ 0x11 ∷ 0x2F ∷ []) ∷ accepted (0x59 ∷ 0x08 ∷ 0x7F ∷ 0x00 ∷ 0x00 ∷ 0x03 ∷ 0x01 ∷ 0x11 ∷ 0x2F ∷ [])
    ∷ accepted (0x59 ∷ 0x02 ∷ 0x7F ∷ 0x03 ∷ 0x01 ∷ 0x11 ∷ 0x2F ∷ []) ∷ []
unfolding records_bytes listing_bytes first_place write_listing one_by_one handed_in write_handed
severe_writes = refl

-- 11 with the place of the first record that can't be written so; a cut one after it comes first
pub unfit_writes : write by_status_mask (handed 0 0 0 ++ handed 1 0 0) ∷ write by_severity_mask (handed 1 1 1 ++ (handed 7 0 0 ++ (handed 0 9 9 ++ handed 0 0 0))) ∷ write by_severity_mask (handed 0 0 0 ++ (0 ∷ [])) ∷ []
    ≡ refused (refusal 11 1 0) ∷ refused (refusal 11 2 0) ∷ refused (refusal 10 0 0) ∷ []
unfolding records_bytes listing_bytes first_place write_listing one_by_one handed_in write_handed
unfit_writes = refl

-- more than 4,096 whole records come before a cut one and one that can't be written so, all three before the room; with just enough room all bytes are written, the others stay
pub written_limits : (write by_severity_mask (replicate 28680 0) ≡ refused (refusal 12 0 0))
    × (written (write by_status_mask (replicate 6 0)) [] ≡ record { answer = refused (refusal 10 0 0); contents = [] })
    × (written (write by_status_mask (replicate 7 1)) [] ≡ record { answer = refused (refusal 11 0 0); contents = [] })
    × (written (write by_severity_mask (replicate 7 1)) (replicate 8 9) ≡ record { answer = refused (refusal 7 9 8); contents = replicate 8 9 })
    × (written (write by_severity_mask (replicate 7 1)) (replicate 10 9) ≡ record { answer = accepted 9; contents = 0x59 ∷ 0x08 ∷ 0x7F ∷ 1 ∷ 1 ∷ 1 ∷ 1 ∷ 1 ∷ 1 ∷ 9 ∷ [] })
unfolding records_bytes listing_bytes first_place write_listing one_by_one handed_in write_handed over
written_limits = (refl, refl, refl, refl, refl)
