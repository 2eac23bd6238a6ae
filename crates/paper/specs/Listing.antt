-- Document 02, Req 09 and Req 10: trouble-code listings, the answer to ISO 14229-1 ReadDTCInformation, with an index beside them. The sub-function, and with it a record's form, is a parameter of
-- every definition; index and lookup are stated once over both.
use Rattle.std.specs.Prelude.{ℕ, zero, suc, ◌-◌, ◌/◌, ◌%◌, ◌<◌, ◌≤◌, ◌≡◌, Bool, true, false, not, List, [], ◌∷◌, ◌++◌, map, length, get_or, drop, replicate, leb, eqb}
use Rattle.std.proofs.Math.Option.{Option, none, some}
use Rattle.std.proofs.Math.ListN.{get_elem?}
use Rattle.paper.specs.Choice.{pick, both}
use Rattle.paper.specs.Answer.{too_short, cut, out_of_range, too_many, unknown_service, no_such_code, Answer, accepted, refused, check}
use Rattle.paper.specs.Bytes.{Bytes}
use Rattle.paper.specs.TroubleCode.{TroubleCode, trouble_code, trouble_code_bytes}
use Rattle.paper.specs.Tally.{count}
use Rattle.paper.specs.Joined.{Each}

-- ---- the sub-functions, and a record in each
pub data SubFunction : Type 0 where
  by_status_mask : SubFunction
  by_severity_mask : SubFunction

abbrev pub sub_function_byte : SubFunction → ℕ
sub_function_byte by_status_mask = 0x02
sub_function_byte by_severity_mask = 0x08

-- the shared trouble-code record: whether severity and functional unit are known, these two, a code and its status
pub record Listed : Type 0 where
  pub known : Bool
  pub severity : ℕ
  pub functional_unit : ℕ
  pub code : TroubleCode
  pub status : ℕ

-- severity and functional unit are unknown, both 0
abbrev pub unknown_severity : TroubleCode → ℕ → Listed
unknown_severity c st = record { known = false; severity = 0; functional_unit = 0; code = c; status = st }

-- they are known
abbrev pub known_severity : ℕ → ℕ → TroubleCode → ℕ → Listed
known_severity severity unit c st = record { known = true; severity = severity; functional_unit = unit; code = c; status = st }

abbrev pub record_size : SubFunction → ℕ
record_size by_status_mask = 4
record_size by_severity_mask = 6

-- the record at the start of some bytes: three code bytes and a status byte, in the second form after severity and functional unit
abbrev pub record_of : SubFunction → List ℕ → Listed
record_of by_status_mask b = unknown_severity (trouble_code (get_or b 0 0) (get_or b 1 0) (get_or b 2 0)) (get_or b 3 0)
record_of by_severity_mask b = known_severity (get_or b 0 0) (get_or b 1 0) (trouble_code (get_or b 2 0) (get_or b 3 0) (get_or b 4 0)) (get_or b 5 0)

-- and its bytes
abbrev pub record_bytes : SubFunction → Listed → List ℕ
record_bytes by_status_mask r = trouble_code_bytes r.code ++ (r.status ∷ [])
record_bytes by_severity_mask r = r.severity ∷ r.functional_unit ∷ trouble_code_bytes r.code ++ (r.status ∷ [])

-- ---- a listing
pub record Listing : Type 0 where
  pub sub_function : SubFunction
  pub mask : ℕ
  pub records : List Listed

abbrev pub listing : SubFunction → ℕ → List Listed → Listing
listing f m rs = record { sub_function = f; mask = m; records = rs }

-- its first byte
abbrev pub answer_byte : ℕ
answer_byte = 0x59

-- n records, one after the other, each of so many bytes
unfoldable pub one_by_one : (size : ℕ) → (List ℕ → Listed) → ℕ → List ℕ → List Listed
one_by_one size of zero s = []
one_by_one size of (suc n) s = of s ∷ one_by_one size of n (drop size s)

-- the records of a sub-function
unfoldable pub records_in : SubFunction → ℕ → List ℕ → List Listed
records_in f n s = one_by_one (record_size f) (record_of f) n s

-- how many whole records the bytes after the mask have
abbrev pub whole_records : SubFunction → List ℕ → ℕ
whole_records f s = (length s - 3) / record_size f

-- ---- reading: 1 for fewer than 3 bytes, 15 for wrong first bytes, 12 for more than 4,096 whole records, 10 for a cut one; none is good
unfoldable pub read_listing : SubFunction → List ℕ → Answer Listing
read_listing f s =
    check (leb 3 (length s)) (too_short 3 (length s))
    (check (both (eqb (get_or s 0 0) answer_byte) (eqb (get_or s 1 0) (sub_function_byte f))) (unknown_service 0)
    (check (leb (whole_records f s) 4096) too_many
    (check (eqb ((length s - 3) % record_size f) 0) cut
    (accepted (listing f (get_or s 2 0) (records_in f (whole_records f s) (drop 3 s)))))))

-- the listing stays in its message; what a reader hands out of it is the mask, and how many records there are
pub record Head : Type 0 where
  pub mask : ℕ
  pub records : ℕ

abbrev pub head_of : Answer Listing → Answer Head
head_of (accepted l) = accepted (record { mask = l.mask; records = length l.records })
head_of (refused e) = refused e

-- and the record at a place: none past the end, and none of a listing that is refused
abbrev pub record_at : ℕ → Answer Listing → Option Listed
record_at k (accepted l) = get_elem? l.records k
record_at k (refused e) = none

-- ---- writing
-- the bytes of records, one after the other
unfoldable pub records_bytes : SubFunction → List Listed → List ℕ
records_bytes f [] = []
records_bytes f (r ∷ rs) = record_bytes f r ++ records_bytes f rs

-- the two first bytes, the mask, the records
unfoldable pub listing_bytes : Listing → List ℕ
listing_bytes l = answer_byte ∷ sub_function_byte l.sub_function ∷ l.mask ∷ records_bytes l.sub_function l.records

-- the place of the first element that passes a test, counted from 0; where none does, as many as there are
unfoldable pub first_place : {A : Type 0} → (A → Bool) → List A → ℕ
first_place test [] = 0
first_place test (x ∷ xs) = pick (test x) 0 (suc (first_place test xs))

-- a record that can't be written so: of 0x02 one with known severity, of 0x08 one without
abbrev pub unfit : SubFunction → Listed → Bool
unfit by_status_mask r = r.known
unfit by_severity_mask r = not r.known

-- where the first such record stands
abbrev pub first_unfit : Listing → ℕ
first_unfit l = first_place (unfit l.sub_function) l.records

-- 12 for more than 4,096 records, then 11 with the place of the first that can't be written so (the check of room, 7, comes with the buffer)
unfoldable pub write_listing : Listing → Answer (List ℕ)
write_listing l =
    check (leb (length l.records) 4096) too_many
    (check (eqb (first_unfit l) (length l.records)) (out_of_range (first_unfit l))
    (accepted (listing_bytes l)))

-- records as a caller hands them over, whatever the sub-function: a mark, severity, functional unit, three code bytes and a status byte each. The mark decides: where it is 0 the two after it are
-- unknown, whatever stands there
abbrev pub handed_size : ℕ
handed_size = 7

abbrev pub handed_of : List ℕ → Listed
handed_of b =
    let c = trouble_code (get_or b 3 0) (get_or b 4 0) (get_or b 5 0) in
    pick (eqb (get_or b 0 0) 0) (unknown_severity c (get_or b 6 0)) (known_severity (get_or b 1 0) (get_or b 2 0) c (get_or b 6 0))

unfoldable pub handed_in : ℕ → List ℕ → List Listed
handed_in n b = one_by_one handed_size handed_of n b

-- 12 for more than 4,096 whole ones, then 10 for a cut one, then 11 (and then 7, with the buffer)
unfoldable pub write_handed : SubFunction → ℕ → List ℕ → Answer (List ℕ)
write_handed f m b =
    check (leb (length b / handed_size) 4096) too_many
    (check (eqb (length b % handed_size) 0) cut
    (write_listing (listing f m (handed_in (length b / handed_size) b))))

-- a record as the sub-function has it: of 0x02 severity and functional unit are unknown, both 0, and of 0x08 they are known
abbrev pub InForm : SubFunction → Listed → Type 0
InForm by_status_mask r = (r.known ≡ false) × (r.severity ≡ 0) × (r.functional_unit ≡ 0)
InForm by_severity_mask r = r.known ≡ true

-- a listing's way of being written: its sub-function, few enough records, each in its form, its numbers bytes
pub record ListingWay (f : SubFunction) (l : Listing) (s : List ℕ) : Type 0 where
  pub kind : l.sub_function ≡ f
  pub few : length l.records ≤ 4096
  pub form : Each (InForm f) l.records
  pub bytes : Bytes (listing_bytes l)
  pub is : s ≡ listing_bytes l

-- ---- the index
-- the record has this high byte
abbrev pub has_high : ℕ → Listed → Bool
has_high h r = eqb r.code.high h

-- how many records have it
abbrev pub how_many : List Listed → ℕ → ℕ
how_many rs h = count (has_high h) rs

-- and the place of the first, 0 where there is none
abbrev pub first_with : List Listed → ℕ → ℕ
first_with rs h = pick (eqb (how_many rs h) 0) 0 (first_place (has_high h) rs)

-- n numbers from k on
unfoldable pub numbers_from : ℕ → ℕ → List ℕ
numbers_from k zero = []
numbers_from k (suc n) = k ∷ numbers_from (suc k) n

-- for each of the 256 high bytes: how many records have it, and the place of the first
pub record Index : Type 0 where
  pub counts : List ℕ
  pub firsts : List ℕ

unfoldable pub index_of : List Listed → Index
index_of rs = record { counts = map (how_many rs) (numbers_from 0 256); firsts = map (first_with rs) (numbers_from 0 256) }

-- the index of a listing that was read, and all zeros where it is refused
abbrev pub zero_index : Index
zero_index = record { counts = replicate 256 0; firsts = replicate 256 0 }

abbrev pub index_in : Answer Listing → Index
index_in (accepted l) = index_of l.records
index_in (refused e) = zero_index

-- two lists of numbers are the same
unfoldable pub same_numbers : List ℕ → List ℕ → Bool
same_numbers [] [] = true
same_numbers [] (y ∷ ys) = false
same_numbers (x ∷ xs) [] = false
same_numbers (x ∷ xs) (y ∷ ys) = both (eqb x y) (same_numbers xs ys)

-- an index is a listing's own if all its counts and first places are
abbrev pub own_index : List Listed → Index → Bool
own_index rs x = both (same_numbers x.counts (index_of rs).counts) (same_numbers x.firsts (index_of rs).firsts)

-- ---- looking up a code
-- the record has this code
unfoldable pub has_code : TroubleCode → Listed → Bool
has_code c r = both (eqb r.code.high c.high) (both (eqb r.code.middle c.middle) (eqb r.code.low c.low))

-- a record and its place
pub record Found : Type 0 where
  pub place : ℕ
  pub «record» : Listed

-- the first record that has the code, k being the place of the first of these; else 16
unfoldable pub find : ℕ → TroubleCode → List Listed → Answer Found
find k c [] = refused no_such_code
find k c (r ∷ rs) = pick (has_code c r) (accepted (record { place = k; «record» = r })) (find (suc k) c rs)

-- in a listing that was read: 11 for an index that isn't its own, then 16
abbrev pub look_up_in : Index → TroubleCode → Answer Listing → Answer Found
look_up_in x c (accepted l) = check (own_index l.records x) (out_of_range 0) (find 0 c l.records)
look_up_in x c (refused e) = refused e

-- reading's refusals first
unfoldable pub look_up : SubFunction → List ℕ → Index → TroubleCode → Answer Found
look_up f s x c = look_up_in x c (read_listing f s)

-- ---- what is to hold of a lookup, said by places
-- the first record that has the code: it stands at its place, it has the code, and no record before it has
pub record First (c : TroubleCode) (rs : List Listed) (x : Found) : Type 0 where
  pub stands : get_elem? rs x.place ≡ some x.«record»
  pub has : x.«record».code ≡ c
  pub earlier : (k : ℕ) (r : Listed) → k < x.place → get_elem? rs k ≡ some r → r.code ≡ c → ⊥

-- no record has it
abbrev pub NoneHas : TroubleCode → List Listed → Type 0
NoneHas c rs = (k : ℕ) (r : Listed) → get_elem? rs k ≡ some r → r.code ≡ c → ⊥
