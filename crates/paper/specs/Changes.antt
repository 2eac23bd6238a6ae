-- Document 02, Req 11: what changed between two listings, either of them of sub-function 0x02 or 0x08. Availability masks aren't compared.
use Rattle.std.specs.Prelude.{ℕ, suc, ◌+◌, ◌<◌, ◌≡◌, Bool, List, [], ◌∷◌, ◌++◌, length, get_or, eqb, ltb}
use Rattle.std.specs.Bool.{beq}
use Rattle.std.proofs.Math.Option.{some}
use Rattle.std.proofs.Math.ListN.{get_elem?}
use Rattle.paper.specs.Choice.{pick, both}
use Rattle.paper.specs.Answer.{repeated, Answer, accepted, refused, check, Written, written}
use Rattle.paper.specs.TroubleCode.{TroubleCode, trouble_code, trouble_code_bytes}
use Rattle.paper.specs.Tally.{count}
use Rattle.paper.specs.Listing.{SubFunction, Listed, Listing, read_listing, has_code, Found, find, NoneHas}

-- ---- an entry
-- a code that is gone, with its old status; one whose record differs, with both; one that is new, with its new status
pub data Entry : Type 0 where
  gone : TroubleCode → (old : ℕ) → Entry
  differs : TroubleCode → (old new : ℕ) → Entry
  added : TroubleCode → (new : ℕ) → Entry

-- its 6 bytes: 1 gone, 2 differs or 3 new, three code bytes, old status, new status, with 0 for the one that is missing
abbrev pub entry_bytes : Entry → List ℕ
entry_bytes (gone c old) = 1 ∷ trouble_code_bytes c ++ (old ∷ 0 ∷ [])
entry_bytes (differs c old new) = 2 ∷ trouble_code_bytes c ++ (old ∷ new ∷ [])
entry_bytes (added c new) = 3 ∷ trouble_code_bytes c ++ (0 ∷ new ∷ [])

-- the bytes of entries, one after the other
unfoldable pub entries_bytes : List Entry → List ℕ
entries_bytes [] = []
entries_bytes (e ∷ es) = entry_bytes e ++ entries_bytes es

-- the entry that such bytes are; no entry begins with another number than 1, 2 or 3, and here any other is taken for 3
abbrev pub entry_from : (kind : ℕ) → TroubleCode → (old new : ℕ) → Entry
entry_from kind c old new = pick (eqb kind 1) (gone c old) (pick (eqb kind 2) (differs c old new) (added c new))

-- the entry at the start of some bytes
abbrev pub entry_in : List ℕ → Entry
entry_in b = entry_from (get_or b 0 0) (trouble_code (get_or b 1 0) (get_or b 2 0) (get_or b 3 0)) (get_or b 4 0) (get_or b 5 0)

-- ---- the list
-- two records of one code are the same: in status, in the mark, in severity and in functional unit. So an unknown severity differs from a known one
unfoldable pub same_record : Listed → Listed → Bool
same_record r q =
    both (eqb r.status q.status)
    (both (beq r.known q.known)
    (both (eqb r.severity q.severity) (eqb r.functional_unit q.functional_unit)))

-- what is listed of a record of the first listing, by what the second has of its code: that it is gone, that it differs, or nothing
abbrev pub of_first : Listed → Answer Found → List Entry
of_first r (refused e) = gone r.code r.status ∷ []
of_first r (accepted x) = pick (same_record r x.«record») [] (differs r.code r.status x.«record».status ∷ [])

-- and of a record of the second, by what the first has: that it is new, or nothing
abbrev pub of_second : Listed → Answer Found → List Entry
of_second q (refused e) = added q.code q.status ∷ []
of_second q (accepted x) = []

-- what is listed of records, in their order, each by what the other listing has of its code
unfoldable pub entries_of : (Listed → Answer Found → List Entry) → (other records : List Listed) → List Entry
entries_of of other [] = []
entries_of of other (r ∷ rs) = of r (find 0 r.code other) ++ entries_of of other rs

-- in the first's order the codes that are gone and those whose record differs; then, in the second's order, those that are new
unfoldable pub changes : (first second : List Listed) → List Entry
changes first second = entries_of of_first second first ++ entries_of of_second first second

-- ---- a code that stands twice
-- the place of the first of these records whose code stood before it, there or among those before them all; where none did, as many as there are
unfoldable pub repeated_after : (before records : List Listed) → ℕ
repeated_after before [] = 0
repeated_after before (r ∷ rs) = pick (ltb 0 (count (has_code r.code) before)) 0 (suc (repeated_after (before ++ (r ∷ [])) rs))

abbrev pub first_repeated : List Listed → ℕ
first_repeated rs = repeated_after [] rs

-- 17 with that place, in a listing that was read
abbrev pub without_repeats : Answer Listing → Answer Listing
without_repeats (accepted l) = check (eqb (first_repeated l.records) (length l.records)) (repeated (first_repeated l.records)) (accepted l)
without_repeats (refused e) = refused e

-- ---- the call
-- reading's refusals, then 17
unfoldable pub read_for_changes : SubFunction → List ℕ → Answer Listing
read_for_changes f s = without_repeats (read_listing f s)

-- the first listing's refusals before the second's
abbrev pub changes_in : (first second : Answer Listing) → Answer (List ℕ)
changes_in (refused e) second = refused e
changes_in (accepted x) (refused e) = refused e
changes_in (accepted x) (accepted y) = accepted (entries_bytes (changes x.records y.records))

-- which listing was refused: 1 the first, 2 the second, 0 neither
abbrev pub refused_listing : (first second : Answer Listing) → ℕ
refused_listing (refused e) second = 1
refused_listing (accepted x) (refused e) = 2
refused_listing (accepted x) (accepted y) = 0

-- what the call does to a lent room: after both listings' refusals 7, in bytes; refused, nothing changes. Beside the answer stands which listing was refused
pub record Compared : Type 0 where
  pub which : ℕ
  pub filled : Written

abbrev pub compared_in : (first second : Answer Listing) → (room : List ℕ) → Compared
compared_in a b room = record { which = refused_listing a b; filled = written (changes_in a b) room }

unfoldable pub compared : SubFunction → List ℕ → SubFunction → List ℕ → (room : List ℕ) → Compared
compared f s g t room = compared_in (read_for_changes f s) (read_for_changes g t) room

-- ---- what is to hold of the list, said by places and apart from it
-- no code stands twice
abbrev pub NoRepeats : List Listed → Type 0
NoRepeats rs = (i j : ℕ) (r q : Listed) → i < j → get_elem? rs i ≡ some r → get_elem? rs j ≡ some q → r.code ≡ q.code → ⊥

-- the record at place k is the first whose code stood before it
pub record FirstRepeat (rs : List Listed) (k : ℕ) : Type 0 where
  pub again : (j : ℕ) × (r : Listed) × (q : Listed) × (j < k) × (get_elem? rs j ≡ some r) × (get_elem? rs k ≡ some q) × (r.code ≡ q.code)
  pub earlier : (i j : ℕ) (r q : Listed) → i < j → j < k → get_elem? rs i ≡ some r → get_elem? rs j ≡ some q → r.code ≡ q.code → ⊥

-- what is due, and its rank in the list: what is due of the record at place k of the first listing has rank k, of the one at place j of the second it comes after all of those
pub data Due (first second : List Listed) : ℕ → Entry → Type 0 where
  is_gone : (k : ℕ) {r : Listed} → get_elem? first k ≡ some r → NoneHas r.code second → Due first second k (gone r.code r.status)
  is_other : (k j : ℕ) {r q : Listed} → get_elem? first k ≡ some r → get_elem? second j ≡ some q → r.code ≡ q.code → (r ≡ q → ⊥) → Due first second k (differs r.code r.status q.status)
  is_new : (j : ℕ) {q : Listed} → get_elem? second j ≡ some q → NoneHas q.code first → Due first second (length first + j) (added q.code q.status)

-- every entry that is due stands in the list, nothing else does, and they stand in their order, so that none stands twice
pub record Lists (first second : List Listed) (es : List Entry) : Type 0 where
  pub all : {k : ℕ} {e : Entry} → Due first second k e → (i : ℕ) × (get_elem? es i ≡ some e)
  pub only : (i : ℕ) {e : Entry} → get_elem? es i ≡ some e → (k : ℕ) × Due first second k e
  pub ordered : (i j : ℕ) {k l : ℕ} {d e : Entry} → i < j → get_elem? es i ≡ some d → get_elem? es j ≡ some e → Due first second k d → Due first second l e → k < l
