-- Document 02, Req 11: what changed between some listings, by computing the definitions.
-- Assumes nothing.
use mathlib.Core.Path.{◌≡◌, refl}
use Prim.Native.Nat.{ℕ, ◌-◌}
use mathlib.Core.List.{List, [], ◌∷◌, ◌++◌, map}
use lib.ListN.{length, replicate}
use Rattle.paper.specs.Answer.{Refusal, refusal, accepted, refused, over}
use Rattle.paper.specs.Tally.{count}
use Rattle.paper.specs.Listing.{SubFunction, by_status_mask, by_severity_mask, one_by_one, records_in, read_listing, has_code, find}
use Rattle.paper.specs.Changes.{entries_bytes, same_record, entries_of, changes, repeated_after, read_for_changes, Compared, compared}

-- ---- messages of either sub-function, with a mask
abbrev pub plain : ℕ → List ℕ → List ℕ
plain mask records = 0x59 ∷ 0x02 ∷ mask ∷ records

abbrev pub severe : ℕ → List ℕ → List ℕ
severe mask records = 0x59 ∷ 0x08 ∷ mask ∷ records

-- a record of four codes with a status: A and B have one high byte
abbrev pub A : ℕ → List ℕ
A status = 0x03 ∷ 0x01 ∷ 0x11 ∷ status ∷ []

abbrev pub B : ℕ → List ℕ
B status = 0x03 ∷ 0x01 ∷ 0x12 ∷ status ∷ []

abbrev pub C : ℕ → List ℕ
C status = 0xC1 ∷ 0x00 ∷ 0x00 ∷ status ∷ []

abbrev pub D : ℕ → List ℕ
D status = 0x40 ∷ 0x02 ∷ 0x00 ∷ status ∷ []

-- ---- what the call does with a room of 24 nines
abbrev room : List ℕ
room = replicate 24 9

-- a row: two listings, each with the sub-function that the caller expects, and what it does
abbrev Row : Type 0
Row = SubFunction × List ℕ × SubFunction × List ℕ × Compared

-- it lists these bytes, and the others stay
abbrev lists : List ℕ → Compared
lists bytes = record { which = 0; filled = record { answer = accepted (length bytes); contents = bytes ++ replicate (24 - length bytes) 9 } }

-- it refuses a listing, and nothing changes
abbrev refuses : ℕ → Refusal → Compared
refuses which e = record { which = which; filled = record { answer = refused e; contents = room } }

abbrev good : List Row
good =
    -- nothing changed: no record, the same records, and the same in another order; the masks are not compared
    (by_status_mask, plain 0xFF [], by_status_mask, plain 0xFF [], lists [])
    ∷ (by_status_mask, plain 0xFF (A 0x2F ++ C 0x08), by_status_mask, plain 0xFF (A 0x2F ++ C 0x08), lists [])
    ∷ (by_status_mask, plain 0xFF (A 0x2F ++ C 0x08), by_status_mask, plain 0x7F (C 0x08 ++ A 0x2F), lists [])
    ∷ (by_severity_mask, severe 0xFF (0x20 ∷ 0x10 ∷ A 0x2F), by_severity_mask, severe 0x00 (0x20 ∷ 0x10 ∷ A 0x2F), lists [])
    -- a code is gone; its record differs by status; it is new
    ∷ (by_status_mask, plain 0xFF (A 0x2F ++ C 0x08), by_status_mask, plain 0xFF (C 0x08), lists (1 ∷ 0x03 ∷ 0x01 ∷ 0x11 ∷ 0x2F ∷ 0 ∷ []))
    ∷ (by_status_mask, plain 0xFF (A 0x2F ++ C 0x08), by_status_mask, plain 0xFF (A 0x2F ++ C 0x09), lists (2 ∷ 0xC1 ∷ 0x00 ∷ 0x00 ∷ 0x08 ∷ 0x09 ∷ []))
    ∷ (by_status_mask, plain 0xFF (C 0x08), by_status_mask, plain 0xFF (A 0x2F ++ C 0x08), lists (3 ∷ 0x03 ∷ 0x01 ∷ 0x11 ∷ 0 ∷ 0x2F ∷ []))
    -- it differs by the mark alone, either way; by severity alone; by functional unit alone: both statuses are the same
    ∷ (by_status_mask, plain 0xFF (A 0x2F), by_severity_mask, severe 0xFF (0 ∷ 0 ∷ A 0x2F), lists (2 ∷ 0x03 ∷ 0x01 ∷ 0x11 ∷ 0x2F ∷ 0x2F ∷ []))
    ∷ (by_severity_mask, severe 0xFF (0 ∷ 0 ∷ A 0x2F), by_status_mask, plain 0xFF (A 0x2F), lists (2 ∷ 0x03 ∷ 0x01 ∷ 0x11 ∷ 0x2F ∷ 0x2F ∷ []))
    ∷ (by_severity_mask, severe 0xFF (0x20 ∷ 0x10 ∷ A 0x2F), by_severity_mask, severe 0xFF (0x40 ∷ 0x10 ∷ A 0x2F), lists (2 ∷ 0x03 ∷ 0x01 ∷ 0x11 ∷ 0x2F ∷ 0x2F ∷ []))
    ∷ (by_severity_mask, severe 0xFF (0x20 ∷ 0x10 ∷ A 0x2F), by_severity_mask, severe 0xFF (0x20 ∷ 0x11 ∷ A 0x2F), lists (2 ∷ 0x03 ∷ 0x01 ∷ 0x11 ∷ 0x2F ∷ 0x2F ∷ []))
    -- another middle or low byte is another code: gone, and new
    ∷ (by_status_mask, plain 0xFF (A 0x2F), by_status_mask, plain 0xFF (B 0x2F), lists (1 ∷ 0x03 ∷ 0x01 ∷ 0x11 ∷ 0x2F ∷ 0 ∷ 3 ∷ 0x03 ∷ 0x01 ∷ 0x12 ∷ 0 ∷ 0x2F ∷ []))
    -- all are gone, or new, in the order in which they stand
    ∷ (by_status_mask, plain 0xFF (C 0x08 ++ A 0x2F), by_status_mask, plain 0xFF [], lists (1 ∷ 0xC1 ∷ 0x00 ∷ 0x00 ∷ 0x08 ∷ 0 ∷ 1 ∷ 0x03 ∷ 0x01 ∷ 0x11 ∷ 0x2F ∷ 0 ∷ []))
    ∷ (by_status_mask, plain 0xFF [], by_status_mask, plain 0xFF (C 0x08 ++ A 0x2F), lists (3 ∷ 0xC1 ∷ 0x00 ∷ 0x00 ∷ 0 ∷ 0x08 ∷ 3 ∷ 0x03 ∷ 0x01 ∷ 0x11 ∷ 0 ∷ 0x2F ∷ []))
    -- in the first's order C, which differs, before A, which is gone, B being the same; then D, which is new and stands first in the second
    ∷ (
      by_status_mask,
      plain 0xFF (C 0x08 ++ B 0x01 ++ A 0x2F),
      by_status_mask,
      plain 0xFF (D 0x04 ++ B 0x01 ++ C 0x09),
      lists (2 ∷ 0xC1 ∷ 0x00 ∷ 0x00 ∷ 0x08 ∷ 0x09 ∷ 1 ∷ 0x03 ∷ 0x01 ∷ 0x11 ∷ 0x2F ∷ 0 ∷ 3 ∷ 0x40 ∷ 0x02 ∷ 0x00 ∷ 0 ∷ 0x04 ∷ []),
    )
    ∷ []

abbrev bad : List Row
bad =
    -- the first listing: too short, wrong first bytes, too many records (a cut one behind them), a cut one
    (by_status_mask, [], by_status_mask, [], refuses 1 (refusal 1 3 0))
    ∷ (by_status_mask, 0x58 ∷ 0x02 ∷ [], by_status_mask, plain 0xFF [], refuses 1 (refusal 1 3 2))
    ∷ (by_status_mask, severe 0xFF [], by_status_mask, plain 0xFF [], refuses 1 (refusal 15 0 0))
    ∷ (by_severity_mask, plain 0xFF [], by_status_mask, plain 0xFF [], refuses 1 (refusal 15 0 0))
    ∷ (by_status_mask, plain 0xFF (replicate 16389 0), by_status_mask, plain 0xFF [], refuses 1 (refusal 12 0 0))
    ∷ (by_status_mask, plain 0xFF (A 0x2F ++ A 0x2F ++ (0x03 ∷ [])), by_status_mask, plain 0xFF [], refuses 1 (refusal 10 0 0))
    -- a code that stood before, with the place of the later record: of other status, and of the same; the first such place; a code that stands three times
    ∷ (by_status_mask, plain 0xFF (A 0x2F ++ C 0x08 ++ A 0x09), by_status_mask, plain 0xFF [], refuses 1 (refusal 17 2 0))
    ∷ (by_status_mask, plain 0xFF (A 0x2F ++ A 0x2F), by_status_mask, plain 0xFF [], refuses 1 (refusal 17 1 0))
    ∷ (by_status_mask, plain 0xFF (A 0x2F ++ C 0x08 ++ C 0x09 ++ A 0x2F), by_status_mask, plain 0xFF [], refuses 1 (refusal 17 2 0))
    ∷ (by_severity_mask, severe 0xFF (0x20 ∷ 0x10 ∷ A 0x2F ++ (0x40 ∷ 0x10 ∷ A 0x2F) ++ (0x40 ∷ 0x10 ∷ A 0x2F)), by_status_mask, plain 0xFF [], refuses 1 (refusal 17 1 0))
    -- all of the first's before any of the second's
    ∷ (by_status_mask, plain 0xFF (A 0x2F ++ A 0x2F), by_status_mask, [], refuses 1 (refusal 17 1 0))
    ∷ (by_status_mask, plain 0xFF (A 0x2F ++ (0x03 ∷ [])), by_status_mask, plain 0xFF (A 0x2F ++ A 0x2F), refuses 1 (refusal 10 0 0))
    -- the second's, in the same order
    ∷ (by_status_mask, plain 0xFF (A 0x2F), by_status_mask, 0x59 ∷ [], refuses 2 (refusal 1 3 1))
    ∷ (by_status_mask, plain 0xFF (A 0x2F), by_status_mask, severe 0xFF [], refuses 2 (refusal 15 0 0))
    ∷ (by_status_mask, plain 0xFF (A 0x2F), by_severity_mask, severe 0xFF (replicate 24582 0), refuses 2 (refusal 12 0 0))
    ∷ (by_status_mask, plain 0xFF (A 0x2F), by_severity_mask, severe 0xFF (A 0x2F), refuses 2 (refusal 10 0 0))
    ∷ (by_status_mask, plain 0xFF (A 0x2F), by_status_mask, plain 0xFF (C 0x08 ++ A 0x2F ++ C 0x08), refuses 2 (refusal 17 2 0))
    -- then the room, in bytes: five entries are 30
    ∷ (by_status_mask, plain 0xFF (C 0x08 ++ B 0x01 ++ A 0x2F), by_status_mask, plain 0xFF (C 0x09 ++ D 0x04 ++ (0x40 ∷ 0x02 ∷ 0x01 ∷ 0x04 ∷ [])), refuses 0 (refusal 7 30 24))
    ∷ []

abbrev call : Row → Compared
call r = compared r.0 r.1 r.2 r.3 room

abbrev told : Row → Compared
told r = r.4

pub good_right : map call good ≡ map told good
unfolding count one_by_one records_in read_listing has_code find entries_bytes same_record entries_of changes repeated_after read_for_changes compared over
good_right = refl

pub bad-right : map call bad ≡ map told bad
unfolding count one_by_one records_in read_listing has_code find entries_bytes same_record entries_of changes repeated_after read_for_changes compared over
bad-right = refl

-- ---- rooms
-- one entry takes 6 bytes: with 5 nothing is written, with 6 they fill the room, with 7 the last byte stays; nothing that changed takes no room; a listing's refusal comes before it
abbrev in_room : List ℕ → List ℕ → Compared
in_room second room = compared by_status_mask (plain 0xFF (A 0x2F)) by_status_mask (plain 0xFF second) room

pub rooms_right : (in_room (A 0x2E) (replicate 5 9) ≡ record { which = 0; filled = record { answer = refused (refusal 7 6 5); contents = replicate 5 9 } })
    × (in_room (A 0x2E) (replicate 6 9) ≡ record { which = 0; filled = record { answer = accepted 6; contents = 2 ∷ 0x03 ∷ 0x01 ∷ 0x11 ∷ 0x2F ∷ 0x2E ∷ [] } })
    × (in_room (A 0x2E) (replicate 7 9) ≡ record { which = 0; filled = record { answer = accepted 6; contents = 2 ∷ 0x03 ∷ 0x01 ∷ 0x11 ∷ 0x2F ∷ 0x2E ∷ 9 ∷ [] } })
    × (in_room (A 0x2F) [] ≡ record { which = 0; filled = record { answer = accepted 0; contents = [] } })
    × (in_room (A 0x2E ++ A 0x2E) [] ≡ record { which = 2; filled = record { answer = refused (refusal 17 1 0); contents = [] } })
unfolding count one_by_one records_in read_listing has_code find entries_bytes same_record entries_of changes repeated_after read_for_changes compared over
rooms_right = (refl, refl, refl, refl, refl)
