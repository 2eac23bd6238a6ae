-- Document 01, "What each call may answer": accepted or a refusal, and what lent memory holds afterwards. Refusals 1 to 9 are document 01's, those from 10 up document 02's.
use Rattle.std.specs.Prelude.{ℕ, Bool, List, ◌++◌, length, drop, leb}
use Rattle.paper.specs.Choice.{pick}

-- ---- the table of refusals
-- a refusal: its number in the table, and the two values that it carries
pub record Refusal : Type 0 where
  pub number : ℕ
  pub first : ℕ
  pub second : ℕ

abbrev pub refusal : ℕ → ℕ → ℕ → Refusal
refusal n a b = record { number = n; first = a; second = b }

-- the field at hand has fewer bytes than it needs; both numbers are counted from the start of the field
abbrev pub too_short : ℕ → ℕ → Refusal
too_short needed available = refusal 1 needed available

-- the name is not UTF-8, with the length of its longest beginning that is; or the name, the block length or the routine record is too long, with 0
abbrev pub wrong_format : ℕ → Refusal
wrong_format good = refusal 2 good 0

-- the mode is 0x00 or 0x07 to 0xFF
abbrev pub unknown_mode : ℕ → Refusal
unknown_mode b = refusal 3 b 0

-- the routine sub-function is not 1, 2 or 3
abbrev pub unknown_sub_function : ℕ → Refusal
unknown_sub_function b = refusal 4 b 0

-- the trouble-code number is above 0x00FFFFFF
abbrev pub no_trouble_code : ℕ → Refusal
no_trouble_code n = refusal 5 n 0

-- the size width is 0 or above 16
abbrev pub bad_width : ℕ → Refusal
bad_width w = refusal 6 w 0

-- the room is smaller than the message to be written
abbrev pub no_room : ℕ → ℕ → Refusal
no_room needed room = refusal 7 needed room

-- desk check: the sizes are unequal under format 0x00
abbrev pub unequal_sizes : Refusal
unequal_sizes = refusal 8 0 0

-- desk check: bytes are left over
abbrev pub left_over : ℕ → Refusal
left_over n = refusal 9 n 0

-- the records do not fill the length: the last one is cut; or lengths do not add up to their buffer
abbrev pub cut : Refusal
cut = refusal 10 0 0

-- the record at this place has a field out of its range, or a severity that its listing can't carry, or none where it must; or an index is not the listing's own, or a negative answer is to a service that we
-- don't have, or a refusal is asked for its words by a number that none has, with 0
abbrev pub out_of_range : ℕ → Refusal
out_of_range place = refusal 11 place 0

-- there are more whole records, or messages, than the call takes
abbrev pub too_many : Refusal
too_many = refusal 12 0 0

-- the record at this place is a step that the state or its kind does not allow
abbrev pub not_allowed : ℕ → Refusal
not_allowed place = refusal 13 place 0

-- the block at this place has neither the next counter nor the last one
abbrev pub wrong_counter : ℕ → Refusal
wrong_counter place = refusal 14 place 0

-- the record at this place has a service byte that is none of a transfer's; or a message's service byte, or a listing's first bytes, are none that we have, with 0
abbrev pub unknown_service : ℕ → Refusal
unknown_service place = refusal 15 place 0

-- no record of the listing has the code
abbrev pub no_such_code : Refusal
no_such_code = refusal 16 0 0

-- the record at this place of a listing has a code that stood before it
abbrev pub repeated : ℕ → Refusal
repeated place = refusal 17 place 0

-- the character at this place of a text can't stand there; the end of the text counts as its length
abbrev pub bad_character : ℕ → Refusal
bad_character place = refusal 18 place 0

-- ---- answers
-- what a call answers: 0 with a value, or a refusal. A refusal hands out no field and no tail.
pub data Answer (A : Type 0) : Type 0 where
  accepted : A → Answer A
  refused : Refusal → Answer A

-- the answer where the check passes, else the refusal
abbrev pub check : {A : Type 0} → Bool → Refusal → Answer A → Answer A
check ok r a = pick ok a (refused r)

-- one answer after the other: the second where the first accepts, else the first's refusal
infixr 4 ◌then◌
abbrev pub ◌then◌ : {A B : Type 0} → Answer A → Answer B → Answer B
◌then◌ (accepted a) next = next
◌then◌ (refused r) next = refused r

-- ---- reading
-- what a reader hands out: a value, and the tail, the bytes that it leaves
infix 5 ◌leaving◌
pub data Read (A : Type 0) : Type 0 where
  ◌leaving◌ : A → List ℕ → Read A

-- a reader takes the bytes from the start of its field on, and writes to no buffer
abbrev pub Reader : Type 0 → Type 0
Reader A = List ℕ → Answer (Read A)

-- one field after the other: the next begins where this one ended, and a refusal ends the reading
abbrev pub onward : {A B : Type 0} → Answer (Read A) → (A → Reader B) → Answer (Read B)
onward (accepted (a leaving t)) next = next a t
onward (refused r) next = refused r

infixl 10 ◌>>=◌
unfoldable pub ◌>>=◌ : {A B : Type 0} → Reader A → (A → Reader B) → Reader B
◌>>=◌ p next s = onward (p s) next

-- the value, with no byte taken
unfoldable pub give : {A : Type 0} → A → Reader A
give a s = accepted (a leaving s)

-- the refusal, whatever follows
unfoldable pub refuse : {A : Type 0} → Refusal → Reader A
refuse r s = refused r

-- the value where the test passes, else the refusal
abbrev pub judge : {A : Type 0} → Bool → Refusal → A → Reader A
judge ok r a = pick ok (give a) (refuse r)

-- an answer of its own in the middle of a reading, with no byte taken
abbrev pub hand_out : {A : Type 0} → Answer A → Reader A
hand_out (accepted a) = give a
hand_out (refused r) = refuse r

-- ---- writing
-- exactly the counted bytes from the start; the rest keeps its former contents
unfoldable pub over : List ℕ → List ℕ → List ℕ
over bytes room = bytes ++ drop (length bytes) room

-- what a writing call does: it answers the number of bytes written, or a refusal, and leaves the whole buffer with these contents
pub record Written : Type 0 where
  pub answer : Answer ℕ
  pub contents : List ℕ

-- writing a message, or the refusal of one, into a buffer; the check of room comes last, and a refused write changes nothing
abbrev pub written : Answer (List ℕ) → List ℕ → Written
written (refused r) room = record { answer = refused r; contents = room }
written (accepted bytes) room =
    pick (leb (length bytes) (length room))
    (record { answer = accepted (length bytes); contents = over bytes room })
    (record { answer = refused (no_room (length bytes) (length room)); contents = room })
