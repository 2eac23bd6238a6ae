-- Document 01, "Trouble-code fields".
use Rattle.std.specs.Prelude.{ℕ, zero, suc, ◌+◌, ◌*◌, ◌/◌, ◌%◌, ◌^◌, Bool, false, List, [], ◌∷◌, get_or, leb, eqb}
use Rattle.paper.specs.Choice.{pick, both, either}
use Rattle.paper.specs.Answer.{Answer, accepted, refused, no_trouble_code, check, Read, Reader, ◌>>=◌, give}
use Rattle.paper.specs.Field.{part, byte}

-- ---- the record and its number
pub record TroubleCode : Type 0 where
  pub high : ℕ
  pub middle : ℕ
  pub low : ℕ

abbrev pub trouble_code : ℕ → ℕ → ℕ → TroubleCode
trouble_code h m l = record { high = h; middle = m; low = l }

abbrev pub wire_size : ℕ
wire_size = 3

abbrev pub all_codes : TroubleCode
all_codes = trouble_code 0xFF 0xFF 0xFF

abbrev pub number_of : TroubleCode → ℕ
number_of c = 65536 * c.high + 256 * c.middle + c.low

-- the code of a number, else refusal 5
unfoldable pub from_number : ℕ → Answer TroubleCode
from_number n = check (leb n 0x00FFFFFF) (no_trouble_code n) (accepted (trouble_code (n / 65536) (n / 256 % 256) (n % 256)))

-- ---- reading and writing
unfoldable pub read_trouble_code : Reader TroubleCode
read_trouble_code = do
  x ← part wire_size
  give (trouble_code (get_or x 0 0) (get_or x 1 0) (get_or x 2 0))

-- the next record of a list of them: none in an empty buffer
pub data Next : Type 0 where
  none : Next
  next : Read TroubleCode → Next

abbrev pub as_next : Answer (Read TroubleCode) → Answer Next
as_next (accepted c) = accepted (next c)
as_next (refused r) = refused r

abbrev pub next_trouble_code : List ℕ → Answer Next
next_trouble_code [] = accepted none
next_trouble_code (b ∷ s) = as_next (read_trouble_code (b ∷ s))

abbrev pub trouble_code_bytes : TroubleCode → List ℕ
trouble_code_bytes c = c.high ∷ c.middle ∷ c.low ∷ []

-- every other trouble-code field is one byte
abbrev pub one_byte_field : Reader ℕ
one_byte_field = byte

-- ---- bits
abbrev pub bit : ℕ → ℕ → Bool
bit k b = eqb (b / 2 ^ k % 2) 1

-- the status bits
abbrev pub test_failed : ℕ → Bool
test_failed b = bit 0 b

abbrev pub test_failed_this_operation_cycle : ℕ → Bool
test_failed_this_operation_cycle b = bit 1 b

abbrev pub pending_dtc : ℕ → Bool
pending_dtc b = bit 2 b

abbrev pub confirmed_dtc : ℕ → Bool
confirmed_dtc b = bit 3 b

abbrev pub test_not_completed_since_last_clear : ℕ → Bool
test_not_completed_since_last_clear b = bit 4 b

abbrev pub test_failed_since_last_clear : ℕ → Bool
test_failed_since_last_clear b = bit 5 b

abbrev pub test_not_completed_this_operation_cycle : ℕ → Bool
test_not_completed_this_operation_cycle b = bit 6 b

abbrev pub warning_indicator_requested : ℕ → Bool
warning_indicator_requested b = bit 7 b

-- a status matches a mask when some bit is set in both: here one of the k lowest
abbrev pub in_common : ℕ → ℕ → ℕ → Bool
in_common zero a b = false
in_common (suc k) a b = either (both (bit k a) (bit k b)) (in_common k a b)

abbrev pub matches : ℕ → ℕ → Bool
matches mask status = in_common 8 mask status

-- the severity bits: class k for k from 0 to 4, then three more
abbrev pub dtc_class : ℕ → ℕ → Bool
dtc_class k b = bit k b

abbrev pub maintenance_only : ℕ → Bool
maintenance_only b = bit 5 b

abbrev pub check_at_next_halt : ℕ → Bool
check_at_next_halt b = bit 6 b

abbrev pub check_immediately : ℕ → Bool
check_immediately b = bit 7 b

-- valid when at least one of bits 0 to 4 is set
abbrev pub severity_valid : ℕ → Bool
severity_valid b = either (dtc_class 0 b) (either (dtc_class 1 b) (either (dtc_class 2 b) (either (dtc_class 3 b) (dtc_class 4 b))))

-- the mask of a question: the bits that it asks for, here those of the k lowest, added up by their values
abbrev pub asked_below : ℕ → (ℕ → Bool) → ℕ
asked_below zero question = 0
asked_below (suc k) question = pick (question (2 ^ k)) (2 ^ k) 0 + asked_below k question

abbrev pub mask_of : (ℕ → Bool) → ℕ
mask_of question = asked_below 8 question

-- ---- names of codes
pub data FunctionalGroup : Type 0 where
  emissions safety legislative vobd reserved_group : FunctionalGroup

abbrev pub group_of : ℕ → FunctionalGroup
group_of b =
    pick (eqb b 0x33) emissions
    (pick (eqb b 0xD0) safety
    (pick (both (leb 0xD1 b) (leb b 0xDF)) legislative
    (pick (eqb b 0xFE) vobd reserved_group)))

-- the formats, named after the documents that have them
pub data Format : Type 0 where
  sae_j2012_da_format00 iso14229_1 sae_j1939_73 iso11992_4 sae_j2012_da_format04 reserved_format : Format

abbrev pub format_of : ℕ → Format
format_of b = get_or (sae_j2012_da_format00 ∷ iso14229_1 ∷ sae_j1939_73 ∷ iso11992_4 ∷ sae_j2012_da_format04 ∷ []) b reserved_format

-- a stored-data record number is reserved when 0
abbrev pub reserved_record_number : ℕ → Bool
reserved_record_number n = eqb n 0
