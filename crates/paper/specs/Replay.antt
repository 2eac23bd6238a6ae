-- Document 02, Req 04: a recorded transfer, run through the rules. The records; the two-state machine, a line for each sentence of the request; the run of a
-- log; and, apart from the machine, the history, in which two neighbouring records tell what the second of them was.
use Rattle.std.specs.Prelude.{ℕ, zero, suc, ◌+◌, ◌*◌, ◌/◌, ◌%◌, ◌^◌, Bool, true, false, not, List, [], ◌∷◌, length, get_or, take, drop, leb, ltb, eqb}
use Rattle.paper.specs.Choice.{pick, both, either}
use Rattle.paper.specs.Answer.{Refusal, cut, too_many, not_allowed, wrong_counter, unknown_service, Answer, accepted, refused, check}

-- ---- the records
-- service byte, then kind or block counter, then payload length
pub record LogRecord : Type 0 where
  pub service : ℕ
  pub kind_or_counter : ℕ
  pub payload : ℕ

abbrev pub log_record : ℕ → ℕ → ℕ → LogRecord
log_record s k p = record { service = s; kind_or_counter = k; payload = p }

-- the record at the start of some bytes: the length in two bytes high first
abbrev pub record_of : List ℕ → LogRecord
record_of s = log_record (get_or s 0 0) (get_or s 1 0) (256 * get_or s 2 0 + get_or s 3 0)

-- n records of 4 bytes without a header
unfoldable pub records_in : ℕ → List ℕ → List LogRecord
records_in zero s = []
records_in (suc n) s = record_of s ∷ records_in n (drop 4 s)

-- the whole records of a log
abbrev pub records_of : List ℕ → List LogRecord
records_of s = records_in (length s / 4) s

-- the service byte: 0x38 opens, 0x36 is a block, 0x37 closes
pub data Service : Type 0 where
  opening block closing unknown : Service

abbrev pub service_of : ℕ → Service
service_of b = pick (eqb b 0x38) opening (pick (eqb b 0x36) block (pick (eqb b 0x37) closing unknown))

-- ---- the state
-- the last counter: that of this transfer's last accepted block, or none
pub data Last : Type 0 where
  none : Last
  counter : ℕ → Last

-- open or closed; a transfer that is closed has no last counter
pub data Transfer : Type 0 where
  closed : Transfer
  opened : Last → Transfer

-- repeats and total are both over the whole log
pub record State : Type 0 where
  pub transfer : Transfer
  pub repeats : ℕ
  pub total : ℕ

abbrev pub state : Transfer → ℕ → ℕ → State
state t n m = record { transfer = t; repeats = n; total = m }

-- before the first record
abbrev pub start : State
start = state closed 0 0

-- ---- the machine
-- only kinds 1, 3 and 6 open a transfer
abbrev pub opens : ℕ → Bool
opens kind = either (eqb kind 1) (either (eqb kind 3) (eqb kind 6))

-- the first block has counter 1, and each next counter is one more, passing from 255 to 0
abbrev pub next_counter : Last → ℕ
next_counter none = 1
next_counter (counter c) = (c + 1) % 256

-- a block with the counter of this transfer's last accepted block is a repeat
abbrev pub is_repeat : Last → ℕ → Bool
is_repeat none b = false
is_repeat (counter c) b = eqb b c

-- a block in an open transfer: a repeat is counted and adds nothing; a new block adds its payload; any other has a wrong counter (14)
abbrev pub block_in : Last → ℕ → LogRecord → State → Answer State
block_in last place r st =
    pick (is_repeat last r.kind_or_counter) (accepted (state (opened last) (st.repeats + 1) st.total))
    (check (eqb r.kind_or_counter (next_counter last)) (wrong_counter place) (accepted (state (opened (counter r.kind_or_counter)) st.repeats (st.total + r.payload))))

-- the two states: what each service does in each of them, or the refusal with the record's place. A step that the state or the kind doesn't allow is 13.
-- Of 0x38 the length is ignored, of 0x37 all but the service.
abbrev pub does : Service → Transfer → ℕ → LogRecord → State → Answer State
does opening closed place r st = check (opens r.kind_or_counter) (not_allowed place) (accepted (state (opened none) st.repeats st.total))
does opening (opened last) place r st = refused (not_allowed place)
does block closed place r st = refused (not_allowed place)
does block (opened last) place r st = block_in last place r st
does closing closed place r st = refused (not_allowed place)
does closing (opened last) place r st = accepted (state closed st.repeats st.total)
does unknown transfer place r st = refused (unknown_service place)

-- one record at its place: 15 unknown service, then 13, then 14
unfoldable pub stepped : ℕ → State → LogRecord → Answer State
stepped place st r = does (service_of r.service) st.transfer place r st

-- ---- the run of a log
-- it ends with the state; or with a refusal and the state before it
pub data Ended : Type 0 where
  ran : State → Ended
  stopped : Refusal → State → Ended

-- what comes after a record: the rest of the run where it was accepted; the first bad record ends the run
abbrev pub after : Answer State → State → (State → Ended) → Ended
after (accepted t) st rest = rest t
after (refused e) st rest = stopped e st

-- the records from a place on, one after the other
unfoldable pub run_from : ℕ → List LogRecord → State → Ended
run_from place [] st = ran st
run_from place (r ∷ rs) st = after (stepped place st r) st (run_from (suc place) rs)

-- at most 65,536 records (12), then no cut last record (10), both before any record is run
unfoldable pub replayed : List ℕ → Ended
replayed s =
    pick (leb (length s / 4) 65536)
    (pick (eqb (length s % 4) 0) (run_from 0 (records_of s) start) (stopped cut start))
    (stopped too_many start)

-- the state that is answered
abbrev pub state_in : Ended → State
state_in (ran st) = st
state_in (stopped e st) = st

-- a log in two pieces: the second is run from the state after the first, where that was accepted whole
abbrev pub go_on : Ended → (State → Ended) → Ended
go_on (ran st) rest = rest st
go_on (stopped e st) rest = stopped e st

-- ---- the history, apart from the machine
-- the records that were accepted: all, or those before the place that the refusal carries (12 and 10 carry 0, and no record was run)
abbrev pub accepted_of : Ended → List LogRecord → List LogRecord
accepted_of (ran st) rs = rs
accepted_of (stopped e st) rs = take e.first rs

abbrev pub history : List ℕ → List LogRecord
history s = accepted_of (replayed s) (records_of s)

abbrev pub is_block : Service → Bool
is_block opening = false
is_block block = true
is_block closing = false
is_block unknown = false

-- the record before is a block with this counter. In a history it is then the last accepted block of the transfer, or a repeat of that one:
-- nothing but a block or an opening comes right before a block.
abbrev pub same_block : (before r : LogRecord) → Bool
same_block p r = both (is_block (service_of p.service)) (eqb r.kind_or_counter p.kind_or_counter)

-- a new block, and a repeat
abbrev pub is_new : (before r : LogRecord) → Bool
is_new p r = both (is_block (service_of r.service)) (not (same_block p r))

abbrev pub is_again : (before r : LogRecord) → Bool
is_again p r = both (is_block (service_of r.service)) (same_block p r)

-- the records of which a test says yes, beside the record before each
abbrev pub keep : Bool → LogRecord → List LogRecord → List LogRecord
keep true r rs = r ∷ rs
keep false r rs = rs

unfoldable pub chosen : (LogRecord → LogRecord → Bool) → LogRecord → List LogRecord → List LogRecord
chosen test p [] = []
chosen test p (r ∷ rs) = keep (test p r) r (chosen test r rs)

-- before a log nothing is open, as after a closing
abbrev pub nothing_before : LogRecord
nothing_before = log_record 0x37 0 0

abbrev pub new_blocks : List LogRecord → List LogRecord
new_blocks = chosen is_new nothing_before

abbrev pub repeated_blocks : List LogRecord → List LogRecord
repeated_blocks = chosen is_again nothing_before

-- the sum of payloads
unfoldable pub payloads : List LogRecord → ℕ
payloads [] = 0
payloads (r ∷ rs) = r.payload + payloads rs

-- ---- a step by itself, for whoever follows a transfer while it runs
-- repeats and total are held in 64 bits each: where one of them would pass that, 12, and no number is cut
abbrev pub within64 : Answer State → Answer State
within64 (accepted t) = check (both (ltb t.repeats (2 ^ 64)) (ltb t.total (2 ^ 64))) too_many (accepted t)
within64 (refused e) = refused e

-- the state after the record, or the refusal and the state before it
unfoldable pub stepped_once : ℕ → State → LogRecord → Ended
stepped_once place st r = after (within64 (stepped place st r)) st ran
