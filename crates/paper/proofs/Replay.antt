-- Document 02, Req 04, what holds of every log: the total is the sum of payloads of accepted new blocks in the history, repeats are counted by it too, the state beside
-- a refusal is the one after the records before it, a log in two pieces is run piece by piece, and a step adds no more than its record has.
-- Assumes nothing.
use mathlib.Core.Path.{◌≡◌, refl, sym, ap, subst, ◌∙◌}
use Prim.Native.Nat.{ℕ, zero, suc, ◌+◌, ◌*◌, ◌/◌, ◌%◌, ◌^◌, ◌≤◌, ◌<◌}
use mathlib.Core.Bool.{Bool, true, false, not}
use mathlib.Core.List.{List, [], ◌∷◌, ◌++◌}
use native.Mathlib.Nat.{zero-add, suc-add}
use native.Mathlib.Omega.{arith}
use borrow.Author.Tests.{eqb-true, le-leb, lt-leb, lt-ltb}
use lib.Dec.{leb, eqb}
use lib.ListN.{length, take, drop, length-append}
use lib.Seq.{length-take-le}
use Rattle.paper.specs.Choice.{pick, both}
use Rattle.paper.specs.Answer.{Refusal, cut, too_many, Answer, accepted, refused, check}
use Rattle.paper.specs.Replay.{LogRecord, log_record, records_in, records_of, Service, opening, block, closing, unknown, service_of, none, counter, Transfer, closed, opened, State, start}
use Rattle.paper.specs.Replay.{opens, next_counter, does, stepped, Ended, ran, stopped, after, run_from, replayed, state_in, go_on, accepted_of, history, is_block, is_new, is_again, keep, chosen, nothing_before, new_blocks, repeated_blocks, payloads, within64}

-- ---- one step
-- the transfer that an accepted record leaves behind, whatever came before it
abbrev left : Service → ℕ → Transfer
left opening c = opened none
left block c = opened (counter c)
left closing c = closed
left unknown c = closed

abbrev left_by : LogRecord → Transfer
left_by r = left (service_of r.service) r.kind_or_counter

-- what a record did, told by its service s, and by the service q and the counter c of the record before; a refusal carries the place
abbrev DidBy : (s q : Service) (c place : ℕ) (r : LogRecord) (st : State) → Answer State → Type 0
DidBy s q c place r st (accepted t) =
    (t.transfer ≡ left s r.kind_or_counter)
    × (t.total ≡ st.total + pick (both (is_block s) (not (both (is_block q) (eqb r.kind_or_counter c)))) r.payload 0)
    × (t.repeats ≡ st.repeats + pick (both (is_block s) (both (is_block q) (eqb r.kind_or_counter c))) 1 0)
DidBy s q c place r st (refused e) = e.first ≡ place

module _ (P : Answer State → Type 0) where
  checked : (x : Bool) {e : Refusal} {a : Answer State} → P (refused e) → P a → P (check x e a)
  checked true h g = g
  checked false h g = h

  picked : (x : Bool) {a b : Answer State} → (x ≡ true → P a) → (x ≡ false → P b) → P (pick x a b)
  picked true h g = h refl
  picked false h g = g refl

did_by : (s q : Service) (c place : ℕ) (r : LogRecord) (st : State) → DidBy s q c place r st (does s (left q c) place r st)
did_by opening opening c place r st = refl
did_by opening block c place r st = refl
did_by opening closing c place r st = checked (DidBy opening closing c place r st) (opens r.kind_or_counter) refl (refl, omega arith, omega arith)
did_by opening unknown c place r st = checked (DidBy opening unknown c place r st) (opens r.kind_or_counter) refl (refl, omega arith, omega arith)
did_by block opening c place r st = checked (DidBy block opening c place r st) (eqb r.kind_or_counter 1) refl (refl, refl, omega arith)
did_by block block c place r st =
    picked (DidBy block block c place r st) (eqb r.kind_or_counter c)
    (λ e. (ap (λ (n : ℕ). opened (counter n)) (sym (eqb-true _ _ e)), rw e (omega arith), rw e refl))
    (λ e. checked (DidBy block block c place r st) (eqb r.kind_or_counter (next_counter (counter c))) refl (refl, rw e refl, rw e (omega arith)))
did_by block closing c place r st = refl
did_by block unknown c place r st = refl
did_by closing opening c place r st = (refl, omega arith, omega arith)
did_by closing block c place r st = (refl, omega arith, omega arith)
did_by closing closing c place r st = refl
did_by closing unknown c place r st = refl
did_by unknown q c place r st = refl

-- the same of the two records themselves
abbrev Did : (place : ℕ) (p r : LogRecord) (st : State) → Answer State → Type 0
Did place p r st a = DidBy (service_of r.service) (service_of p.service) p.kind_or_counter place r st a

did : (place : ℕ) (p r : LogRecord) (st : State) → st.transfer ≡ left_by p → Did place p r st (stepped place st r)
unfolding stepped
did place p r st e =
    subst (λ (x : Transfer). Did place p r st (does (service_of r.service) x place r st)) (sym e)
    (did_by (service_of r.service) (service_of p.service) p.kind_or_counter place r st)

-- ---- the run
-- from a state and after the record p, the records h are accepted and lead to the state t
record Passed (place : ℕ) (p : LogRecord) (st : State) (h : List LogRecord) (t : State) : Type 0 where
  ends : run_from place h st ≡ ran t
  adds : t.total ≡ st.total + payloads (chosen is_new p h)
  counts : t.repeats ≡ st.repeats + length (chosen is_again p h)

passed_none : (place : ℕ) (p : LogRecord) (st : State) → Passed place p st [] st
unfolding run_from payloads chosen
passed_none place p st = record { ends = refl; adds = omega arith; counts = omega arith }

payloads-keep : (x : Bool) (r : LogRecord) (rs : List LogRecord) → payloads (keep x r rs) ≡ pick x r.payload 0 + payloads rs
unfolding payloads
payloads-keep true r rs = refl
payloads-keep false r rs = omega arith

length_keep : (x : Bool) (r : LogRecord) (rs : List LogRecord) → length (keep x r rs) ≡ pick x 1 0 + length rs
length_keep true r rs = omega arith
length_keep false r rs = omega arith

passed_more : (place : ℕ) (p r : LogRecord) (st t u : State) (h : List LogRecord)
    → stepped place st r ≡ accepted t → Did place p r st (accepted t) → Passed (suc place) r t h u → Passed place p st (r ∷ h) u
unfolding run_from chosen
passed_more place p r st t u h e d g = record {
  ends = ap (λ (a : Answer State). after a st (run_from (suc place) h)) e ∙ g.ends;
  adds = omega (arith, d.1, g.adds, payloads-keep (is_new p r) r (chosen is_new r h));
  counts = omega (arith, d.2, g.counts, length_keep (is_again p r) r (chosen is_again r h));
}

-- how a run ends: all records were accepted; or those before the place that the refusal carries were
abbrev Tells : ℕ → LogRecord → State → List LogRecord → Ended → Type 0
Tells place p st rs (ran t) = Passed place p st rs t
Tells place p st rs (stopped e t) = (i : ℕ) × (e.first ≡ place + i) × Passed place p st (take i rs) t

module _ (place : ℕ) (p r : LogRecord) (st : State) (rs : List LogRecord) where
  one_more_lem : (t : State) → stepped place st r ≡ accepted t → Did place p r st (accepted t) → (a : Ended) → Tells (suc place) r t rs a → Tells place p st (r ∷ rs) a
  one_more_lem t e d (ran u) h = passed_more place p r st t u rs e d h
  one_more_lem t e d (stopped x u) (i, f, h) = (suc i, omega arith, passed_more place p r st t u (take i rs) e d h)

  tells_after : (a : Answer State) → stepped place st r ≡ a → Did place p r st a
      → ((t : State) → t.transfer ≡ left_by r → Tells (suc place) r t rs (run_from (suc place) rs t)) → Tells place p st (r ∷ rs) (after a st (run_from (suc place) rs))
  tells_after (accepted t) e d more = one_more_lem t e d (run_from (suc place) rs t) (more t d.0)
  tells_after (refused x) e d more = (0, omega arith, passed_none place p st)

tells : (rs : List LogRecord) (place : ℕ) (p : LogRecord) (st : State) → st.transfer ≡ left_by p → Tells place p st rs (run_from place rs st)
unfolding run_from
tells [] place p st e = passed_none place p st
tells (r ∷ rs) place p st e = tells_after place p r st rs (stepped place st r) refl (did place p r st e) (λ t f. tells rs (suc place) r t f)

whole : (a : Ended) (rs : List LogRecord) → Tells 0 nothing_before start rs a → Passed 0 nothing_before start (accepted_of a rs) (state_in a)
whole (ran t) rs h = h
whole (stopped e t) rs (i, f, h) = let is : e.first ≡ i = omega arith in rw is h

by_tests : (x y : Bool) (rs : List LogRecord) (a : Ended) → a ≡ pick x (pick y (run_from 0 rs start) (stopped cut start)) (stopped too_many start)
    → Passed 0 nothing_before start (accepted_of a rs) (state_in a)
by_tests true true rs a e = rw e (whole (run_from 0 rs start) rs (tells rs 0 nothing_before start refl))
by_tests true false rs a e = rw e (passed_none 0 nothing_before start)
by_tests false y rs a e = rw e (passed_none 0 nothing_before start)

history_passed : (s : List ℕ) → Passed 0 nothing_before start (history s) (state_in (replayed s))
unfolding replayed
history_passed s = by_tests (leb (length s / 4) 65536) (eqb (length s % 4) 0) (records_of s) (replayed s) refl

-- ---- the history
-- the total is the sum of payloads of accepted new blocks in the history
pub total-is : (s : List ℕ) → (state_in (replayed s)).total ≡ payloads (new_blocks (history s))
total-is s = omega (arith, (history_passed s).adds)

-- the repeats are those in the history
pub repeats_are : (s : List ℕ) → (state_in (replayed s)).repeats ≡ length (repeated_blocks (history s))
repeats_are s = omega (arith, (history_passed s).counts)

-- the records of the history are accepted, and the state, also the one beside a refusal, is where they lead
pub history-ran : (s : List ℕ) → run_from 0 (history s) start ≡ ran (state_in (replayed s))
history-ran s = (history_passed s).ends

-- ---- a log in two pieces
pieces-after : (a : Answer State) (xs ys : List LogRecord) (place : ℕ) (st : State)
    → ((t : State) → run_from (suc place) (xs ++ ys) t ≡ go_on (run_from (suc place) xs t) (run_from (suc place + length xs) ys))
    → after a st (run_from (suc place) (xs ++ ys)) ≡ go_on (after a st (run_from (suc place) xs)) (run_from (place + suc (length xs)) ys)
pieces-after (accepted t) xs ys place st more = let same : place + suc (length xs) ≡ suc place + length xs = omega arith in rw same (more t)
pieces-after (refused e) xs ys place st more = refl

-- the run of a log in two pieces is the run of the second from the state after the first
pub two_pieces : (xs ys : List LogRecord) (place : ℕ) (st : State) → run_from place (xs ++ ys) st ≡ go_on (run_from place xs st) (run_from (place + length xs) ys)
unfolding run_from
two_pieces [] ys place st = let same : place ≡ place + 0 = omega arith in ap (λ (n : ℕ). run_from n ys st) same
two_pieces (r ∷ xs) ys place st = pieces-after (stepped place st r) xs ys place st (λ t. two_pieces xs ys (suc place) t)

-- the records of two pieces, of which the first has n records and no more, are those of the one and then those of the other
records-in : (n m : ℕ) (s t : List ℕ) → length s ≡ 4 * n → records_in (n + m) (s ++ t) ≡ records_in n s ++ records_in m t
unfolding records_in
records-in zero m [] t h = rw zero-add
records-in zero m (a ∷ s) t h = absurd (omega arith)
records-in (suc n) m [] t h = absurd (omega arith)
records-in (suc n) m (a ∷ []) t h = absurd (omega arith)
records-in (suc n) m (a ∷ b ∷ []) t h = absurd (omega arith)
records-in (suc n) m (a ∷ b ∷ c ∷ []) t h = absurd (omega arith)
records-in (suc n) m (a ∷ b ∷ c ∷ d ∷ s) t h = rw (suc-add n m) (ap (λ (rs : List LogRecord). log_record a b (256 * c + d) ∷ rs) (records-in n m s t (omega arith)))

records-of : (n : ℕ) (s t : List ℕ) → length s ≡ 4 * n → records_of (s ++ t) ≡ records_of s ++ records_of t
records-of n s t h =
    let whole : length (s ++ t) / 4 ≡ n + length t / 4 = omega (arith, length-append s t) in
    let first : length s / 4 ≡ n = omega arith in
    rw (whole, first) (records-in n (length t / 4) s t h)

length_records : (n : ℕ) (s : List ℕ) → length (records_in n s) ≡ n
unfolding records_in
length_records zero s = refl
length_records (suc n) s = ap suc (length_records n (drop 4 s))

-- a log that is neither too long nor cut is run
run_whole : (s : List ℕ) → length s / 4 ≤ 65536 → length s % 4 ≡ 0 → replayed s ≡ run_from 0 (records_of s) start
unfolding replayed
run_whole s h e = rw (le-leb _ _ h, e)

-- the same of the bytes: n whole records, and then a piece that ends with a whole record
pub log_in_pieces : (n : ℕ) (s t : List ℕ) → length s ≡ 4 * n → length t % 4 ≡ 0 → length (s ++ t) / 4 ≤ 65536
    → replayed (s ++ t) ≡ go_on (replayed s) (run_from n (records_of t))
log_in_pieces n s t h e l =
    let sum = length-append s t in
    let first : length s / 4 ≡ n = omega arith in
    let few : length s / 4 ≤ 65536 = omega arith in
    let even : length s % 4 ≡ 0 = omega arith in
    let all : length (s ++ t) % 4 ≡ 0 = omega arith in
    let many : 0 + length (records_of s) ≡ n = omega (arith, length_records (length s / 4) s) in
    rw (run_whole (s ++ t) l all, run_whole s few even, records-of n s t h, two_pieces (records_of s) (records_of t) 0 start, many)

-- ---- more than the program's room holds: what follows 65,537 records makes no difference
pub cut_short : (s : List ℕ) → 262148 ≤ length s → replayed (take 262148 s) ≡ replayed s
unfolding replayed
cut_short s h =
    let long = length-take-le 262148 s h in
    let many : 65536 < length s / 4 = omega arith in
    rw (long, lt-leb _ _ many)

-- ---- bounds
-- a record that leaves this transfer behind
abbrev leaving : Transfer → LogRecord
leaving closed = log_record 0x37 0 0
leaving (opened none) = log_record 0x38 0 0
leaving (opened (counter c)) = log_record 0x36 c 0

left_by_leaving : (t : Transfer) → t ≡ left_by (leaving t)
left_by_leaving closed = refl
left_by_leaving (opened none) = refl
left_by_leaving (opened (counter c)) = refl

pick-most : (x : Bool) (n : ℕ) → pick x n 0 ≤ n
pick-most true n = omega arith
pick-most false n = omega arith

-- a step counts at most one repeat more, and adds at most the record's payload
pub step_adds : (place : ℕ) (st : State) (r : LogRecord) (t : State) → stepped place st r ≡ accepted t → (t.repeats ≤ st.repeats + 1) × (t.total ≤ st.total + r.payload)
step_adds place st r t e =
    let p = leaving st.transfer in
    let d : Did place p r st (accepted t) = subst (Did place p r st) e (did place p r st (left_by_leaving st.transfer)) in
    (omega (arith, d.2, pick-most (is_again p r) 1), omega (arith, d.1, pick-most (is_new p r) r.payload))

within-is : (a : Answer State) → ((t : State) → a ≡ accepted t → (t.repeats < 2 ^ 64) × (t.total < 2 ^ 64)) → within64 a ≡ a
within-is (accepted t) h = let b = h t refl in rw (lt-ltb _ _ b.0, lt-ltb _ _ b.1)
within-is (refused e) h = refl

-- where 64 bits hold what a step can count and add, a step by itself is the machine's
pub step_exact : (place : ℕ) (st : State) (r : LogRecord) → st.repeats + 1 < 2 ^ 64 → st.total + r.payload < 2 ^ 64 → within64 (stepped place st r) ≡ stepped place st r
step_exact place st r h g = within-is (stepped place st r) (λ t e. let b = step_adds place st r t e in (omega arith, omega arith))
