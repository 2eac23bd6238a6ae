-- The run of a log, record by record: what the two loops cite.
-- Assumes nothing.
use Rattle.std.proofs.Common.{◌≡◌, ℕ, zero, suc, ◌+◌, ◌/◌, ◌%◌, ◌^◌, ◌<◌, ◌≤◌, List, [], ◌∷◌, length, get_or, take, drop, Option, Some, refl, sym, ap, ap₂, ◌∙◌, add-one, arith, eq-eqb, ne_eqb, lt-ltb, le-leb, lit<}
use borrow.Author.Tests.{lt-leb}
use Rattle.std.specs.Simd.{first_chunks}
use Rattle.std.proofs.lemmas.List.{get_or-take}
use Rattle.paper.specs.Answer.{Refusal, Answer, accepted, refused, cut, too_many}
use Rattle.paper.specs.Replay as paper
use Rattle.paper.specs.Replay.{LogRecord, record_of, records_in, Ended, start, ran, stopped, after, state_in, stepped, stepped_once, run_from, replayed, within64}
use Rattle.paper.proofs.Replay.{step_adds, step_exact}
use Rattle.replay.specs.Replay.{state_of, meant, IsRecord}
use Rattle.replay.specs.Run.{records, HoldsMore, Passes}
use Rattle.replay.specs.declared.Transfer.{Transfer}
use Rattle.replay.specs.declared.State.{State}
use Rattle.replay.specs.declared.LogRecord as code

-- a transfer whose last accepted block has this counter
abbrev pub open_at : (last repeats total : ℕ) → State
open_at last repeats total = record { transfer = Transfer.Open (Some last); repeats = repeats; total = total }

record-take : (s : List ℕ) → record_of (take 4 s) ≡ record_of s
record-take s =
    let at : (i : ℕ) → i < 4 → get_or (take 4 s) i 0 ≡ get_or s i 0 = λ i h. get_or-take 4 s i 0 h in
    rw (at 0 (lit< tt), at 1 (lit< tt), at 2 (lit< tt), at 3 (lit< tt))

-- the records of a log are those of its rows of four bytes
pub records-of_rows : (n : ℕ) (s : List ℕ) → records (first_chunks 4 n s) ≡ records_in n s
unfolding records_in
records-of_rows zero s = refl
records-of_rows (suc n) s = ap₂ (λ (r : LogRecord) rs. r ∷ rs) (record-take s) (records-of_rows n (drop 4 s))

pub stays : (k : ℕ) (st : State) (rows : List (List ℕ)) → Passes k st rows k st rows
stays k st rows = record { within = refl; few = omega arith; short = omega arith; leads = refl }

pub go_on : {k : ℕ} {st : State} {rows : List (List ℕ)} {at : ℕ} {mid : State} {left : List (List ℕ)} {end : ℕ} {reached : State} {rest : List (List ℕ)}
    → Passes k st rows at mid left → Passes at mid left end reached rest → Passes k st rows end reached rest
go_on p q =
    record { within = q.within ∙ p.within; few = omega (arith, p.few, q.few); short = omega (arith, p.short, q.short); leads = p.leads ∙ q.leads }

-- what the records hold that are left
pub still : {k : ℕ} {st : State} {rows : List (List ℕ)} {at : ℕ} {reached : State} {left : List (List ℕ)}
    → Passes k st rows at reached left → HoldsMore st (length rows) → HoldsMore reached (length left)
still p h =
    record { few = omega (arith, p.within, p.few, h.few); short = omega (arith, p.within, p.short, h.short) }

-- before the first record
pub first : (st : State) (n : ℕ) → state_of st ≡ start → n ≤ 65536 → HoldsMore st n
first st n e h = record { few = omega (arith, ap paper.State.repeats e, h); short = omega (arith, ap paper.State.total e, h) }

-- ---- what a run of one record says of the step
accepts : (a : Answer paper.State) (st : paper.State) {t : paper.State} → ran t ≡ after a st ran → accepted t ≡ a
accepts (accepted u) st e = ap (λ (x : Ended). accepted (state_in x)) e
accepts (refused x) st e = cc

refuses : (a : Answer paper.State) (st : paper.State) {u : paper.State} {x : Refusal} (rest : paper.State → Ended) → stopped x u ≡ after a st ran → stopped x u ≡ after a st rest
refuses (accepted t) st rest e = cc
refuses (refused y) st rest e = e

module _ (k : ℕ) (st : State) (rows : List (List ℕ)) (at : ℕ) (reached : State) (rest : List (List ℕ)) (row : List ℕ) (left : List (List ℕ)) (r : code.LogRecord)
    (run : Passes k st rows at reached rest) (holds : HoldsMore st (length rows)) (here : rest ≡ row ∷ left) (is : IsRecord row r) where
  counted : length rest ≡ length left + 1
  counted = ap length here ∙ sym (add-one _)

  more : HoldsMore reached (length rest)
  more = still run holds

  exact : within64 (stepped at (state_of reached) (meant r)) ≡ stepped at (state_of reached) (meant r)
  exact = step_exact at (state_of reached) (meant r) (omega (arith, counted, more.few)) (omega (arith, counted, more.short, is.short))

  -- the run from this place on, by what the step answers there
  run_step : run_from at (records rest) (state_of reached) ≡ after (within64 (stepped at (state_of reached) (meant r))) (state_of reached) (run_from (at + 1) (records left))
  unfolding run_from
  run_step = rw (here, exact, is.right, add-one at)

  -- the record is accepted
  pub goes_on : (next : State) → accepted (state_of next) ≡ within64 (stepped at (state_of reached) (meant r)) → Passes k st rows (at + 1) next left
  goes_on next said =
      let adds = step_adds at (state_of reached) (meant r) (state_of next) (sym (said ∙ exact)) in
      let tail : run_from at (records rest) (state_of reached) ≡ run_from (at + 1) (records left) (state_of next) = run_step ∙ ap (λ a. after a (state_of reached) (run_from (at + 1) (records left))) (sym said) in
      record { within = omega (arith, run.within, counted); few = omega (arith, run.few, adds.0); short = omega (arith, run.short, adds.1, is.short); leads = run.leads ∙ tail }

  pub went_on : (next : State) → ran (state_of next) ≡ stepped_once at (state_of reached) (meant r) → Passes k st rows (at + 1) next left
  unfolding stepped_once
  went_on next said = goes_on next (accepts _ _ said)

  -- it is refused
  pub stops : {x : Refusal} {u : paper.State} → stopped x u ≡ stepped_once at (state_of reached) (meant r) → stopped x u ≡ run_from k (records rows) (state_of st)
  unfolding stepped_once
  stops said = refuses _ _ (run_from (at + 1) (records left)) said ∙ sym (run.leads ∙ run_step)

-- no record is left
pub ends : (k : ℕ) (st : State) (rows : List (List ℕ)) (at : ℕ) (reached : State) (rest : List (List ℕ)) → Passes k st rows at reached rest → length rest ≡ 0
    → ran (state_of reached) ≡ run_from k (records rows) (state_of st)
unfolding run_from
ends k st rows at reached [] run e = sym run.leads
ends k st rows at reached (row ∷ rest) run e = cc

-- ---- a block after the last accepted one
-- a state in which a block was accepted
pub as_open : (st : State) {b : Option ℕ} {c : ℕ} → st.transfer ≡ Transfer.Open b → b ≡ Some c → st ≡ open_at c st.repeats st.total
as_open st e f = ap (λ (x : Transfer). record { transfer = x; repeats = st.repeats; total = st.total }) (e ∙ ap Transfer.Open f)

module _ (k : ℕ) (st : State) (rows : List (List ℕ)) (at last repeats total : ℕ) (rest : List (List ℕ)) (row : List ℕ) (left : List (List ℕ)) (r : code.LogRecord)
    (run : Passes k st rows at (open_at last repeats total) rest) (holds : HoldsMore st (length rows)) (here : rest ≡ row ∷ left) (is : IsRecord row r) (block : r.service ≡ 0x36) where
  counted_there : length rest ≡ length left + 1
  counted_there = ap length here ∙ sym (add-one _)

  pub one_more : repeats + 1 < 2 ^ 64
  one_more = omega (arith, counted_there, (still run holds).few)

  pub so_many_more : total + r.payload < 2 ^ 64
  so_many_more = omega (arith, counted_there, (still run holds).short, is.short)

  -- the counter of the last one: a repeat is counted
  said_again : r.kind_or_counter ≡ last → accepted (state_of (open_at last (repeats + 1) total)) ≡ within64 (stepped at (state_of (open_at last repeats total)) (meant r))
  unfolding stepped
  said_again e = rw (block, eq-eqb _ _ e, lt-ltb _ _ one_more, lt-ltb total (2 ^ 64) (omega (arith, so_many_more)))

  pub again : r.kind_or_counter ≡ last → Passes k st rows (at + 1) (open_at last (repeats + 1) total) left
  again e = goes_on k st rows at (open_at last repeats total) rest row left r run holds here is (open_at last (repeats + 1) total) (said_again e)

  -- the next counter: a new block, and its payload is added
  said_new : (r.kind_or_counter ≡ last → ⊥) → r.kind_or_counter ≡ (last + 1) % 256
      → accepted (state_of (open_at r.kind_or_counter repeats (total + r.payload))) ≡ within64 (stepped at (state_of (open_at last repeats total)) (meant r))
  unfolding stepped
  said_new other next = rw (block, ne_eqb _ _ other, eq-eqb _ _ next, lt-ltb repeats (2 ^ 64) (omega (arith, one_more)), lt-ltb _ _ so_many_more)

  pub new : (r.kind_or_counter ≡ last → ⊥) → r.kind_or_counter ≡ (last + 1) % 256 → Passes k st rows (at + 1) (open_at r.kind_or_counter repeats (total + r.payload)) left
  new other next = goes_on k st rows at (open_at last repeats total) rest row left r run holds here is (open_at r.kind_or_counter repeats (total + r.payload)) (said_new other next)

-- ---- the whole log
pub too_many_lem : (s : List ℕ) → 65536 < length s / 4 → stopped too_many start ≡ replayed s
unfolding replayed
too_many_lem s h = rw (lt-leb _ _ h)

pub cut_log : (s : List ℕ) → length s / 4 ≤ 65536 → (length s % 4 ≡ 0 → ⊥) → stopped cut start ≡ replayed s
unfolding replayed
cut_log s h e = rw (le-leb _ _ h, ne_eqb _ _ e)

pub whole_log : (s : List ℕ) → length s / 4 ≤ 65536 → length s % 4 ≡ 0 → run_from 0 (records (first_chunks 4 (length s / 4) s)) start ≡ replayed s
unfolding replayed
whole_log s h e = rw (le-leb _ _ h, e, records-of_rows)
