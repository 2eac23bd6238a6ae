-- Document 02, Req 04: what some logs answer, which of their blocks are new, and what the program prints of them, letter by letter, by computing the definitions.
-- Assumes nothing.
use mathlib.Core.Path.{◌≡◌, refl}
use Prim.Native.Nat.{ℕ, zero, suc, ◌/◌, ◌%◌}
use Prim.Native.String.{String}
use mathlib.Core.List.{List, [], ◌∷◌, map}
use lib.ListN.{replicate}
use Rattle.paper.specs.Answer.{refusal}
use Rattle.paper.specs.Replay.{log_record, records_in, none, counter, closed, opened, state, stepped, Ended, ran, stopped, run_from, replayed, history, chosen, new_blocks, repeated_blocks, payloads, stepped_once}
use Rattle.paper.specs.ReadingProgram.{decimal_in, decimal, ascii, text_of}
use Rattle.paper.specs.ReplayProgram.{state_text, replay_text}

-- an opening of this kind, whose length is ignored; a block; a closing, of which all else is ignored. t follows it.
abbrev start_of : ℕ → List ℕ → List ℕ
start_of kind t = 0x38 ∷ kind ∷ 0xFF ∷ 0xFF ∷ t

abbrev block_of : ℕ → ℕ → List ℕ → List ℕ
block_of c n t = 0x36 ∷ c ∷ n / 256 ∷ n % 256 ∷ t

abbrev end_of : List ℕ → List ℕ
end_of t = 0x37 ∷ 0x01 ∷ 0xFF ∷ 0xFF ∷ t

-- n blocks of one byte each, the counters from c on passing from 255 to 0
abbrev blocks_of : ℕ → ℕ → List ℕ → List ℕ
blocks_of zero c t = t
blocks_of (suc n) c t = block_of (c % 256) 1 (blocks_of n (suc c) t)

-- a row: the log, and how its run ends
abbrev pub rows : List (List ℕ × Ended)
rows =
    -- an empty log is good, and so is one that ends open; kinds 1, 3 and 6 open
    ([], ran (state closed 0 0))
    ∷ (start_of 1 [], ran (state (opened none) 0 0))
    ∷ (start_of 3 [], ran (state (opened none) 0 0))
    ∷ (start_of 6 (end_of []), ran (state closed 0 0))
    -- no other kind does
    ∷ (start_of 0 [], stopped (refusal 13 0 0) (state closed 0 0))
    ∷ (start_of 2 [], stopped (refusal 13 0 0) (state closed 0 0))
    ∷ (start_of 4 [], stopped (refusal 13 0 0) (state closed 0 0))
    ∷ (start_of 5 [], stopped (refusal 13 0 0) (state closed 0 0))
    ∷ (start_of 7 [], stopped (refusal 13 0 0) (state closed 0 0))
    -- the first block has counter 1; one of length 0 is a block
    ∷ (start_of 1 (block_of 1 258 []), ran (state (opened (counter 1)) 0 258))
    ∷ (start_of 1 (block_of 1 0 (block_of 2 5 [])), ran (state (opened (counter 2)) 0 5))
    ∷ (start_of 1 (block_of 0 9 []), stopped (refusal 14 1 0) (state (opened none) 0 0))
    ∷ (start_of 1 (block_of 2 9 []), stopped (refusal 14 1 0) (state (opened none) 0 0))
    -- a repeat is counted and adds nothing, whatever its length; only the last accepted block can be repeated
    ∷ (start_of 1 (block_of 1 5 (block_of 1 900 (block_of 1 5 []))), ran (state (opened (counter 1)) 2 5))
    ∷ (start_of 1 (block_of 1 5 (block_of 2 6 (block_of 1 5 []))), stopped (refusal 14 3 0) (state (opened (counter 2)) 0 11))
    ∷ (start_of 1 (block_of 1 5 (block_of 3 6 [])), stopped (refusal 14 2 0) (state (opened (counter 1)) 0 5))
    -- the counters pass from 255 to 0, and 1 comes after that: 300 blocks end with 44; 255 followed by 1 is wrong
    ∷ (start_of 1 (blocks_of 300 1 []), ran (state (opened (counter 44)) 0 300))
    ∷ (start_of 1 (blocks_of 256 1 (block_of 0 7 [])), ran (state (opened (counter 0)) 1 256))
    ∷ (start_of 1 (blocks_of 255 1 (block_of 1 7 [])), stopped (refusal 14 256 0) (state (opened (counter 255)) 0 255))
    -- another may open; repeats and total are over the whole log, the last counter is not
    ∷ (start_of 1 (block_of 1 5 (block_of 1 5 (end_of (start_of 3 (block_of 1 6 []))))), ran (state (opened (counter 1)) 1 11))
    ∷ (start_of 1 (block_of 1 5 (block_of 2 5 (end_of (start_of 3 (block_of 2 6 []))))), stopped (refusal 14 5 0) (state (opened none) 0 10))
    ∷ (start_of 1 (block_of 1 5 (end_of [])), ran (state closed 0 5))
    -- a step that the state doesn't allow: an opening while open, whatever its kind; a block or a closing while closed, whatever the counter
    ∷ (start_of 1 (start_of 1 []), stopped (refusal 13 1 0) (state (opened none) 0 0))
    ∷ (start_of 1 (start_of 2 []), stopped (refusal 13 1 0) (state (opened none) 0 0))
    ∷ (block_of 1 5 [], stopped (refusal 13 0 0) (state closed 0 0))
    ∷ (start_of 1 (block_of 1 5 (end_of (block_of 9 6 []))), stopped (refusal 13 3 0) (state closed 0 5))
    ∷ (end_of [], stopped (refusal 13 0 0) (state closed 0 0))
    -- a service that is none of the three, in either state; the first bad record ends the run
    ∷ (0x35 ∷ 1 ∷ 0 ∷ 0 ∷ start_of 2 [], stopped (refusal 15 0 0) (state closed 0 0))
    ∷ (start_of 1 (0x39 ∷ 1 ∷ 0 ∷ 0 ∷ []), stopped (refusal 15 1 0) (state (opened none) 0 0))
    -- a cut last record comes before any record is run, and more than 65,536 whole ones before that
    ∷ (0x38 ∷ [], stopped (refusal 10 0 0) (state closed 0 0))
    ∷ (start_of 1 (block_of 1 5 (0x36 ∷ 2 ∷ 0 ∷ [])), stopped (refusal 10 0 0) (state closed 0 0))
    ∷ (replicate 262144 0, stopped (refusal 15 0 0) (state closed 0 0))
    ∷ (replicate 262145 0, stopped (refusal 10 0 0) (state closed 0 0))
    ∷ (replicate 262147 0, stopped (refusal 10 0 0) (state closed 0 0))
    ∷ (replicate 262148 0, stopped (refusal 12 0 0) (state closed 0 0))
    ∷ (replicate 262149 0, stopped (refusal 12 0 0) (state closed 0 0))
    ∷ []

-- the run of each log ends as its row says
pub rows_right : map (λ (r : List ℕ × Ended). replayed r.0) rows ≡ map (λ (r : List ℕ × Ended). r.1) rows
unfolding records_in stepped run_from replayed
rows_right = refl

-- a log with two repeats, two transfers and a bad record at 7: its history, the new blocks in it and the repeated ones
abbrev example : List ℕ
example = start_of 1 (block_of 1 5 (block_of 1 6 (block_of 2 7 (block_of 2 8 (end_of (start_of 3 (block_of 2 9 (block_of 1 1 []))))))))

history-is : history example
    ≡ log_record 0x38 1 65535 ∷ log_record 0x36 1 5 ∷ log_record 0x36 1 6 ∷ log_record 0x36 2 7 ∷ log_record 0x36 2 8 ∷ log_record 0x37 1 65535 ∷ log_record 0x38 3 65535 ∷ []
unfolding records_in stepped run_from replayed
history-is = refl

new_and_repeated : (new_blocks (history example) ≡ log_record 0x36 1 5 ∷ log_record 0x36 2 7 ∷ [])
    × (repeated_blocks (history example) ≡ log_record 0x36 1 6 ∷ log_record 0x36 2 8 ∷ [])
    × (payloads (new_blocks (history example)) ≡ 12)
unfolding records_in stepped run_from replayed chosen payloads
new_and_repeated = (refl, refl, refl)

-- a step by itself: accepted; refused with the place that was handed over, and the state as it was; and no number is cut
steps : (stepped_once 9 (state (opened (counter 255)) 3 4096) (log_record 0x36 0 4) ≡ ran (state (opened (counter 0)) 3 4100))
    × (stepped_once 9 (state (opened (counter 255)) 3 4096) (log_record 0x36 1 4) ≡ stopped (refusal 14 9 0) (state (opened (counter 255)) 3 4096))
    × (stepped_once 9 (state (opened none) 0 18446744073709551615) (log_record 0x36 1 1) ≡ stopped (refusal 12 0 0) (state (opened none) 0 18446744073709551615))
    × (stepped_once 9 (state (opened (counter 1)) 18446744073709551615 0) (log_record 0x36 1 1) ≡ stopped (refusal 12 0 0) (state (opened (counter 1)) 18446744073709551615 0))
unfolding stepped stepped_once
steps = (refl, refl, refl, refl)

-- a row: the log, and the text
abbrev pub texts : List (List ℕ × String)
texts =
    ([], "closed last - repeats 0 total 0\n")
    ∷ (start_of 1 [], "open last - repeats 0 total 0\n")
    ∷ (start_of 1 (block_of 1 4096 (block_of 1 4096 (block_of 2 65535 []))), "open last 2 repeats 1 total 69631\n")
    ∷ (start_of 1 (block_of 1 5 (end_of [])), "closed last - repeats 0 total 5\n")
    ∷ (start_of 1 (block_of 1 5 (block_of 3 5 [])), "refused 14 2 0\nopen last 1 repeats 0 total 5\n")
    ∷ (start_of 2 [], "refused 13 0 0\nclosed last - repeats 0 total 0\n")
    ∷ (start_of 1 (0x00 ∷ []), "refused 10 0 0\nclosed last - repeats 0 total 0\n")
    ∷ (replicate 262148 0, "refused 12 0 0\nclosed last - repeats 0 total 0\n")
    ∷ []

-- of each log the text of its row is printed
pub texts_right : map (λ (r : List ℕ × String). replay_text r.0) texts ≡ map (λ (r : List ℕ × String). ascii r.1) texts
unfolding records_in stepped run_from replayed decimal_in decimal text_of state_text replay_text
texts_right = refl
