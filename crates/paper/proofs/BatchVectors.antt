-- Document 02, Req 08: what some batches answer and what the lent list holds afterwards, by computing the definitions.
-- Assumes nothing.
use mathlib.Core.Path.{◌≡◌, refl}
use Prim.Native.Nat.{ℕ}
use mathlib.Core.List.{List, [], ◌∷◌, ◌++◌, map}
use lib.ListN.{replicate}
use Rattle.paper.specs.Answer.{refusal, Answer, accepted, refused, ◌>>=◌, give, refuse, over}
use Rattle.paper.specs.Bytes.{of_bytes}
use Rattle.paper.specs.Utf8.{in_range, begins, first_row, char_length, valid_from, valid_up_to, is_utf8}
use Rattle.paper.specs.Kind.{one_of, known}
use Rattle.paper.specs.Field.{part, byte, headed, counted, name, numbers, size_group}
use Rattle.paper.specs.Request.{read_request}
use Rattle.paper.specs.Tally.{sum}
use Rattle.paper.specs.Batch.{messages, joined, number_of, batch_numbers, read_batch, message_at}

-- requests: the file a deleted, with bytes left over; an unknown mode; a name that is not UTF-8; sizes 0 bytes wide; a name that is cut
abbrev good : List ℕ → List ℕ
good tail = 0x02 ∷ 0x00 ∷ 0x01 ∷ 0x61 ∷ tail

abbrev bad_mode : List ℕ
bad_mode = 0x07 ∷ 0x00 ∷ 0x01 ∷ 0x61 ∷ []

abbrev bad_name : List ℕ
bad_name = 0x02 ∷ 0x00 ∷ 0x01 ∷ 0xFF ∷ []

abbrev no_width : List ℕ
no_width = 0x01 ∷ 0x00 ∷ 0x01 ∷ 0x61 ∷ 0x00 ∷ 0x00 ∷ []

abbrev cut_name : List ℕ
cut_name = 0x02 ∷ 0x00 ∷ 0x02 ∷ 0x61 ∷ []

-- six messages, of which the second is empty, and their lengths
abbrev six : List ℕ
six = good (0x5A ∷ 0x5A ∷ []) ++ (bad_mode ++ (bad_name ++ (no_width ++ cut_name)))

abbrev lengths : List ℕ
lengths = 6 ∷ 0 ∷ 4 ∷ 4 ∷ 6 ∷ 4 ∷ []

cut_apart : (messages six lengths ≡ good (0x5A ∷ 0x5A ∷ []) ∷ [] ∷ bad_mode ∷ bad_name ∷ no_width ∷ cut_name ∷ []) × (joined (messages six lengths) ≡ six)
    × (message_at six lengths 1 ≡ []) × (message_at six lengths 3 ≡ bad_name)
unfolding messages joined sum
cut_apart = (refl, refl, refl, refl)

-- a row: the buffer, the lengths and what the list holds; then the answer and what it holds afterwards
abbrev Row : Type 0
Row = List ℕ × List ℕ × List ℕ × Answer ℕ × List ℕ

abbrev rows : List Row
rows =
    -- bytes left over give 0, an empty message 1; entries beyond the count stay as before
    (six, lengths, replicate 8 99, accepted 6, 0 ∷ 1 ∷ 3 ∷ 2 ∷ 6 ∷ 1 ∷ 99 ∷ 99 ∷ [])
    -- just room
    ∷ (six, lengths, replicate 6 99, accepted 6, 0 ∷ 1 ∷ 3 ∷ 2 ∷ 6 ∷ 1 ∷ [])
    -- one entry too few
    ∷ (six, lengths, replicate 5 99, refused (refusal 7 6 5), replicate 5 99)
    ∷ (six, lengths, [], refused (refusal 7 6 0), [])
    -- a byte too many, a byte too few, bytes and no lengths, a length and no bytes, and lengths that add up to 2^32 more; 10 is told before 7
    ∷ (six ++ (0x5A ∷ []), lengths, replicate 8 99, refused (refusal 10 0 0), replicate 8 99)
    ∷ (six, lengths ++ (1 ∷ []), replicate 8 99, refused (refusal 10 0 0), replicate 8 99)
    ∷ (six, [], 99 ∷ [], refused (refusal 10 0 0), 99 ∷ [])
    ∷ ([], 1 ∷ [], [], refused (refusal 10 0 0), [])
    ∷ (good [], 4294967295 ∷ 5 ∷ [], 99 ∷ 99 ∷ [], refused (refusal 10 0 0), 99 ∷ 99 ∷ [])
    -- no messages and an empty buffer; one empty message
    ∷ ([], [], [], accepted 0, [])
    ∷ ([], [], 99 ∷ [], accepted 0, 99 ∷ [])
    ∷ ([], 0 ∷ [], 99 ∷ [], accepted 1, 1 ∷ [])
    -- 4,096 messages are read, 4,097 are too many: told before lengths that don't add up and a list that is too short
    ∷ ([], replicate 4096 0, replicate 4097 99, accepted 4096, replicate 4096 1 ++ (99 ∷ []))
    ∷ ([], replicate 4096 0, [], refused (refusal 7 4096 0), [])
    ∷ (0x02 ∷ [], replicate 4096 0, [], refused (refusal 10 0 0), [])
    ∷ ([], replicate 4097 0, 99 ∷ [], refused (refusal 12 0 0), 99 ∷ [])
    ∷ (0x02 ∷ [], replicate 4097 0, [], refused (refusal 12 0 0), [])
    ∷ []

abbrev answered : Row → Answer ℕ × List ℕ
answered row = let (buffer, ls, list, a, new) = row in let w = read_batch buffer ls list in (w.answer, w.contents)

abbrev expected : Row → Answer ℕ × List ℕ
expected row = let (buffer, ls, list, a, new) = row in (a, new)

rows_hold : map answered rows ≡ map expected rows
unfolding ◌>>=◌ give refuse of_bytes in_range begins first_row char_length valid_from valid_up_to is_utf8 one_of known part byte headed counted name numbers size_group read_request over sum messages number_of batch_numbers read_batch
rows_hold = refl
