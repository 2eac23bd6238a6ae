-- A message's verdict field by field, as its readers go: what each field's reader answers decides whether the message stops there.
use Rattle.std.specs.Prelude.{ℕ, ◌+◌, List, drop, leb, eqb}
use Rattle.paper.specs.Choice.{pick}
use Rattle.paper.specs.Answer.{Refusal, Answer, accepted, refused, Read}
use Rattle.paper.specs.Kind.{Kind, known}
use Rattle.paper.specs.Field.{byte, number, name, block_length, size_group}
use Rattle.paper.specs.Request.{AfterName, format_and_sizes, nothing, format_only, after_name}
use Rattle.paper.specs.Response.{AfterFormat, nothing as nothingMore, two_sizes, one_size, one_position, AfterMode, ended, block_and_format, after_mode}
use Rattle.paper.specs.Reason.{Fault, no_mode, no_name_length, cut_name, not_utf8, no_such_mode, no_format, no_width, cut_sizes, wrong_width, no_count, cut_block, cut_position, Verdict, all_pass, stops, mode_in, name_end, block_end}

-- ---- what is wrong, told from the refusal of a field's reader
-- whatever the refusal is
abbrev pub always : Fault → Refusal → Fault
always f r = f

-- the name: two bytes are needed only where its length is missing
abbrev pub name_fault : Refusal → Fault
name_fault r = pick (eqb r.number 2) not_utf8 (pick (eqb r.first 2) no_name_length cut_name)

-- the block length: one byte is needed only where its count is missing
abbrev pub block_fault : Refusal → Fault
block_fault r = pick (eqb r.first 1) no_count cut_block

-- the size group: one or two bytes are needed only where its width is missing
abbrev pub sizes_fault : Refusal → Fault
sizes_fault r = pick (eqb r.number 6) wrong_width (pick (leb r.first 2) no_width cut_sizes)

-- ---- one field after the other
-- a field that is refused stops the message there; else the rest decides
abbrev pub after : {A : Type 0} → Answer (Read A) → (Refusal → Fault) → ℕ → Verdict → Verdict
after (accepted v) fault at rest = rest
after (refused r) fault at rest = stops (fault r) at r

-- what stands after the name
abbrev pub why_after_name : AfterName → List ℕ → ℕ → Verdict
why_after_name format_and_sizes s at = after (byte (drop at s)) (always no_format) at (after (size_group 1 2 (drop (at + 1) s)) sizes_fault (at + 1) all_pass)
why_after_name nothing s at = all_pass
why_after_name format_only s at = after (byte (drop at s)) (always no_format) at all_pass

-- what stands after the format byte
abbrev pub why_after_format : AfterFormat → List ℕ → ℕ → Verdict
why_after_format nothingMore s at = all_pass
why_after_format two_sizes s at = after (size_group 2 2 (drop at s)) sizes_fault at all_pass
why_after_format one_size s at = after (size_group 2 1 (drop at s)) sizes_fault at all_pass
why_after_format one_position s at = after (number 8 (drop at s)) (always cut_position) at all_pass

-- what stands after the mode, at offset 1
abbrev pub why_after_mode : AfterMode → List ℕ → Verdict
why_after_mode ended s = all_pass
why_after_mode (block_and_format more) s =
    after (block_length (drop 1 s)) block_fault 1
    (after (byte (drop (block_end s) s)) (always no_format) (block_end s)
    (why_after_format more s (block_end s + 1)))

-- ---- a message
-- an unknown mode stops it at offset 0; else its kind decides
abbrev pub why_kind : Answer Kind → (Kind → Verdict) → Verdict
why_kind (accepted k) rest = rest k
why_kind (refused r) rest = stops no_such_mode 0 r

abbrev pub why_request : List ℕ → Verdict
why_request s =
    after (byte (drop 0 s)) (always no_mode) 0
    (after (name (drop 1 s)) name_fault 1
    (why_kind (known (mode_in s)) (λ (k : Kind). why_after_name (after_name k) s (name_end s))))

abbrev pub why_response : List ℕ → Verdict
why_response s =
    after (byte (drop 0 s)) (always no_mode) 0
    (why_kind (known (mode_in s)) (λ (k : Kind). why_after_mode (after_mode k) s))
