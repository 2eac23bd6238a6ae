-- Document 02, Req 03, in the place of document 01's rule, "The desk check": for one request in a buffer, the reader's refusals first, then 9, then 8.
use Rattle.std.specs.Prelude.{ℕ, Bool, true, List, [], ◌∷◌, length, eqb}
use Rattle.paper.specs.Choice.{pick}
use Rattle.paper.specs.Answer.{Answer, accepted, refused, unequal_sizes, left_over, check, Read, ◌leaving◌}
use Rattle.paper.specs.Request.{Request, AfterName, format_and_sizes, nothing, format_only, after_name, read_request}

-- kinds 1, 3 and 6: format byte 0x00 means neither packed nor encrypted, and then the two sizes must be equal; otherwise any sizes pass. Other kinds pass.
abbrev pub passes : AfterName → Request → Bool
passes format_and_sizes m = pick (eqb m.format 0x00) (eqb m.compressed m.uncompressed) true
passes nothing m = true
passes format_only m = true

abbrev pub judge_at_desk : Answer (Read Request) → Answer (Unit {0})
judge_at_desk (refused r) = refused r
judge_at_desk (accepted (m leaving (b ∷ t))) = refused (left_over (length (b ∷ t)))
judge_at_desk (accepted (m leaving [])) = check (passes (after_name m.kind) m) unequal_sizes (accepted tt)

unfoldable pub desk_check : List ℕ → Answer (Unit {0})
desk_check s = judge_at_desk (read_request s)
