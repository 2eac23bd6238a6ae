-- How long a message is that is to be written.
use Rattle.std.specs.Prelude.{ℕ, List, length}
use Rattle.paper.specs.Answer.{Answer, accepted, refused}

-- its number of bytes, or its refusal
abbrev pub length_in : Answer (List ℕ) → Answer ℕ
length_in (accepted bytes) = accepted (length bytes)
length_in (refused r) = refused r
