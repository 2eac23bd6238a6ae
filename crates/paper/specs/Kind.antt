-- The six kinds of document 01's layouts, and codes that are held once: a value for each known byte and for no other.
use Rattle.std.specs.Prelude.{ℕ, List, [], ◌∷◌, eqb}
use Rattle.paper.specs.Choice.{pick}
use Rattle.paper.specs.Answer.{Refusal, unknown_mode, Answer, accepted, refused}

-- the value whose byte this is, else the refusal with the byte
unfoldable pub one_of : {A : Type 0} → (A → ℕ) → List A → (ℕ → Refusal) → ℕ → Answer A
one_of byte_of [] unknown b = refused (unknown b)
one_of byte_of (a ∷ others) unknown b = pick (eqb (byte_of a) b) (accepted a) (one_of byte_of others unknown b)

pub data Kind : Type 0 where
  add_file delete_file replace_file read_file read_dir resume_file : Kind

abbrev pub mode_of : Kind → ℕ
mode_of add_file = 1
mode_of delete_file = 2
mode_of replace_file = 3
mode_of read_file = 4
mode_of read_dir = 5
mode_of resume_file = 6

abbrev pub kinds : List Kind
kinds = add_file ∷ delete_file ∷ replace_file ∷ read_file ∷ read_dir ∷ resume_file ∷ []

-- the kind of a mode byte, else refusal 3 with the byte
unfoldable pub known : ℕ → Answer Kind
known mode = one_of mode_of kinds unknown_mode mode
