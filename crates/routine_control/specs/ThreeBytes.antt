-- What requests and responses share, in the paper's terms: the answer about the three routine bytes, and the bytes of a message that is written.
use Rattle.std.specs.Prelude.{ℕ, List, length, leb}
use Rattle.paper.specs.Answer.{Answer, accepted, wrong_format, check}
use Rattle.paper.specs.RoutineControl as paper
use Rattle.paper.specs.RoutineControl.{routine_laid}
use Rattle.wire.specs.Reading.{Seen, Right, Onwards}
use Rattle.routine_control.specs.declared.routine_bytes.RoutineBytes.{RoutineBytes}

abbrev pub bytes_of : RoutineBytes → paper.RoutineBytes
bytes_of b = record { control = b.control; identifier = b.identifier }

-- the answer r at a position of the message s is the paper's; the next field begins three bytes on
abbrev pub RoutineBytesRight : List ℕ → ℕ → Seen RoutineBytes → Type 0
RoutineBytesRight s at r = Right RoutineBytes paper.RoutineBytes bytes_of paper.routine_bytes (λ (b : RoutineBytes) (next : ℕ). Onwards s at 3 next) s at r

-- the message that begins with these bytes: its record is judged, and then the three parts are laid out
abbrev pub routine_out : (control identifier : ℕ) → List ℕ → Answer (List ℕ)
routine_out control identifier r = check (leb (length r) 65535) (wrong_format 0) (accepted (routine_laid control identifier r))
