-- What the answers about the records of a sheet say, in the paper's terms.
use Rattle.std.specs.Prelude.{ℕ, List, Result, Ok, Err}
use Rattle.paper.specs.Answer.{Answer, accepted, refused}
use Rattle.wire.specs.Refusals.{row}
use Rattle.wire.specs.declared.refusal.Refusal.{Refusal}

abbrev pub judged : Result (Unit {0}) Refusal → Answer (Unit {0})
judged (Ok u) = accepted tt
judged (Err e) = refused (row e)

-- the answer with the table
abbrev pub counted : Result (List (List ℕ)) Refusal → Answer (List (List ℕ))
counted (Ok t) = accepted t
counted (Err e) = refused (row e)
