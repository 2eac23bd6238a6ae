-- What the answers about a joined buffer say, in the paper's terms.
use Rattle.std.specs.Prelude.{◌≡◌, ℕ, ◌≤◌, List, length, drop, Result, Ok, Err}
use Rattle.paper.specs.Answer.{Answer, accepted, refused, ◌then◌, ◌leaving◌}
use Rattle.paper.specs.Request.{Request, read_request}
use Rattle.paper.specs.Joined.{pieces_of, taken_apart, OneRequest}
use Rattle.wire.specs.Refusals.{row}
use Rattle.wire.specs.declared.refusal.Refusal.{Refusal}
use Rattle.joined_requests.specs.declared.SplitError.{SplitError}

-- what an answer says, and how many pieces it says were found
abbrev pub answered : Result ℕ SplitError → Answer ℕ
answered (Ok n) = accepted n
answered (Err e) = refused (row e.refusal)

abbrev pub found_in : Result ℕ SplitError → ℕ
found_in (Ok n) = n
found_in (Err e) = e.found

-- a request begins the bytes s and has this length, some request's; or s is refused
pub record HasLength (s : List ℕ) (n : ℕ) : Type 0 where
  pub meaning : Request
  pub reads : read_request s ≡ accepted (meaning leaving drop n s)
  pub within : n ≤ length s
  pub one : OneRequest n

abbrev pub PieceRight : List ℕ → Result ℕ Refusal → Type 0
PieceRight s (Ok n) = HasLength s n
PieceRight s (Err e) = read_request s ≡ refused (row e)

-- the first pass: how it ends, and how many pieces are found
pub record Counted (s : List ℕ) (r : Result ℕ SplitError) : Type 0 where
  pub answer : answered r ≡ ((pieces_of s).ended then accepted (length (pieces_of s).lengths))
  pub found : found_in r ≡ length (pieces_of s).lengths

-- what the second pass starts from: the buffer is good, and the list is long enough
pub record Fits (s list : List ℕ) : Type 0 where
  pub good : (pieces_of s).ended ≡ accepted tt
  pub room : length (pieces_of s).lengths ≤ length list

-- the promise: the answer, how many pieces were found, and what the whole list holds afterwards
pub record Split (buffer list : List ℕ) (r : Result ℕ SplitError) (after : List ℕ) : Type 0 where
  pub answer : answered r ≡ (taken_apart buffer list).filled.answer
  pub found : found_in r ≡ (taken_apart buffer list).found
  pub contents : after ≡ (taken_apart buffer list).filled.contents
