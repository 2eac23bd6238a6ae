-- The calls of `split_joined` that kept their contract, as `file_operation:specs/Calls` has those of readers and rewriters.
use Rattle.std.specs.Prelude.{◌≡◌, ℕ, List, Result}
use contract.Lifetimes.{Lfts}
use Rattle.file_operation.specs.Calls.{TwoSlices}
use Rattle.joined_requests.specs.declared.SplitError.{SplitError}

-- a call with this contract, as the check reads it: it was lent the buffer s and a list that held `list`, answered r and left the list holding `after`
pub record SplitCall (Post : Lfts 2 → TwoSlices → Result ℕ SplitError → TwoSlices → Type 0) (s list : List ℕ) (r : Result ℕ SplitError) (after : List ℕ) : Type 0 where
  pub lifetimes : Lfts 2
  pub args : TwoSlices
  pub exit : TwoSlices
  pub lent : args.0.now ≡ s
  pub before : args.1.0.now ≡ list
  pub left : exit.1.0.now ≡ after
  pub met : Post lifetimes args r exit
