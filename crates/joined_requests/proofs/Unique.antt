-- No second answer, and no second final contents of the list, meets the contract of `split_joined`.
-- Assumes nothing.
use Prim.Native.Nat.{ℕ}
use mathlib.Core.Path.{◌≡◌, refl, sym, ap, ap₂, ◌∙◌}
use mathlib.Core.List.{List}
use Rattle.std.specs.Prelude.{Result, Ok, Err}
use Rattle.wire.specs.declared.refusal.Refusal.{Refusal}
use Rattle.paper.specs.Answer.{Answer, accepted, refused}
use Rattle.wire.proofs.Refusals.{refusal_back, refusal-back}
use Rattle.wire.proofs.UniqueWriting.{WritesOnce}
use Rattle.joined_requests.specs.Split.{answered, found_in, Split}
use Rattle.joined_requests.specs.declared.SplitError.{SplitError}
use Rattle.joined_requests.proofs.split_joined.Kinds as split-joined-kinds
use Rattle.joined_requests.proofs.split_joined.Reads as split-joined

-- the answer that the paper's stands for, and how many pieces were found
abbrev split_back : Answer ℕ → ℕ → Result ℕ SplitError
split_back (accepted n) found = Ok n
split_back (refused e) found = Err (record { refusal = refusal_back e; found = found })

split-back : (r : Result ℕ SplitError) → split_back (answered r) (found_in r) ≡ r
split-back (Ok n) = refl
split-back (Err e) = ap (λ (x : Refusal). Err (record e { refusal = x })) (refusal-back e.refusal)

pub split_once : {buffer list : List ℕ} {r q : Result ℕ SplitError} {x y : List ℕ} → Split buffer list r x → Split buffer list q y → (r ≡ q) × (x ≡ y)
split_once {r = r} {q} h k = (
  sym (split-back r) ∙ ap₂ split_back (h.answer ∙ sym k.answer) (h.found ∙ sym k.found) ∙ split-back q,
  h.contents ∙ sym k.contents,
)

-- the list is the last parameter
pub split_joined_determined : WritesOnce 2 split-joined-kinds.ps split-joined-kinds.r (λ κs x. x.1.0) split-joined.Post
split_joined_determined κs a x y r₁ r₂ p q = split_once p q
