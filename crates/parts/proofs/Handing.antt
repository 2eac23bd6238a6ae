-- What is handed over is written where its checks pass, and is refused with their refusal where they do not.
-- Assumes nothing.
use Prim.Native.Nat.{ℕ}
use mathlib.Core.Path.{◌≡◌, refl, sym, ap, ◌∙◌}
use mathlib.Core.List.{List}
use mathlib.Core.Bool.{Bool, true, false}
use lib.ListN.{length}
use lib.Dec.{leb}
use Rattle.paper.specs.Answer.{Refusal, accepted, refused, wrong_format, check, ◌then◌}
use Rattle.paper.specs.Field.{with_count}
use Rattle.paper.specs.Request.{good_name}
use Rattle.paper.specs.Response.{good_block_length}
use Rattle.paper.proofs.Request.{good-name}
use Rattle.wire.specs.Writing.{counted_run}
use Rattle.wire.proofs.FieldBytes.{counted-good}
use Rattle.file_operation.specs.Writing.{length_in}
use Rattle.file_operation.proofs.Lengths.{refused_then}
use Rattle.request_file_transfer.proofs.Laid.{named}
use Rattle.parts.specs.Handed.{name_handed, block_length_handed}

-- a name that is good is written after its length
pub name_passed : (n : List ℕ) {m : ℕ} → accepted m ≡ length_in (good_name n) → name_handed n ≡ counted_run 2 65535 n
unfolding name_handed
name_passed n said = let is = (named n said).0 in ap (λ a. a then accepted (with_count 2 n)) ((good-name n n).1 (refl, is)) ∙ sym (counted-good 2 n is.short)

-- one that is not is refused alike
pub name-refused : (n : List ℕ) {e : Refusal} → refused e ≡ length_in (good_name n) → name_handed n ≡ refused e
unfolding name_handed
name-refused n said = sym (refused_then (good_name n) (accepted (with_count 2 n)) said)

-- a block length is judged by its count alone
pub block-length-handed : (b : List ℕ) → block_length_handed b ≡ counted_run 1 255 b
unfolding block_length_handed good_block_length counted_run
block-length-handed b = go (leb (length b) 255)
  where
    go : (ok : Bool) → (check ok (wrong_format 0) (accepted b) then accepted (with_count 1 b)) ≡ check ok (wrong_format 0) (accepted (with_count 1 b))
    go true = refl
    go false = refl
