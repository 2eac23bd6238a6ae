-- No second answer, and no second final contents, meets a rewriter's promise.
-- Assumes nothing.
use Prim.Native.Nat.{ℕ, ◌-◌}
use mathlib.Core.Path.{◌≡◌, sym, ap, ◌∙◌}
use mathlib.Core.List.{List}
use lib.ListN.{length}
use Rattle.std.specs.Prelude.{Ok, Err}
use Rattle.paper.specs.Answer.{Answer, accepted, refused, Read, ◌leaving◌, Reader}
use Rattle.wire.specs.Reading.{Seen}
use Rattle.wire.proofs.Refusals.{refusal_back, refusal-back}
use Rattle.wire.proofs.Unique.{tail_back}
use Rattle.file_operation.specs.Rewriting.{retold, tail_within, Rewrote}

-- the answer that the paper's stands for, of a message of so many bytes
abbrev rewrite_back : ℕ → Answer (Read ℕ) → Seen ℕ
rewrite_back n (accepted (w leaving t)) = Ok (w, n - length t)
rewrite_back n (refused e) = Err (refusal_back e)

-- an answer comes back from what it says
rewrite-back : (s : List ℕ) (r : Seen ℕ) → tail_within s r → rewrite_back (length s) (retold s r) ≡ r
rewrite-back s (Ok (w, tail)) h = ap (λ (t : ℕ). Ok (w, t)) (tail_back s tail h)
rewrite-back s (Err e) h = ap Err (refusal-back e)

-- one law for every rewriter
pub rewrote_once : {rewrite : Reader (List ℕ)} {s old : List ℕ} {r q : Seen ℕ} {x y : List ℕ} → Rewrote rewrite s old r x → Rewrote rewrite s old q y → (r ≡ q) × (x ≡ y)
rewrote_once {s = s} {r = r} {q} h k = (
  sym (rewrite-back s r h.place) ∙ ap (rewrite_back (length s)) (h.answer ∙ sym k.answer) ∙ rewrite-back s q k.place,
  h.contents ∙ sym k.contents,
)
