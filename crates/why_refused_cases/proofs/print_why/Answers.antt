-- `print_why` meets its contract: the text that was made of the file is the paper's, and stands behind the path.
use Rattle.std.proofs.Common.{ℕ, List, ◌++◌, ◌≡◌, refl, ap, take, length, take_at, subst}
use Rattle.paper.specs.Answer.{over}
use Rattle.std.specs.Io.KnownBytes.{Appends}
use Rattle.streams.proofs.Cases.{on_ok}
use Rattle.why_refused_cases.proofs.print_why.Goals as goal

front : (u old : List ℕ) {k : ℕ} {new : List ℕ} → k ≡ length u → new ≡ over u old → take k new ≡ u
unfolding over
front u old e is = rw (e, is) (take_at u _ _ refl)

pub returns : goal.returns
returns g c =
    let shown = front _ _ c.why_text-k.ensures.value c.why_text-k.ensures.out_after in
    on_ok c.print_line.result (λ printed. subst (Appends _ _) (ap (λ (u : List ℕ). c.args.path.now ++ (c.args.words.now ++ u)) shown) printed) c.print_line.ensures
