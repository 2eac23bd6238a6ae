-- `print` meets its contract: the text that was made of the file is the paper's, and stands behind the path.
use Rattle.std.proofs.Common.{ℕ, List, ◌++◌, ◌≡◌, refl, ap, take, length, take_at, codes}
use Rattle.paper.specs.Answer.{over}
use Rattle.streams.proofs.Cases.{on_ok}
use Rattle.export_listing_cases.proofs.ExportedListingCase.print.Goals as goal

front : (u old : List ℕ) {k : ℕ} {new : List ℕ} → k ≡ length u → new ≡ over u old → take k new ≡ u
unfolding over
front u old e is = rw (e, is) (take_at u _ _ refl)

pub returns : goal.returns
returns g c =
    let shown = front _ _ c.export_text-k.ensures.value c.export_text-k.ensures.out_after in
    on_ok c.print_line.result (λ printed. (_, _, c.in_ok-n.ensures.bytes, printed, ap (λ (u : List ℕ). c.args.path.now ++ (codes ":\n" ++ u)) shown)) c.print_line.ensures
