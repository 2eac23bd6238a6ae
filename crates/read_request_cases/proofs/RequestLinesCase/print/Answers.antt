-- `print` meets its contract: each text that was made of the file is the paper's, and stands behind the path.
use Rattle.std.proofs.Common.{ℕ, List, ◌++◌, ◌≡◌, refl, ap₂, take, length, take_at, codes}
use Rattle.std.proofs.KnownBytes.{Appends-trans}
use Rattle.paper.specs.Answer.{over}
use Rattle.streams.proofs.Cases.{on_ok}
use Rattle.read_request_cases.proofs.RequestLinesCase.print.Goals as goal

front : (u old : List ℕ) {k : ℕ} {new : List ℕ} → k ≡ length u → new ≡ over u old → take k new ≡ u
unfolding over
front u old e is = rw (e, is) (take_at u _ _ refl)

pub returns : goal.returns
returns g c =
    let path = c.args.path.now in
    let read = front _ _ c.line_text-k.ensures.value c.line_text-k.ensures.out_after in
    let desk = front _ _ c.desk_text-j.ensures.value c.desk_text-j.ensures.out_after in
    let lines = ap₂ (λ (u v : List ℕ). (path ++ (codes ": " ++ u)) ++ (path ++ (codes " at the desk: " ++ v))) read desk in
    on_ok c.print_line-2.result (λ last. (_, _, c.in_ok-n.ensures.bytes, Appends-trans _ _ _ _ _ c.in_ok-print_line.ensures last, lines)) c.print_line-2.ensures
