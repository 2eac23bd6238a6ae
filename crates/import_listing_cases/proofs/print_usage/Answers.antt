-- `print_usage` meets its contract: how to use the program, behind the name of standard error.
use Rattle.std.proofs.Common.{ℕ, List, ◌++◌, ap, subst, codes}
use Rattle.std.specs.Io.KnownBytes.{Appends}
use Rattle.std.proofs.KnownBytes.{Appends-trans}
use Rattle.streams.proofs.Cases.{on_ok}
use Rattle.import_listing_cases.proofs.Shown.{front}
use Rattle.import_listing_cases.proofs.print_usage.Goals as goal

pub returns : goal.returns
returns g c =
    let text = front _ _ c.usage_text-k.ensures.value c.usage_text-k.ensures.out_after in
    let all = ap (λ (u : List ℕ). codes " to standard error:\n" ++ u) text in
    on_ok c.write_all-2.result (λ last. subst (Appends _ _) all (Appends-trans _ _ _ _ _ c.in_ok-write_all.ensures.bytes last)) c.write_all-2.ensures.bytes
