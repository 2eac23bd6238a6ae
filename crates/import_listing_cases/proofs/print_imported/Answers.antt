-- `print_imported` meets its contract: what the import gives, behind the name of its stream.
use Rattle.std.proofs.Common.{ℕ, List, ◌++◌, sym, ap, ◌∙◌, subst, codes}
use Rattle.std.specs.Io.KnownBytes.{Appends}
use Rattle.std.proofs.KnownBytes.{Appends-trans}
use Rattle.listing_text.specs.Import.{count_of, goes_to_output}
use Rattle.streams.proofs.Cases.{on_ok}
use Rattle.import_listing_cases.proofs.Shown.{front, on_output, on_error}
use Rattle.import_listing_cases.proofs.print_imported.Goals as goal

pub returns-in-ToOutput : goal.returns-in-ToOutput
returns-in-ToOutput g c =
    let h = c.import_text.ensures in
    let text = front _ _ (ap count_of (sym c.in-ToOutput.is) ∙ h.count) h.contents in
    let all = ap (λ (u : List ℕ). codes " to standard output:\n" ++ (u ++ codes "\n")) text ∙ on_output _ (ap goes_to_output (sym c.in-ToOutput.is) ∙ h.stream) in
    on_ok c.print_line.result (λ printed. (_, c.in_ok-n.ensures.bytes, subst (Appends _ _) all printed)) c.print_line.ensures

pub returns-in_ok-write_all-in-ToError : goal.returns-in_ok-write_all-in-ToError
returns-in_ok-write_all-in-ToError g c =
    let h = c.import_text.ensures in
    let text = front _ _ (ap count_of (sym c.in-ToError.is) ∙ h.count) h.contents in
    let all = ap (λ (u : List ℕ). codes " to standard error:\n" ++ u) text ∙ on_error _ (ap goes_to_output (sym c.in-ToError.is) ∙ h.stream) in
    on_ok c.write_all-in-ToError.result (λ last. (_, c.in_ok-n.ensures.bytes, subst (Appends _ _) all (Appends-trans _ _ _ _ _ c.in_ok-write_all-in-ToError.ensures.bytes last))) c.write_all-in-ToError.ensures.bytes
