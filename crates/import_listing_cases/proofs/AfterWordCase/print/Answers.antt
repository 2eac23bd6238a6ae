-- `print` meets its contract: the word and the path, and behind them what the word asks for.
use Rattle.std.proofs.Common.{◌++◌, [], ap, codes, subst, take}
use Rattle.std.proofs.KnownBytes.{Appends-trans, Consumes-nil}
use Rattle.listing_text.specs.Import.{MaskRight}
use Rattle.streams.proofs.Cases.{on_ok}
use Rattle.import_listing_cases.specs.Shown.{shown}
use Rattle.import_listing_cases.proofs.Shown.{with_mask, no_mask}
use Rattle.import_listing_cases.proofs.AfterWordCase.print.Goals as goal

pub returns-in-Some : goal.returns-in-Some
returns-in-Some g c =
    let word = take c.argument-k.result c.argument-k.new.buf in
    let head = word ++ (codes " " ++ c.args.path.now) in
    let right = subst (MaskRight word) c.in-Some.is c.mask_in.ensures in
    on_ok c.print_imported.result
    (λ (input, gone, last). (input, _, gone, Appends-trans _ _ _ _ _ c.in_ok-print_line.ensures last, (word, ap (λ p. head ++ shown p) (with_mask word input c.in-Some.mask right))))
    c.print_imported.ensures

pub returns-in-None : goal.returns-in-None
returns-in-None g c =
    let word = take c.argument-k.result c.argument-k.new.buf in
    let head = word ++ (codes " " ++ c.args.path.now) in
    let right = subst (MaskRight word) c.in-None.is c.mask_in.ensures in
    on_ok c.print_usage.result
    (λ last. ([], _, Consumes-nil _, Appends-trans _ _ _ _ _ c.in_ok-print_line.ensures last, (word, ap (λ p. head ++ shown p) (no_mask word [] right))))
    c.print_usage.ensures
