-- `listing_text::export::put_lines` meets its contract: the text in room enough for any, or the line of the refusal.
use borrow.Author.Rules.{rules}
use Rattle.paper.specs.CodeText.{export_listing}
use Rattle.paper.specs.ListingProgram.{sub_function_said}
use Rattle.paper.proofs.ListingText.{export_longest}
use Rattle.listing_text.proofs.Answers.{lines-put, line_put}
use Rattle.listing_text.proofs.export.put_lines.Goals as goal

pub returns-in-Ok : goal.returns-in-Ok
returns-in-Ok c =
    let s = c.args.listing.now in
    lines-put (export_listing (sub_function_said s) s) (λ t e. export_longest (sub_function_said s) s e) (rw (c.sub_function_said.ensures, c.in-Ok.is) at c.export_listing.ensures)

pub returns-in-Err : goal.returns-in-Err
returns-in-Err c =
    let s = c.args.listing.now in
    line_put (export_listing (sub_function_said s) s) (λ t e. export_longest (sub_function_said s) s e) (search rules)
    (rw (c.sub_function_said.ensures, c.in-Err.is) at c.export_listing.ensures) c.put_refused.ensures.laid c.put_refused.ensures.upper_bound
