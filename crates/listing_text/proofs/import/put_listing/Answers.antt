-- `listing_text::import::put_listing` meets its contract: the listing in room enough for any, or the line of the refusal.
use borrow.Author.Rules.{rules}
use Rattle.paper.specs.CodeText.{import_listing}
use Rattle.paper.proofs.ListingText.{import_longest}
use Rattle.listing_text.proofs.Answers.{listing-put, refusal-put}
use Rattle.listing_text.proofs.import.put_listing.Goals as goal

pub returns-in-Ok : goal.returns-in-Ok
returns-in-Ok c =
    let a = c.args in
    listing-put (import_listing a.mask.bits a.text.now) (λ t e. import_longest a.mask.bits a.text.now e) (rw c.in-Ok.is at c.import_listing.ensures)

pub returns-in-Err : goal.returns-in-Err
returns-in-Err c =
    let a = c.args in
    refusal-put (import_listing a.mask.bits a.text.now) (λ t e. import_longest a.mask.bits a.text.now e) (search rules) (rw c.in-Err.is at c.import_listing.ensures)
    c.put_refused.ensures.laid c.put_refused.ensures.upper_bound
