-- `class_of` meets its contract: the digit of its row that a lead byte has is the number of its class.
use Rattle.std.proofs.Common.{◌≡◌, ◌+◌, ◌*◌, ◌/◌, ◌%◌, ap, ◌∙◌, arith}
use Rattle.paper.specs.LeadBytes.{class_of}
use Rattle.utf8.specs.LeadBytes.{numbered}
use Rattle.utf8.proofs.LeadBytes.{number_back}
use Rattle.utf8.proofs.lead_bytes.class_of.Goals as goal

pub returns : goal.returns
returns c =
    let b = c.args.lead in
    let e : 16 * (b / 16) + b % 16 ≡ b = omega arith in
    let digit = rw e at ((c.row.ensures (omega (arith, c.ranges))).entries (b % 16) (omega arith)) in
    c.class_numbered.ensures ∙ ap numbered digit ∙ number_back (class_of b)
