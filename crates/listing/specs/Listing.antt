-- What the code's sub-functions, records and answers say, in the paper's terms.
use Rattle.std.specs.Prelude.{ℕ, ◌+◌, ◌*◌, ◌≤◌, ◌≡◌, List, length, drop, Option, Some, None, Result, Ok, Err}
use Rattle.std.proofs.Math.Option as paper-option
use Rattle.paper.specs.Answer as paper-answer
use Rattle.paper.specs.Answer.{accepted, refused}
use Rattle.paper.specs.Listing as paper
use Rattle.paper.specs.Listing.{by_status_mask, by_severity_mask, record_size, record_of, records_in, Head}
use Rattle.wire.specs.Refusals.{row}
use Rattle.wire.specs.declared.refusal.Refusal.{Refusal}
use Rattle.dtc.specs.Status.{code_of}
use Rattle.dtc.specs.declared.status.Mask.{Mask}
use Rattle.dtc.specs.declared.status.Status.{Status}
use Rattle.listing.specs.declared.SubFunction.{SubFunction}
use Rattle.listing.specs.declared.SubFunction.TheVariants.{ByStatusMask, BySeverityMask}
use Rattle.listing.specs.declared.Listed.{Listed}

abbrev pub sub_of : SubFunction → paper.SubFunction
sub_of ByStatusMask = by_status_mask
sub_of BySeverityMask = by_severity_mask

abbrev pub listed_of : Listed → paper.Listed
listed_of r = record { known = r.known; severity = r.severity.bits; functional_unit = r.functional_unit; code = code_of r.code; status = r.status.bits }

-- what reading says
abbrev pub head_said : Result (Mask Status × ℕ) Refusal → paper-answer.Answer Head
head_said (Ok (m, n)) = accepted (record { mask = m.bits; records = n })
head_said (Err e) = refused (row e)

-- what is said of a place
abbrev pub record_said : Option Listed → paper-option.Option paper.Listed
record_said None = paper-option.none
record_said (Some r) = paper-option.some (listed_of r)

-- the message has n records, and no byte more
pub record Held (f : paper.SubFunction) (n : ℕ) (s : List ℕ) : Type 0 where
  pub few : n ≤ 4096
  pub long : length s ≡ 3 + record_size f * n

-- which stand after the mask
abbrev pub records_of : paper.SubFunction → ℕ → List ℕ → List paper.Listed
records_of f n s = records_in f n (drop 3 s)

-- the record at place k
abbrev pub record_here : paper.SubFunction → List ℕ → ℕ → paper.Listed
record_here f s k = record_of f (drop (record_size f * k) (drop 3 s))
