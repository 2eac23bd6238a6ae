-- Records that are handed over, in the paper's terms.
use Rattle.std.specs.Prelude.{ℕ, ◌≡◌, List, Result, MatchResult}
use Rattle.paper.specs.Answer.{refused}
use Rattle.paper.specs.Listing.{SubFunction, Listed, handed_in, write_handed}
use Rattle.wire.specs.Refusals.{row}
use Rattle.wire.specs.declared.refusal.Refusal.{Refusal}
use Rattle.listing.specs.declared.handed.Handed.{Handed}

abbrev pub listed_in : Handed → List Listed
listed_in h = handed_in h.count h.bytes.now

-- the answer r is these bytes as records, or why no listing of them is written
abbrev pub HandedRight : List ℕ → Result Handed Refusal → Type 0
HandedRight b r = MatchResult r (λ h. h.bytes.now ≡ b) (λ e. (f : SubFunction) (mask : ℕ) → write_handed f mask b ≡ refused (row e))
