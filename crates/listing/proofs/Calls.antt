-- What the paper says of an index, of a lookup and of a comparison holds of every call that kept its contract.
-- Assumes nothing.
use mathlib.Core.Path.{◌≡◌, ap, ◌∙◌}
use contract.Lifetimes.{Lfts}
use denote.Triple.Clauses.{AtExit}
use borrow.Fn.Kinds.{Dens, ended_of}
use lib.ListN.{length}
use Prim.Native.Nat.{ℕ}
use mathlib.Core.List.{List}
use Rattle.paper.specs.Answer.{accepted, written}
use Rattle.paper.specs.Bytes.{Bytes}
use Rattle.paper.specs.Tally.{sum}
use Rattle.paper.specs.Listing as paper
use Rattle.paper.specs.Listing.{Listing, read_listing, index_in, find}
use Rattle.paper.specs.Changes.{Entry, entries_bytes, read_for_changes, Lists}
use Rattle.paper.proofs.ListingIndex.{counts_add_up, own_accepted, look_own}
use Rattle.paper.proofs.Changes.{both-listed}
use Rattle.std.specs.Prelude.{Result}
use Rattle.wire.specs.declared.refusal.Refusal.{Refusal}
use Rattle.dtc.specs.Status.{code_of}
use Rattle.listing.specs.Listing.{sub_of}
use Rattle.listing.specs.Index.{index_said, look_said}
use Rattle.listing.specs.declared.Listed.{Listed}
use Rattle.listing.specs.declared.index.Indexed.{Indexed}
use Rattle.listing.specs.Changes.{ComparedRight}
use Rattle.listing.specs.declared.changes.ChangesRefusal.{ChangesRefusal}
use Rattle.listing.proofs.index.index_listing.Kinds as index-listing-kinds
use Rattle.listing.proofs.index.index_listing.Reads as index-listing
use Rattle.listing.proofs.index.look_up.Kinds as look-up-kinds
use Rattle.listing.proofs.index.look_up.Reads as look_up
use Rattle.listing.proofs.changes.listing_changes.Kinds as listing-changes-kinds
use Rattle.listing.proofs.changes.listing_changes.Reads as listing-changes

-- an index was made of a listing that is accepted
module _ (κs : Lfts 1) (a : Dens κs index-listing-kinds.ps) (x : AtExit (ended_of 1 index-listing-kinds.ps index-listing-kinds.r) κs) (r : Indexed) (kept : index-listing.Post κs a r x)
    {l : Listing} (read : read_listing (sub_of a.0) a.1.0.now ≡ accepted l) where
  made : index_said r.index ≡ paper.index_of l.records
  made = kept.index ∙ ap index_in read

  -- its counts add up to the records
  pub index-adds-up : Bytes a.1.0.now → sum r.index.counts ≡ length l.records
  index-adds-up bytes = ap (λ (i : paper.Index). sum i.counts) made ∙ counts_add_up (sub_of a.0) a.1.0.now bytes read

  -- and a lookup by it, in the same message, answers the first record that has the code, or 16: never 11
  pub index_finds : (κs₂ : Lfts 3) (b : Dens κs₂ look-up-kinds.ps) (y : AtExit (ended_of 3 look-up-kinds.ps look-up-kinds.r) κs₂) (q : Result (ℕ × Listed) Refusal) → look_up.Post κs₂ b q y
      → b.0 ≡ a.0 → b.1.0.now ≡ a.1.0.now → b.1.1.0.now ≡ r.index.counts → b.1.1.1.0.now ≡ r.index.firsts → look_said q ≡ find 0 (code_of b.1.1.1.1.0) l.records
  index_finds κs₂ b y q looked sub same counts firsts = looked ∙ rw (sub, same, counts, firsts) (look_own (sub_of a.0) a.1.0.now (index_said r.index) (code_of b.1.1.1.1.0) read (ap (paper.own_index l.records) made ∙ own_accepted l.records))

-- two listings were compared that are read, and in which no code stands twice: what is written is the list that the places say
module _ (κs : Lfts 3) (a : Dens κs listing-changes-kinds.ps) (x : AtExit (ended_of 3 listing-changes-kinds.ps listing-changes-kinds.r) κs) (r : Result ℕ ChangesRefusal) (kept : listing-changes.Post κs a r x)
    {l m : Listing} (first : read_for_changes (sub_of a.0) a.1.0.now ≡ accepted l) (second : read_for_changes (sub_of a.1.1.0) a.1.1.1.0.now ≡ accepted m) where
  pub changes-told : (es : List Entry) × Lists l.records m.records es × ComparedRight (record { which = 0; filled = written (accepted (entries_bytes es)) a.1.1.1.1.0.now }) r x.1.1.1.1.0.now
  changes-told =
      let (es, listed, is) = both-listed (sub_of a.0) (sub_of a.1.1.0) a.1.0.now a.1.1.1.0.now a.1.1.1.1.0.now first second in
      (es, listed, rw is at kept)
