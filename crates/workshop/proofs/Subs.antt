-- The doors for listings, by whether the sub-function is known: what their returns cite.
-- Assumes nothing.
use Prim.Native.Nat.{ℕ}
use mathlib.Core.Path.{◌≡◌, refl, sym, ap}
use mathlib.Core.Bool.{Bool, true, false}
use mathlib.Core.List.{List}
use lib.Dec.{eqb}
use mathlib.Core.Option.{Option}
use Rattle.std.specs.Prelude.{Result, Ok, Err}
use Rattle.paper.specs.Answer.{Refusal, Answer, accepted, refused, unknown_service}
use Rattle.paper.specs.Choice.{pick}
use Rattle.paper.specs.TroubleCode.{TroubleCode}
use Rattle.paper.specs.Listing.{SubFunction, by_status_mask, by_severity_mask, Listing, Listed, read_listing, Head, head_of, record_at, Index, index_in, look_up_in, look_up, write_handed}
use Rattle.paper.specs.CodeText.{export_in, export_listing}
use Rattle.paper.proofs.Choice.{never}
use Rattle.wire.specs.Refusals.{row}
use Rattle.wire.specs.declared.refusal.Refusal as wire
use Rattle.listing.specs.Listing.{head_said}
use Rattle.listing.specs.Index.{IndexedRight, numbers_in}
use Rattle.dtc.specs.declared.status.Mask.{Mask}
use Rattle.dtc.specs.declared.status.Status.{Status}
use Rattle.listing.specs.declared.index.Indexed.{Indexed}
use Rattle.station.specs.Handed.{where_known}
use Rattle.workshop.specs.Listings.{listing_sub, read_known, listing_handed, write_sub_handed, place_record, listed_record, refused_listed, index_record, flat_index}
use Rattle.workshop.specs.declared.listings.IndexRecord.{IndexRecord}

-- ---- the sub-function
-- a byte that is none is refused as 15 at place 0
pub unknown_is : (b : ℕ) {e : Refusal} → refused e ≡ listing_sub b → e ≡ unknown_service 0
unknown_is b {e} h = by (eqb b 0x02) (eqb b 0x08) h
  where
    by : (x y : Bool) → refused e ≡ pick x (accepted by_status_mask) (pick y (accepted by_severity_mask) (refused (unknown_service 0))) → e ≡ unknown_service 0
    by true y h = absurd (never h)
    by false true h = absurd (never h)
    by false false h = let same : e ≡ unknown_service 0 = cc in same

module _ (b : ℕ) (s : List ℕ) where
  pub known : {f : SubFunction} → accepted f ≡ listing_sub b → listing_handed b s ≡ read_listing f s
  unfolding listing_handed
  known e = ap (read_known s) (sym e)

  pub unknown : {e : Refusal} → refused e ≡ listing_sub b → listing_handed b s ≡ refused e
  unfolding listing_handed
  unknown e = ap (read_known s) (sym e)

  -- an export
  pub exported_known : {f : SubFunction} → accepted f ≡ listing_sub b → export_in (listing_handed b s) ≡ export_listing f s
  unfolding export_listing
  exported_known e = ap export_in (known e)

  pub exported_unknown : {e : Refusal} → refused e ≡ listing_sub b → export_in (listing_handed b s) ≡ refused e
  exported_unknown e = ap export_in (unknown e)

-- a lookup is one in what was read
pub looked : (f : SubFunction) (s : List ℕ) (x : Index) (c : TroubleCode) → look_up f s x c ≡ look_up_in x c (read_listing f s)
unfolding look_up
looked f s x c = refl

module _ (b m : ℕ) (records : List ℕ) where
  pub written_known : {f : SubFunction} → accepted f ≡ listing_sub b → write_sub_handed b m records ≡ write_handed f m records
  unfolding write_sub_handed
  written_known e = ap (λ (a : Answer SubFunction). where_known a (λ (f : SubFunction). write_handed f m records)) (sym e)

  pub written-unknown : {e : Refusal} → refused e ≡ listing_sub b → write_sub_handed b m records ≡ refused e
  unfolding write_sub_handed
  written-unknown e = ap (λ (a : Answer SubFunction). where_known a (λ (f : SubFunction). write_handed f m records)) (sym e)

-- ---- a record at a place
pub placed : (k : ℕ) (a : Answer Listing) {h : Head} {o : Option Listed} → accepted h ≡ head_of a → o ≡ record_at k a → place_record o ≡ listed_record k a
placed k (accepted l) e f = ap place_record f
placed k (refused x) e f = absurd (never (sym e))

pub not_placed : (k : ℕ) (a : Answer Listing) {e : Refusal} → refused e ≡ head_of a → refused_listed e ≡ listed_record k a
not_placed k (accepted l) e = absurd (never e)
not_placed k (refused x) {e = y} q = let same : y ≡ x = cc in ap refused_listed same

-- ---- an index
pub index_flat : (a : Answer Listing) (r : Indexed) → IndexedRight a r → flat_index r.listing r.index.counts r.index.firsts ≡ index_record a
index_flat a r h = by r.listing refl a h.head h.index
  where
    lists : (n x y : ℕ) {i : Index} → numbers_in r.index.counts r.index.firsts ≡ i
        → ◌≡◌ {A = IndexRecord} (record { number = n; first = x; second = y; counts = r.index.counts; firsts = r.index.firsts }) (record { number = n; first = x; second = y; counts = i.counts; firsts = i.firsts })
    lists n x y e = ap (λ (i : Index). record { number = n; first = x; second = y; counts = i.counts; firsts = i.firsts }) e

    by : (l : Result (Mask Status × ℕ) wire.Refusal) → r.listing ≡ l → (a : Answer Listing) → head_said r.listing ≡ head_of a → numbers_in r.index.counts r.index.firsts ≡ index_in a
        → flat_index r.listing r.index.counts r.index.firsts ≡ index_record a
    by (Ok head) e (accepted l) p q = rw e (lists 0 0 0 q)
    by (Ok head) e (refused x) p q = absurd (never (sym (rw e at p)))
    by (Err x) e (accepted l) p q = absurd (never (rw e at p))
    by (Err x) e (refused y) p q =
        let both : ◌≡◌ {A = Answer Head} (refused (row x)) (refused y) = rw e at p in
        let same : row x ≡ y = cc in
        rw (e, same) (lists _ _ _ q)
