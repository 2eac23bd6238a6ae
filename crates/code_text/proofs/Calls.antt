-- There and back, of calls that kept their contracts: a code that was written is read again, a text that was read is written again; a listing that was exported comes back with its codes and
-- statuses, a text that was imported comes back as it was.
-- Assumes nothing.
use mathlib.Core.Path.{◌≡◌, sym, ap, ap₂, ◌∙◌}
use Prim.Native.Nat.{ℕ}
use mathlib.Core.Bool.{Bool, true, false}
use mathlib.Core.List.{List, map}
use contract.Lifetimes.{Lfts}
use denote.Triple.Clauses.{AtExit}
use borrow.Fn.Kinds.{Dens, ended_of}
use lib.ListN.{length, take, drop}
use lib.Seq.{take-append_seam}
use lib.Dec.{leb}
use Rattle.paper.specs.Choice.{pick}
use Rattle.paper.specs.Answer.{Answer, accepted, refused, no_room, over, Written}
use Rattle.paper.specs.Bytes.{Bytes}
use Rattle.paper.specs.TroubleCode.{trouble_code_bytes}
use Rattle.paper.specs.Listing.{by_status_mask, Listing, listing, read_listing, listing_bytes}
use Rattle.paper.specs.CodeText.{code_text, read_code_text, export_listing, import_listing, without_severity}
use Rattle.paper.proofs.Choice.{never}
use Rattle.paper.proofs.CodeText as paper
use Rattle.paper.proofs.ListingText.{exported_imported, imported_exported}
use Rattle.wire.specs.Writing.{Wrote}
use Rattle.wire.specs.declared.refusal.Refusal.{Refusal}
use Rattle.dtc.specs.Status.{code_of}
use Rattle.listing.specs.Listing.{sub_of}
use Rattle.code_text.specs.CodeText.{code_said}
use Rattle.std.specs.Prelude.{Result, Ok}
use Rattle.dtc.specs.declared.status.DtcRecord.{DtcRecord}
use Rattle.code_text.proofs.Unique.{code_back, code-back}
use Rattle.code_text.proofs.code.put_code_text.Kinds as put-code-text-kinds
use Rattle.code_text.proofs.code.put_code_text.Reads as put-code-text
use Rattle.code_text.proofs.code.read_code_text.Kinds as read-code-text-kinds
use Rattle.code_text.proofs.code.read_code_text.Reads as read-code-text
use Rattle.code_text.proofs.lines.export_listing.Kinds as export-listing-kinds
use Rattle.code_text.proofs.lines.export_listing.Reads as export-listing
use Rattle.code_text.proofs.lines.import_listing.Kinds as import-listing-kinds
use Rattle.code_text.proofs.lines.import_listing.Reads as import-listing

-- ---- what was written, where a writer accepted: the message, and it stands over the front of the buffer
front : (message : Answer (List ℕ)) {old new : List ℕ} {n : ℕ} → Wrote message old (Ok n) new → message ≡ accepted (take n new)
unfolding over
front (refused e) w = absurd (never (sym w.answer))
front (accepted t) {old} {new} {n} w = by (leb (length t) (length old)) w.answer w.contents
  where
    outcome : Bool → Written
    outcome b = pick b (record { answer = accepted (length t); contents = over t old }) (record { answer = refused (no_room (length t) (length old)); contents = old })

    by : (b : Bool) → accepted n ≡ (outcome b).answer → new ≡ (outcome b).contents → accepted t ≡ accepted (take n new)
    by true p q = let long : n ≡ length t = cc in rw (q, long) (ap accepted (sym (take-append_seam t (drop (length t) old))))
    by false p q = absurd (never (sym p))

is_front : {t old new : List ℕ} {n : ℕ} → Wrote (accepted t) old (Ok n) new → t ≡ take n new
is_front {t} w = let one = front (accepted t) w in cc

-- ---- a code
module _ (κs : Lfts 1) (a : Dens κs put-code-text-kinds.ps) (x : AtExit (ended_of 1 put-code-text-kinds.ps put-code-text-kinds.r) κs) {n : ℕ} (wrote : put-code-text.Post κs a (Ok n) x)
    (κs₂ : Lfts 1) (b : Dens κs₂ read-code-text-kinds.ps) (y : AtExit (ended_of 1 read-code-text-kinds.ps read-code-text-kinds.r) κs₂) (r : Result DtcRecord Refusal) (read : read-code-text.Post κs₂ b r y) where
  -- written, and then read
  pub code_comes_back : Bytes (trouble_code_bytes (code_of a.0)) → b.0.now ≡ take n x.1.0.now → r ≡ Ok a.0
  code_comes_back bytes same =
      let text : code_text (code_of a.0) ≡ b.0.now = is_front wrote ∙ sym same in
      sym (code-back r) ∙ ap code_back (read ∙ ap read_code_text (sym text) ∙ paper.code-back (code_of a.0) bytes)

  -- read, and then written
  pub text_comes_back : r ≡ Ok a.0 → take n x.1.0.now ≡ b.0.now
  text_comes_back is = sym (is_front wrote) ∙ (paper.text_back b.0.now (sym read ∙ ap code_said is)).0

-- ---- a listing
module _ (κs : Lfts 2) (a : Dens κs export-listing-kinds.ps) (x : AtExit (ended_of 2 export-listing-kinds.ps export-listing-kinds.r) κs) {n : ℕ} (exported : export-listing.Post κs a (Ok n) x)
    (κs₂ : Lfts 2) (b : Dens κs₂ import-listing-kinds.ps) (y : AtExit (ended_of 2 import-listing-kinds.ps import-listing-kinds.r) κs₂) {k : ℕ} (imported : import-listing.Post κs₂ b (Ok k) y) where
  -- exported, and then imported
  pub listing_comes_back : {l : Listing} → Bytes a.1.0.now → read_listing (sub_of a.0) a.1.0.now ≡ accepted l → b.1.0.now ≡ take n x.1.1.0.now
      → read_listing by_status_mask (take k y.1.1.0.now) ≡ accepted (listing by_status_mask b.0.bits (map without_severity l.records))
  listing_comes_back {l} bytes read same =
      let (again, reads) = exported_imported (sub_of a.0) a.1.0.now b.0.bits bytes read (front (export_listing (sub_of a.0) a.1.0.now) exported) in
      let one = sym (front (import_listing b.0.bits b.1.0.now) imported) ∙ ap (import_listing b.0.bits) same ∙ again in
      let is : take k y.1.1.0.now ≡ listing_bytes (listing by_status_mask b.0.bits (map without_severity l.records)) = cc in
      rw is reads

  -- imported, and then exported
  pub lines_come_back : sub_of a.0 ≡ by_status_mask → a.1.0.now ≡ take k y.1.1.0.now → take n x.1.1.0.now ≡ b.1.0.now
  lines_come_back sub same =
      let again = imported_exported b.0.bits b.1.0.now (front (import_listing b.0.bits b.1.0.now) imported) in
      let one = sym (front (export_listing (sub_of a.0) a.1.0.now) exported) ∙ ap₂ export_listing sub same ∙ again in
      cc
