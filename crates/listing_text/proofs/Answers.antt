-- What a writer's answer says in room enough, and what the programs then write: the text or the listing at the start of the room, or the line of the refusal.
-- Assumes nothing.
use mathlib.Core.Path.{◌≡◌, refl, sym, ap}
use Prim.Native.Nat.{ℕ, ◌≤◌, ◌<◌}
use mathlib.Core.Bool.{Bool, true, false}
use mathlib.Core.List.{List}
use native.Mathlib.Nat.{le_refl}
use native.Mathlib.Omega.{arith}
use borrow.Author.Tests.{le-leb, lt-leb}
use lib.ListN.{length}
use lib.Dec.{leb}
use Rattle.std.specs.Prelude.{Ok, Err}
use Rattle.paper.specs.Choice.{pick}
use Rattle.paper.specs.Answer.{Answer, accepted, refused, no_room, over, Written}
use Rattle.paper.specs.ReadingProgram.{too_long, text_of, bad}
use Rattle.paper.specs.CodeText.{export_listing, import_listing}
use Rattle.paper.specs.ListingProgram as paper
use Rattle.paper.specs.ListingProgram.{sub_function_said, lines_or, export_text, to_error, listing_or, import_prints}
use Rattle.paper.proofs.Choice.{never}
use Rattle.wire.specs.Refusals.{row}
use Rattle.wire.specs.Writing.{Wrote}
use Rattle.wire.specs.declared.refusal.Refusal.{Refusal}
use Rattle.ascii_text.specs.Text.{Laid, Put}
use Rattle.ascii_text.proofs.Laid.{put-laid, put_as, put-over}
use Rattle.listing_text.specs.Import.{PutPrinted, Prints}
use Rattle.listing_text.specs.declared.import.Printed.{Printed}

-- ---- the answer
-- what a writer does by whether there is room
abbrev outcome : Bool → (t old : List ℕ) → Written
outcome b t old = pick b (record { answer = accepted (length t); contents = over t old }) (record { answer = refused (no_room (length t) (length old)); contents = old })

-- it accepted: the message stands at the start
accepted-put : (message : Answer (List ℕ)) {old new : List ℕ} {n : ℕ} → Wrote message old (Ok n) new → (t : List ℕ) × (message ≡ accepted t) × Put t n (length t) old new
accepted-put (refused e) w = absurd (never (sym w.answer))
accepted-put (accepted t) {old} {new} {n} w = (t, refl, by (leb (length t) (length old)) w.answer w.contents)
  where
    by : (b : Bool) → accepted n ≡ (outcome b t old).answer → new ≡ (outcome b t old).contents → Put t n (length t) old new
    by true p q = let all : n ≡ length t = cc in (all, rw all (le_refl _), record { given_room = λ h. q })
    by false p q = absurd (never (sym p))

-- it refused: the message is that refusal, and nothing changed
refused-kept : (message : Answer (List ℕ)) {old mid : List ℕ} {e : Refusal} → ((t : List ℕ) → message ≡ accepted t → length t ≤ length old) → Wrote message old (Err e) mid
    → (message ≡ refused (row e)) × (mid ≡ old)
refused-kept (refused x) {e = e} room w = let said = w.answer in let same : x ≡ row e = cc in (ap refused same, w.contents)
refused-kept (accepted t) {old} room w = absurd (never (rw (le-leb (length t) (length old) (room t refl)) at w.answer))

-- ---- what is written then, where the message has at most so many bytes and the room is as long
module _ (message : Answer (List ℕ)) {old : List ℕ} where
  pub lines-put : {new : List ℕ} {n : ℕ} → ((t : List ℕ) → message ≡ accepted t → length t ≤ 49152) → Wrote message old (Ok n) new → Put (lines_or message) n 49152 old new
  lines-put few w = let (t, is, put) = accepted-put message w in rw is (put_as put refl (few t is))

  pub line_put : {mid new : List ℕ} {e : Refusal} {n : ℕ} → ((t : List ℕ) → message ≡ accepted t → length t ≤ 49152) → 49152 ≤ length old → Wrote message old (Err e) mid
      → Laid (text_of (bad (row e))) n mid new → n ≤ 71 → Put (lines_or message) n 49152 old new
  line_put few room w laid h =
      let (is, same) = refused-kept message (λ t e. let l = few t e in omega arith) w in
      rw is (put_as (put-laid (rw same at laid) h) refl (omega arith))

  pub listing-put : {new : List ℕ} {n : ℕ} → ((t : List ℕ) → message ≡ accepted t → length t ≤ 16387) → Wrote message old (Ok n) new
      → PutPrinted (listing_or message) (Printed.ToOutput n) old new
  listing-put few w = let (t, is, put) = accepted-put message w in rw is (record { stream = refl; put = put_as put refl (few t is) })

  pub refusal-put : {mid new : List ℕ} {e : Refusal} {n : ℕ} → ((t : List ℕ) → message ≡ accepted t → length t ≤ 16387) → 16387 ≤ length old → Wrote message old (Err e) mid
      → Laid (text_of (bad (row e))) n mid new → n ≤ 71 → PutPrinted (listing_or message) (Printed.ToError n) old new
  refusal-put few room w laid h =
      let (is, same) = refused-kept message (λ t e. let l = few t e in omega arith) w in
      rw is (record { stream = refl; put = put_as (put-laid (rw same at laid) h) refl (omega arith) })

-- all of it, where there is room
pub prints : {p : paper.Printed} {r : Printed} {old new : List ℕ} → PutPrinted p r old new → 16387 ≤ length old → Prints p r old new
prints w room = let o = put-over w.put room in record { stream = w.stream; count = o.0; contents = o.1.0; counts = o.1.1 }

-- ---- an input that is too long, and one that is not
pub export-long : (s : List ℕ) → 65536 < length s → text_of too_long ≡ export_text s
unfolding export_text
export-long s h = rw (lt-leb _ _ h)

pub export-judged : (s : List ℕ) → length s ≤ 65536 → lines_or (export_listing (sub_function_said s) s) ≡ export_text s
unfolding export_text
export-judged s h = rw (le-leb _ _ h)

pub import-long : (m : ℕ) (t : List ℕ) → 65536 < length t → to_error (text_of too_long) ≡ import_prints m t
unfolding import_prints
import-long m t h = rw (lt-leb _ _ h)

pub import-judged : (m : ℕ) (t : List ℕ) → length t ≤ 65536 → listing_or (import_listing m t) ≡ import_prints m t
unfolding import_prints
import-judged m t h = rw (le-leb _ _ h)
