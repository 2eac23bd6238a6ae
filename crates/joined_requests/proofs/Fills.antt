-- The second pass: the lengths of the pieces so far stand at the front of the list.
-- Assumes nothing.
use mathlib.Core.Path.{◌≡◌, refl, ◌∙◌}
use mathlib.Core.List.{List, [], ◌∷◌, ◌++◌}
use mathlib.Core.Logic.{⊎_elim}
use Prim.Native.Nat.{ℕ, ◌+◌, ◌≤◌, ◌<◌}
use native.Mathlib.Numerals.{add-one}
use native.Mathlib.Omega.{arith}
use lib.ListN.{length, take, drop, set, length-set}
use lib.Seq.{take-suc, take_all, length-take-le}
use Rattle.std.specs.Prelude.{Result, Ok, Err, IsOk}
use Rattle.paper.specs.Answer.{Refusal, refused, over}
use Rattle.paper.specs.Request.{read_request}
use Rattle.paper.specs.Joined.{pieces_of}
use Rattle.paper.proofs.Choice.{never, cut}
use Rattle.wire.specs.Refusals.{row}
use Rattle.wire.specs.Writing.{Filled}
use Rattle.wire.specs.declared.refusal.Refusal.{Refusal as Why}
use Rattle.wire.proofs.Over.{filled_none, filled_set, filled_as}
use Rattle.joined_requests.specs.Split.{HasLength, PieceRight, Fits}
use Rattle.joined_requests.proofs.Pieces.{Walk, walk_begins, walk_ends, walk_most, walk_stops, walk_there, walk_length, walk_on}

-- i pieces end at a place of the buffer, and their lengths stand at the front of the list, which is as long as it was
pub record Filling (s old new : List ℕ) (at i : ℕ) : Type 0 where
  pub walk : Walk s at i
  pub long : length new ≡ length old
  pub front : Filled (take i (pieces_of s).lengths) old new

pub fill_begins : (s old : List ℕ) → Filling s old old 0 0
fill_begins s old = record { walk = walk_begins s; long = refl; front = filled_none }

-- what is no refusal is a length
pub is_length : (s : List ℕ) (r : Result ℕ Why) → PieceRight s r → ((e : Refusal) → read_request s ≡ refused e → ⊥) → IsOk r
is_length s (Ok n) right never_refused = refl
is_length s (Err e) right never_refused = absurd (never_refused (row e) right)

module _ {s old new : List ℕ} {at i : ℕ} (fits : Fits s old) (f : Filling s old new at i) where
  -- all lengths are there
  pub fill_ends : length (pieces_of s).lengths ≤ i → new ≡ over (pieces_of s).lengths old
  fill_ends h = (filled_as (take_all i (pieces_of s).lengths h) f.front).given_room fits.room

  module _ (there : i < length (pieces_of s).lengths) where
    -- a length that is not there yet is that of a piece in the rest
    h : at < length s
    h = ⊎_elim (λ l. l) (λ l. absurd (omega (arith, (walk_ends f.walk l).1))) (cut at (length s))

    -- there is a piece more, as the buffer is good
    few : i < 4096
    few = ⊎_elim (λ l. l) (λ l. absurd (never ((walk_most f.walk h (omega (arith, f.walk.few))).0 ∙ fits.good))) (cut i 4096)

    -- and it is not refused
    pub fill_never : (e : Refusal) → read_request (drop at s) ≡ refused e → ⊥
    fill_never r e = never ((walk_stops f.walk h few e).0 ∙ fits.good)

    module _ {n : ℕ} (r : HasLength (drop at s) n) where
      more : take i (pieces_of s).lengths ++ (n ∷ []) ≡ take (i + 1) (pieces_of s).lengths
      more = rw (add-one i, take-suc (pieces_of s).lengths i 0 (walk_there f.walk h few r), walk_length f.walk h few r)

      pub fill_on : Filling s old (set new i n) (at + n) (i + 1)
      fill_on = record {
        walk = walk_on f.walk h few r;
        long = rw length-set f.long;
        front = filled_as more (filled_set n f.front (length-take-le i (pieces_of s).lengths f.walk.past));
      }
