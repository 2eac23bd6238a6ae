-- The pieces of a joined buffer, one after the other: what the loops of the two passes cite.
-- Assumes nothing.
use mathlib.Core.Path.{◌≡◌, refl, sym, ap, ◌∙◌}
use mathlib.Core.List.{List, [], ◌∷◌}
use Prim.Native.Nat.{ℕ, suc, ◌+◌, ◌-◌, ◌≤◌, ◌<◌}
use native.Mathlib.Numerals.{add-one}
use native.Mathlib.Omega.{arith}
use lib.ListN.{length, get_or, take, drop, length-drop, drop_of_length-le}
use lib.Seq.{drop-cons, drop-drop}
use Rattle.std.specs.Prelude.{Ok, Err}
use Rattle.paper.specs.Answer.{Refusal, too_many, Answer, accepted, refused, Read, ◌leaving◌}
use Rattle.paper.specs.Bytes.{Bytes}
use Rattle.paper.specs.Request.{Request, read_request}
use Rattle.paper.specs.Joined.{Pieces, one_piece, pieces, pieces_of}
use Rattle.paper.proofs.Places.{bytes-part}
use Rattle.paper.proofs.Joined.{request_takes_its_own, no_bytes, no_place, piece_there, piece-lengths}
use Rattle.wire.specs.Refusals.{row}
use Rattle.wire.specs.declared.refusal.Refusal as code-refusal
use Rattle.wire.specs.declared.refusal.Refusal.TheVariants.{TooMany}
use Rattle.utf8.proofs.Valid.{rest_of}
use Rattle.request_file_transfer.specs.Reading.{RequestRight}
use Rattle.request_file_transfer.specs.declared.read.RequestFileTransferRequest.{RequestFileTransferRequest}
use Rattle.joined_requests.specs.Split.{HasLength, Counted}

-- ---- one piece
-- what is accepted has a request's length
pub piece_read : (s : List ℕ) (n : ℕ) (m : Request) → Bytes s → read_request s ≡ accepted (m leaving drop n s) → n ≤ length s → HasLength s n
piece_read [] n m b e h = absurd (request_takes_its_own.some e)
piece_read (x ∷ s) n m b e h =
    let long : length (x ∷ s) - length (drop n (x ∷ s)) ≡ n = omega (arith, length-drop n (x ∷ s)) in
    record {
      meaning = m;
      reads = e;
      within = h;
      one = (rw (piece_there 0 (x ∷ s) (λ n. let z = ap length n in omega arith), e, long) at (piece-lengths 1 (x ∷ s) b)).0;
    }

-- the reader's answer to the part of the buffer that begins at a place
module _ (s : List ℕ) (at : ℕ) where
  pub piece_found : (q : RequestFileTransferRequest) (tail : ℕ) → Bytes s → RequestRight (take (length s - at) (drop at s)) (Ok (q, tail)) → HasLength (drop at s) tail
  piece_found q tail b h = rw (rest_of s at) at (piece_read (take (length s - at) (drop at s)) tail _ (bytes-part s at (length s - at) b) (sym h.paper) h.place.within)

  pub piece_refused : (e : code-refusal.Refusal) → RequestRight (take (length s - at) (drop at s)) (Err e) → read_request (drop at s) ≡ refused (row e)
  piece_refused e h = rw (rest_of s at) at (sym h.paper)

-- ---- the pieces so far
-- i pieces end at a place of the buffer; those of the rest are the others, and the rest ends as the whole does
pub record Walk (s : List ℕ) (at i : ℕ) : Type 0 where
  pub within : at ≤ length s
  pub few : i ≤ 4096
  pub past : i ≤ length (pieces_of s).lengths
  pub others : (pieces (4096 - i) (drop at s)).lengths ≡ drop i (pieces_of s).lengths
  pub ended : (pieces (4096 - i) (drop at s)).ended ≡ (pieces_of s).ended

pub walk_begins : (s : List ℕ) → Walk s 0 0
walk_begins s = record { within = omega arith; few = omega arith; past = omega arith; others = refl; ended = refl }

-- all were found
all_found : {i : ℕ} (ls : List ℕ) → i ≤ length ls → [] ≡ drop i ls → length ls ≡ i
all_found {i} ls h e = omega (arith, length-drop i ls, ap length e)

module _ {s : List ℕ} {at i : ℕ} (w : Walk s at i) where
  -- the buffer ends here
  pub walk_ends : length s ≤ at → (accepted tt ≡ (pieces_of s).ended) × (length (pieces_of s).lengths ≡ i)
  walk_ends h =
      let none : pieces (4096 - i) (drop at s) ≡ record { lengths = []; ended = accepted tt } = rw (drop_of_length-le s h) (no_bytes (4096 - i)) in
      (sym (ap Pieces.ended none) ∙ w.ended, all_found _ w.past (sym (ap Pieces.lengths none) ∙ w.others))

  module _ (h : at < length s) where
    some : drop at s ≡ [] → ⊥
    some e = omega (arith, length-drop at s, ap length e)

    -- bytes follow 4,096 pieces
    pub walk_most : i ≡ 4096 → (refused too_many ≡ (pieces_of s).ended) × (length (pieces_of s).lengths ≡ i)
    walk_most e =
        let none : 4096 - i ≡ 0 = omega arith in
        let is : pieces (4096 - i) (drop at s) ≡ record { lengths = []; ended = refused too_many } = rw none (no_place (drop at s) some) in
        (sym (ap Pieces.ended is) ∙ w.ended, all_found _ w.past (sym (ap Pieces.lengths is) ∙ w.others))

    module _ (l : i < 4096) where
      here : pieces (4096 - i) (drop at s) ≡ one_piece (drop at s) (read_request (drop at s)) (pieces (4096 - (i + 1)))
      here = let more : 4096 - i ≡ suc (4096 - (i + 1)) = omega arith in rw more (piece_there (4096 - (i + 1)) (drop at s) some)

      -- the piece here is refused
      pub walk_stops : {e : Refusal} → read_request (drop at s) ≡ refused e → (refused e ≡ (pieces_of s).ended) × (length (pieces_of s).lengths ≡ i)
      walk_stops e =
          let is = here ∙ ap (λ (a : Answer (Read Request)). one_piece (drop at s) a (pieces (4096 - (i + 1)))) e in
          (sym (ap Pieces.ended is) ∙ w.ended, all_found _ w.past (sym (ap Pieces.lengths is) ∙ w.others))

      -- the piece here has this length
      module _ {n : ℕ} (r : HasLength (drop at s) n) where
        on : pieces (4096 - i) (drop at s) ≡ record { lengths = n ∷ (pieces (4096 - (i + 1)) (drop (at + n) s)).lengths; ended = (pieces (4096 - (i + 1)) (drop (at + n) s)).ended }
        on =
            let long : length (drop at s) - length (drop (at + n) s) ≡ n = omega (arith, r.within, length-drop at s, length-drop (at + n) s) in
            rw (here, r.reads, drop-drop n at s, long)

        next : n ∷ (pieces (4096 - (i + 1)) (drop (at + n) s)).lengths ≡ drop i (pieces_of s).lengths
        next = sym (ap Pieces.lengths on) ∙ w.others

        pub walk_there : i < length (pieces_of s).lengths
        walk_there = omega (arith, ap length next, length-drop i (pieces_of s).lengths)

        cons : n ∷ (pieces (4096 - (i + 1)) (drop (at + n) s)).lengths ≡ get_or (pieces_of s).lengths i 0 ∷ drop (i + 1) (pieces_of s).lengths
        cons = next ∙ rw (add-one i) (drop-cons (pieces_of s).lengths i 0 walk_there)

        pub walk_length : get_or (pieces_of s).lengths i 0 ≡ n
        walk_length = let e = cons in cc

        pub walk_on : Walk s (at + n) (i + 1)
        walk_on = record {
          within = omega (arith, r.within, length-drop at s);
          few = omega arith;
          past = omega (arith, walk_there);
          others = let e = cons in cc;
          ended = sym (ap Pieces.ended on) ∙ w.ended;
        }

-- ---- the first pass
module _ {s : List ℕ} {at i : ℕ} (w : Walk s at i) where
  pub counted-all : length s ≤ at → Counted s (Ok i)
  counted-all h = let (ended, many) = walk_ends w h in record { answer = rw (← ended, many); found = sym many }

  pub counted-most : at < length s → i ≡ 4096 → Counted s (Err (record { refusal = TooMany; found = i }))
  counted-most h e = let (ended, many) = walk_most w h e in record { answer = rw (← ended); found = sym many }

  pub counted-refused : (e : code-refusal.Refusal) → at < length s → i < 4096 → read_request (drop at s) ≡ refused (row e) → Counted s (Err (record { refusal = e; found = i }))
  counted-refused e h l r = let (ended, many) = walk_stops w h l r in record { answer = rw (← ended); found = sym many }
