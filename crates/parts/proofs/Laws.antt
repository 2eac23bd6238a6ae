-- What a writer of a part writes its reader reads back, whatever follows it; and the parts, one after the other, are the message that its own writer writes.
-- Assumes nothing.
use Prim.Native.Nat.{ℕ, ◌^◌, ◌≤◌, ◌<◌}
use mathlib.Core.Path.{◌≡◌, refl}
use mathlib.Core.List.{List, [], ◌∷◌, ◌++◌}
use native.Mathlib.Omega.{arith}
use lib.ListN.{length}
use Rattle.paper.specs.Answer.{accepted, ◌leaving◌}
use Rattle.paper.specs.Bytes.{Bytes, to_bytes}
use Rattle.paper.specs.Sizes.{Fit, width}
use Rattle.paper.specs.Field.{number, name, block_length, size_group, with_count}
use Rattle.paper.specs.Kind.{Kind, read_file, read_dir, resume_file, mode_of}
use Rattle.paper.specs.Request.{request, format_and_sizes, after_name, request_at, request_bytes, good_name, write_request, IsName}
use Rattle.paper.specs.Response as responses
use Rattle.paper.specs.Response.{response, response_at, response_bytes, good_block_length, write_response}
use Rattle.paper.proofs.Choice.{then_passed}
use Rattle.paper.proofs.Utf8.{is-utf8, utf8-bytes}
use Rattle.paper.proofs.Sizes.{any_width}
use Rattle.paper.proofs.Fields.{reads-number, reads-counted, reads-name, reads-sizes}
use Rattle.paper.proofs.Request.{good-name}
use Rattle.paper.proofs.Response.{good-block-length}
use Rattle.wire.specs.Writing.{sizes_out}
use Rattle.wire.proofs.Sizes.{in_sixteen}
use Rattle.station.specs.Handed.{halves}
use Rattle.parts.specs.Handed.{name_handed, block_length_handed}

-- ---- what passed the checks, and its bytes
name-written : (n u : List ℕ) → name_handed n ≡ accepted u → IsName n × (u ≡ with_count 2 n)
unfolding name_handed
name-written n u e =
    let (x, passed, is) = then_passed (good_name n) (accepted (with_count 2 n)) e in
    (((good-name n x).0 passed).1, cc)

block-length-written : (b u : List ℕ) → block_length_handed b ≡ accepted u → (length b ≤ 255) × (u ≡ with_count 1 b)
unfolding block_length_handed
block-length-written b u e =
    let (x, passed, is) = then_passed (good_block_length b) (accepted (with_count 1 b)) e in
    (((good-block-length b x).0 passed).1, cc)

-- ---- what was written is read back
pub name_back : (n u t : List ℕ) → name_handed n ≡ accepted u → name (u ++ t) ≡ accepted (n leaving t)
name_back n u t e =
    let (named, is) = name-written n u e in
    reads-name.complete n u t
    (record {
      from = n;
      passed = (is-utf8 n).1 named.utf8;
      is = refl;
      way = record { small = omega (arith, named.short); plain = utf8-bytes named.utf8; is = is };
    })

pub block_length_back : (b u t : List ℕ) → Bytes b → block_length_handed b ≡ accepted u → block_length (u ++ t) ≡ accepted (b leaving t)
block_length_back b u t bytes e =
    let (short, is) = block-length-written b u e in
    (reads-counted 1).complete b u t (record { small = omega (arith, short); plain = bytes; is = is })

-- sizes below 2 ^ 128, after their width in one byte or in two
module _ (k : ℕ) (holds : 16 < 256 ^ k) where
  sizes-back : (xs t : List ℕ) → Fit 16 xs → size_group k (length xs) (sizes_out k xs ++ t) ≡ accepted (xs leaving t)
  unfolding sizes_out
  sizes-back xs t fit =
      let smallest = any_width xs fit in
      (reads-sizes k (length xs)).complete xs (sizes_out k xs) t
      (record { width = width xs; holds = smallest.holds; small = omega (arith, smallest.holds.within); many = refl; is = refl })

  pub two_sizes_back : (xh xl yh yl : ℕ) (t : List ℕ) → xh < 2 ^ 64 → xl < 2 ^ 64 → yh < 2 ^ 64 → yl < 2 ^ 64
      → let xs = halves xh xl ∷ halves yh yl ∷ [] in size_group k 2 (sizes_out k xs ++ t) ≡ accepted (xs leaving t)
  two_sizes_back xh xl yh yl t hxh hxl hyh hyl = sizes-back (halves xh xl ∷ halves yh yl ∷ []) t (in_sixteen xh xl hxh hxl, (in_sixteen yh yl hyh hyl, tt))

  pub one_size_back : (h l : ℕ) (t : List ℕ) → h < 2 ^ 64 → l < 2 ^ 64 → let xs = halves h l ∷ [] in size_group k 1 (sizes_out k xs ++ t) ≡ accepted (xs leaving t)
  one_size_back h l t hh hl = sizes-back (halves h l ∷ []) t (in_sixteen h l hh hl, tt)

pub position_back : (p : ℕ) (t : List ℕ) → p < 256 ^ 8 → number 8 (to_bytes 8 p ++ t) ≡ accepted (p leaving t)
position_back p t h = (reads-number 8).complete p (to_bytes 8 p) t (record { small = h; is = refl })

-- ---- the parts of a message
-- a request that has sizes: its mode, the name, the format byte and the sizes
pub request_parts : (k : Kind) → after_name k ≡ format_and_sizes → (n u : List ℕ) (f x y : ℕ) → name_handed n ≡ accepted u
    → write_request (request k n f x y) ≡ accepted (mode_of k ∷ (u ++ (f ∷ sizes_out 1 (x ∷ y ∷ []))))
unfolding write_request request_bytes request_at sizes_out
request_parts k table n u f x y e = let (named, is) = name-written n u e in rw ((good-name n n).1 (refl, named), table, is)

-- a response that has sizes, a size or a position: its mode, the block length, the format byte and that part
module _ (b u : List ℕ) (f x y p : ℕ) (e : block_length_handed b ≡ accepted u) where
  pub read_file_parts : write_response (response read_file b f x y p) ≡ accepted (mode_of read_file ∷ (u ++ (f ∷ sizes_out 2 (x ∷ y ∷ []))))
  unfolding write_response response_bytes response_at responses.as_read sizes_out
  read_file_parts = let (short, is) = block-length-written b u e in rw ((good-block-length b b).1 (refl, short), is)

  pub read_dir_parts : write_response (response read_dir b f x y p) ≡ accepted (mode_of read_dir ∷ (u ++ (f ∷ sizes_out 2 (x ∷ []))))
  unfolding write_response response_bytes response_at responses.as_read sizes_out
  read_dir_parts = let (short, is) = block-length-written b u e in rw ((good-block-length b b).1 (refl, short), is)

  pub resume_file_parts : write_response (response resume_file b f x y p) ≡ accepted (mode_of resume_file ∷ (u ++ (f ∷ to_bytes 8 p)))
  unfolding write_response response_bytes response_at responses.as_read
  resume_file_parts = let (short, is) = block-length-written b u e in rw ((good-block-length b b).1 (refl, short), is)
