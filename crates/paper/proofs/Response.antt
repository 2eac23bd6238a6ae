-- File transfer responses: what is accepted is laid out as document 01 says and the other way round, demand 3, and the writer as the reader's inverse.
-- Assumes nothing.
use mathlib.Core.Path.{◌≡◌, refl, ap, sym, subst, ◌∙◌}
use Prim.Native.Nat.{ℕ, ◌+◌, ◌-◌, ◌^◌, ◌≤◌, ◌<◌}
use mathlib.Core.List.{List, [], ◌∷◌}
use mathlib.Core.Logic.{◌↔◌}
use native.Mathlib.Omega.{arith}
use borrow.Author.Tests.{le-leb, leb-true}
use lib.Dec.{lit<, leb}
use lib.ListN.{length, replicate, length-append, length-replicate}
use Rattle.paper.specs.Answer.{accepted, wrong_format, ◌leaving◌}
use Rattle.paper.specs.Bytes.{Bytes, to_bytes}
use Rattle.paper.specs.Sizes.{Fit, Holds, fit, first_fit, width}
use Rattle.paper.specs.Kind.{Kind, add_file, delete_file, replace_file, read_file, read_dir, resume_file, mode_of}
use Rattle.paper.specs.Field.{first_size, second_size, with_count}
use Rattle.paper.specs.Rewriting.{Layout, Message, Demand3}
use Rattle.paper.specs.Response.{Response, response, AfterFormat, nothing, two_sizes, one_size, one_position, AfterMode, ended, block_and_format}
use Rattle.paper.specs.Response.{after_mode, read_after_format, read_after_mode, read_response, sizes_of, response_sizes, write_after_format}
use Rattle.paper.specs.Response.{write_after_mode, response_at, response_bytes, kept_after_format, kept_after_mode, as_read, good_block_length}
use Rattle.paper.specs.Response.{write_response, rewrite_response, WritableResponse, ResponseWay}
use Rattle.paper.proofs.Choice.{check_passed, then_passed}
use Rattle.paper.proofs.Bytes.{bytes_replicate, length_to_bytes}
use Rattle.paper.proofs.Sizes.{fit-more, any_width, width-within}
use Rattle.paper.proofs.Codec as codec
use Rattle.paper.proofs.Codec.{Wire, Reads, layout, Then, reads_then, reads_as, Given, reads-give, Kept, always, reads_map, Best}
use Rattle.paper.proofs.Fields.{Byte, reads_byte, Number, reads-number, Count, reads-counted, Sizes, reads-sizes, one-of, two_of, Coded, small_mode, reads_known}
use Rattle.paper.proofs.Width.{Shaped, shaped_same, shaped_after, shaped_sizes, length_sizes_at, best_width}

-- ---- block lengths that are to be written
-- the check of a block length hands on what one byte can count, as it is, and nothing else
pub good-block-length : (b x : List ℕ) → (good_block_length b ≡ accepted x) ↔ ((x ≡ b) × (length b ≤ 255))
unfolding good_block_length
good-block-length b x = (
  λ e. let (short, same) = check_passed (leb (length b) 255) (wrong_format 0) (accepted b) e in (cc, leb-true _ _ short),
  λ h. rw (le-leb (length b) 255 h.1, h.0),
)

-- ---- what stands after the format byte
-- the values that stand there, within their ranges
record Values (m : Response) : Type 0 where
  sizes : Fit 16 (m.uncompressed ∷ m.compressed ∷ [])
  position : m.position < 256 ^ 8

record Last (k : Kind) (b : List ℕ) (f : ℕ) (h : AfterFormat) (m : Response) (u : List ℕ) : Type 0 where
  kind : m.kind ≡ k
  block : m.block ≡ b
  format : m.format ≡ f
  plain : kept_after_format h m ≡ m
  values : Values m
  width : ℕ
  holds : Holds (sizes_of h m) width
  is : u ≡ write_after_format width h m

-- no size at all
unsized : Holds [] 1
unsized = record { positive = omega arith; within = omega arith; fit = tt }

zero_fits : 0 < 256 ^ 16
zero_fits = lit< tt

module _ (k : Kind) (b : List ℕ) (f : ℕ) where
  -- as the reader's steps have it
  Steps : AfterFormat → Wire Response
  Steps nothing = Given Response (response k b f 0 0 0)
  Steps two_sizes = Kept (List ℕ) Response always (λ (xs : List ℕ). response k b f (first_size xs) (second_size xs) 0) (Sizes 2 2)
  Steps one_size = Kept (List ℕ) Response always (λ (xs : List ℕ). response k b f (first_size xs) 0 0) (Sizes 2 1)
  Steps one_position = Kept ℕ Response always (λ (p : ℕ). response k b f 0 0 p) (Number 8)

  steps : (h : AfterFormat) → Reads Response (read_after_format k b f h) (Steps h)
  unfolding Steps
  steps nothing = reads-give (response k b f 0 0 0)
  steps two_sizes = reads_map (λ (xs : List ℕ). response k b f (first_size xs) (second_size xs) 0) (reads-sizes 2 2)
  steps one_size = reads_map (λ (xs : List ℕ). response k b f (first_size xs) 0 0) (reads-sizes 2 1)
  steps one_position = reads_map (λ (p : ℕ). response k b f 0 0 p) (reads-number 8)

  -- the kind, the block and the format of a response are those that were read
  here : (h : AfterFormat) (x y p : ℕ) (u : List ℕ) → (let m = response k b f x y p in kept_after_format h m ≡ m → Values m
      → (w : ℕ) → Holds (sizes_of h m) w → u ≡ write_after_format w h m → Last k b f h m u)
  here h x y p u plain values w holds is = record { kind = refl; block = refl; format = refl; plain = plain; values = values; width = w; holds = holds; is = is }

  there : (h : AfterFormat) (m : Response) (u : List ℕ) → Steps h m u → Last k b f h m u
  unfolding Steps
  there nothing m u v =
      subst (λ (r : Response). Last k b f nothing r u) (sym v.is)
      (here nothing 0 0 0 u refl (record { sizes = (zero_fits, (zero_fits, tt)); position = omega arith }) 1 unsized v.none)
  there two_sizes m u v =
      let xs : List ℕ = v.from in
      let two : xs ≡ first_size xs ∷ second_size xs ∷ [] = two_of xs v.way.many in
      let holds = subst (λ (l : List ℕ). Holds l v.way.width) two v.way.holds in
      subst (λ (r : Response). Last k b f two_sizes r u) (sym v.is)
      (here two_sizes (first_size xs) (second_size xs) 0 u refl
      (record { sizes = fit-more holds.within (first_size xs ∷ second_size xs ∷ []) holds.fit; position = omega arith })
      v.way.width holds (rw (v.way.is, ← two)))
  there one_size m u v =
      let xs : List ℕ = v.from in
      let one : xs ≡ first_size xs ∷ [] = one-of xs v.way.many in
      let holds = subst (λ (l : List ℕ). Holds l v.way.width) one v.way.holds in
      subst (λ (r : Response). Last k b f one_size r u) (sym v.is)
      (here one_size (first_size xs) 0 0 u refl
      (record { sizes = ((fit-more holds.within (first_size xs ∷ []) holds.fit).0, (zero_fits, tt)); position = omega arith })
      v.way.width holds (rw (v.way.is, ← one)))
  there one_position m u v =
      subst (λ (r : Response). Last k b f one_position r u) (sym v.is)
      (here one_position 0 0 v.from u refl (record { sizes = (zero_fits, (zero_fits, tt)); position = v.way.small }) 1 unsized v.way.is)

  head-is : {h : AfterFormat} {m : Response} {u : List ℕ} → Last k b f h m u → (x y p : ℕ) → response m.kind m.block m.format x y p ≡ response k b f x y p
  head-is v x y p = rw (v.kind, v.block, v.format)

  back : (h : AfterFormat) (m : Response) (u : List ℕ) → Last k b f h m u → Steps h m u
  unfolding Steps
  back nothing m u v = record { is = sym v.plain ∙ head-is v 0 0 0; none = v.is }
  back two_sizes m u v = record {
    from = sizes_of two_sizes m;
    passed = refl;
    is = sym v.plain ∙ head-is v m.uncompressed m.compressed 0;
    way = record { width = v.width; holds = v.holds; small = omega (arith, v.holds.within); many = refl; is = v.is };
  }
  back one_size m u v = record {
    from = sizes_of one_size m;
    passed = refl;
    is = sym v.plain ∙ head-is v m.uncompressed 0 0;
    way = record { width = v.width; holds = v.holds; small = omega (arith, v.holds.within); many = refl; is = v.is };
  }
  back one_position m u v = record {
    from = m.position;
    passed = refl;
    is = sym v.plain ∙ head-is v 0 0 m.position;
    way = record { small = v.values.position; is = v.is };
  }

reads_last : (k : Kind) (b : List ℕ) (f : ℕ) (h : AfterFormat) → Reads Response (read_after_format k b f h) (Last k b f h)
reads_last k b f h = reads_as (λ m u. (there k b f h m u, back k b f h m u)) (steps k b f h)

-- ---- what stands after the mode
record Rest (k : Kind) (h : AfterMode) (m : Response) (u : List ℕ) : Type 0 where
  kind : m.kind ≡ k
  writable : WritableResponse m
  plain : kept_after_mode h m ≡ m
  width : ℕ
  holds : Holds (response_sizes h m) width
  is : u ≡ write_after_mode width h m

RestSteps : Kind → AfterMode → Wire Response
RestSteps k ended = Given Response (response k [] 0 0 0 0)
RestSteps k (block_and_format h) = Then (List ℕ) Response (Count 1) (λ (b : List ℕ). Then ℕ Response Byte (λ (f : ℕ). Last k b f h))

rest_steps : (k : Kind) (h : AfterMode) → Reads Response (read_after_mode k h) (RestSteps k h)
unfolding RestSteps
rest_steps k ended = reads-give (response k [] 0 0 0 0)
rest_steps k (block_and_format h) = reads_then (reads-counted 1) (λ b. reads_then reads_byte (λ f. reads_last k b f h))

rest_there : (k : Kind) (h : AfterMode) (m : Response) (u : List ℕ) → RestSteps k h m u → Rest k h m u
unfolding RestSteps
rest_there k ended m u v =
    subst (λ (r : Response). Rest k ended r u) (sym v.is)
    (record {
      kind = refl;
      writable = record { bytes = tt; short = omega arith; format = omega arith; sizes = (zero_fits, (zero_fits, tt)); position = omega arith };
      plain = refl;
      width = 1;
      holds = unsized;
      is = v.none;
    })
rest_there k (block_and_format h) m u v =
    let counted = v.one in
    let last = v.two.two in
    record {
      kind = last.kind;
      writable = record {
        bytes = rw last.block counted.plain;
        short = rw last.block (omega (arith, counted.small));
        format = rw last.format v.two.one.small;
        sizes = last.values.sizes;
        position = last.values.position;
      };
      plain = last.plain;
      width = last.width;
      holds = last.holds;
      is = rw (v.joined, counted.is, v.two.joined, v.two.one.is, last.is, last.block, last.format);
    }

rest_back : (k : Kind) (h : AfterMode) (m : Response) (u : List ℕ) → Rest k h m u → RestSteps k h m u
unfolding RestSteps
rest_back k ended m u v = record { is = sym v.plain ∙ ap (λ (i : Kind). response i [] 0 0 0 0) v.kind; none = v.is }
rest_back k (block_and_format h) m u v =
    let w = v.writable in
    record {
      first = m.block;
      front = with_count 1 m.block;
      back = m.format ∷ write_after_format v.width h m;
      one = record { small = omega (arith, w.short); plain = w.bytes; is = refl };
      two = record {
        first = m.format;
        front = m.format ∷ [];
        back = write_after_format v.width h m;
        one = record { small = w.format; is = refl };
        two = record {
          kind = v.kind;
          block = refl;
          format = refl;
          plain = v.plain;
          values = record { sizes = w.sizes; position = w.position };
          width = v.width;
          holds = v.holds;
          is = refl;
        };
        joined = refl;
      };
      joined = v.is;
    }

reads-rest : (k : Kind) (h : AfterMode) → Reads Response (read_after_mode k h) (Rest k h)
reads-rest k h = reads_as (λ m u. (rest_there k h m u, rest_back k h m u)) (rest_steps k h)

-- ---- the whole response
abbrev Whole : Wire Response
Whole = Then ℕ Response Byte (λ (mode : ℕ). Then Kind Response (Coded Kind mode_of mode) (λ (k : Kind). Rest k (after_mode k)))

after-mode : (m : Response) (u r : List ℕ) → Rest m.kind (after_mode m.kind) m r → u ≡ mode_of m.kind ∷ r → ResponseWay m u
unfolding as_read response_at
after-mode m u r v e = record {
  writable = v.writable;
  plain = v.plain;
  width = v.width;
  holds = v.holds;
  is = e ∙ ap (λ (l : List ℕ). mode_of m.kind ∷ l) v.is;
}

whole_there : (m : Response) (u : List ℕ) → Whole m u → ResponseWay m u
whole_there m u v =
    let coded = v.two.one in
    let rest = v.two.two in
    after-mode m u v.two.back
    (subst (λ (k : Kind). Rest k (after_mode k) m v.two.back) (sym rest.kind) rest)
    (rw (v.joined, v.one.is, v.two.joined, coded.none, ← coded.is, rest.kind))

whole_back : (m : Response) (u : List ℕ) → ResponseWay m u → Whole m u
unfolding as_read response_at
whole_back m u v =
    let back = write_after_mode v.width (after_mode m.kind) m in
    record {
      first = mode_of m.kind;
      front = mode_of m.kind ∷ [];
      back = back;
      one = record { small = small_mode m.kind; is = refl };
      two = record {
        first = m.kind;
        front = [];
        back = back;
        one = record { is = refl; none = refl };
        two = record { kind = refl; writable = v.writable; plain = v.plain; width = v.width; holds = v.holds; is = refl };
        joined = refl;
      };
      joined = v.is;
    }

pub reads-response : Reads Response read_response ResponseWay
unfolding read_response
reads-response =
    reads_as (λ m u. (whole_there m u, whole_back m u))
    (reads_then reads_byte (λ mode. reads_then (reads_known mode) (λ k. reads-rest k (after_mode k))))

-- a response is accepted with value m and tail t exactly if it is one of m's ways of being written followed by t
pub response_layout : Layout read_response ResponseWay
response_layout = layout reads-response

-- one byte can count the block length of a response that is accepted
pub response-block-length : (s : List ℕ) {t : List ℕ} {m : Response} → Bytes s → read_response s ≡ accepted (m leaving t) → length m.block ≤ 255
response-block-length s {t} {m} bytes read = ((response_layout s m t bytes).0 read).1.writable.short

-- ---- demand 3
shaped_last : (h : AfterFormat) (m : Response) → Shaped (λ (w : ℕ). write_after_format w h m)
shaped_last nothing m = shaped_same []
shaped_last two_sizes m = shaped_sizes 2 m.uncompressed (m.compressed ∷ [])
shaped_last one_size m = shaped_sizes 2 m.uncompressed []
shaped_last one_position m = shaped_same (to_bytes 8 m.position)

shaped_rest : (h : AfterMode) (m : Response) → Shaped (λ (w : ℕ). write_after_mode w h m)
shaped_rest ended m = shaped_same []
shaped_rest (block_and_format h) m = shaped_after (with_count 1 m.block) (shaped_after (m.format ∷ []) (shaped_last h m))

best_response : Best Response ResponseWay response_bytes
unfolding response_bytes response_at
best_response =
    best_width (λ (m : Response). response_sizes (after_mode m.kind) m) response_at
    (λ m. shaped_after (mode_of m.kind ∷ []) (shaped_rest (after_mode m.kind) m))
    (λ m u v. (v.width, v.holds, v.is))
    (λ m u v w h. record { writable = v.writable; plain = v.plain; width = w; holds = h; is = refl })

-- what the kind lacks is ignored in writing, and stays 0 or empty when it is read back
ignored : (k : Kind) (b : List ℕ) (f x y p : ℕ) → (let m = response k b f x y p in (as_read (as_read m) ≡ as_read m) × (response_bytes (as_read m) ≡ response_bytes m))
unfolding as_read response_bytes response_at
ignored add_file b f x y p = (refl, refl)
ignored delete_file b f x y p = (refl, refl)
ignored replace_file b f x y p = (refl, refl)
ignored read_file b f x y p = (refl, refl)
ignored read_dir b f x y p = (refl, refl)
ignored resume_file b f x y p = (refl, refl)

-- what can be written is not refused; an over-long block length of a kind that lacks it does not matter
accepts : (m : Response) → WritableResponse (as_read m) → write_response m ≡ accepted (response_bytes m)
unfolding write_response
accepts m w = rw ((good-block-length (as_read m).block (as_read m).block).1 (refl, w.short))

-- demand 3 holds of responses
pub response_demand_3 : Demand3 Response read_response rewrite_response
unfolding rewrite_response
response_demand_3 = codec.demand_3 reads-response best_response write_response (λ m u v. accepts m (subst WritableResponse (sym v.plain) v.writable))

-- ---- the writer is the reader's inverse
fit-sizes : (h : AfterMode) (m : Response) → WritableResponse m → Fit 16 (response_sizes h m)
fit-sizes ended m w = tt
fit-sizes (block_and_format nothing) m w = tt
fit-sizes (block_and_format two_sizes) m w = w.sizes
fit-sizes (block_and_format one_size) m w = (w.sizes.0, tt)
fit-sizes (block_and_format one_position) m w = tt

written-way : (m : Response) → WritableResponse (as_read m) → ResponseWay (as_read m) (response_bytes m)
unfolding response_bytes
written-way m w =
    let (twice, same) = ignored m.kind m.block m.format m.uncompressed m.compressed m.position in
    let sizes = response_sizes (after_mode (as_read m).kind) (as_read m) in
    rw (← same) (record { writable = w; plain = twice; width = width sizes; holds = (any_width sizes (fit-sizes (after_mode (as_read m).kind) (as_read m) w)).holds; is = refl })

-- every response whose own values can be written, whatever stands for those that its kind lacks, is written as a message that reads back to it
pub write_read : (m : Response) → WritableResponse (as_read m) → (write_response m ≡ accepted (response_bytes m)) × Message Response read_response (response_bytes m) (as_read m)
write_read m w = (accepts m w, codec.message reads-response (response_bytes m) (as_read m) (written-way m w))

-- ---- the longest response
length_last : (h : AfterFormat) (m : Response) (w : ℕ) → w ≤ 16 → length (write_after_format w h m) ≤ 34
length_last nothing m w l = omega arith
length_last two_sizes m w l = simp length_sizes_at (omega arith)
length_last one_size m w l = simp length_sizes_at (omega arith)
length_last one_position m w l = simp length_to_bytes (omega arith)

length_rest : (h : AfterMode) (m : Response) (w : ℕ) → w ≤ 16 → length m.block ≤ 255 → length (write_after_mode w h m) ≤ 291
unfolding with_count
length_rest ended m w l s = omega arith
length_rest (block_and_format h) m w l s = simp (length-append, length_to_bytes) (omega (arith, length_last h m w l))

-- no way of writing a response has more than 292 bytes
pub response-longest : (m : Response) (u : List ℕ) → ResponseWay m u → length u ≤ 292
unfolding response_at
response-longest m u v = rw v.is (omega (arith, length_rest (after_mode m.kind) m v.width v.holds.within v.writable.short))

-- and whatever stands for what a kind lacks, no more are written
pub written-longest : (m : Response) (u : List ℕ) → write_response m ≡ accepted u → length u ≤ 292
unfolding write_response response_bytes response_at
written-longest m u e =
    let (x, good, bytes) = then_passed (good_block_length (as_read m).block) (accepted (response_bytes m)) e in
    let (twice, same) = ignored m.kind m.block m.format m.uncompressed m.compressed m.position in
    let is : u ≡ response_bytes (as_read m) = cc in
    let k = after_mode (as_read m).kind in
    let most = length_rest k (as_read m) (width (response_sizes k (as_read m))) (width-within (response_sizes k (as_read m))) ((good-block-length (as_read m).block x).0 good).1 in
    rw is (omega arith)

-- and one that is written has as many: 255 block-length bytes and the largest size
large : ℕ → Response
large n = response read_file (replicate n 0) 0 (2 ^ 128 - 1) 0 0

length_large : (n : ℕ) → length (response_bytes (large n)) ≡ 37 + n
unfolding large response_bytes response_at with_count width first_fit fit
length_large n = simp (length-append, length_to_bytes, length_sizes_at, length-replicate) (omega arith)

large_writable : (n : ℕ) → n ≤ 255 → WritableResponse (as_read (large n))
unfolding large as_read
large_writable n h = record {
  bytes = bytes_replicate n 0 (omega arith);
  short = rw length-replicate h;
  format = omega arith;
  sizes = (lit< tt, (lit< tt, tt));
  position = omega arith;
}

pub response_longest_reached : (m : Response) × WritableResponse (as_read m) × (length (response_bytes m) ≡ 292)
response_longest_reached = (large 255, large_writable 255 (omega arith), length_large 255)
