-- File transfer requests: what is accepted is laid out as document 01 says and the other way round, demand 3, and the writer as the reader's inverse.
-- Assumes nothing.
use mathlib.Core.Path.{◌≡◌, refl, ap₂, sym, subst, ◌∙◌}
use Prim.Native.Nat.{ℕ, ◌+◌, ◌-◌, ◌^◌, ◌≤◌, ◌<◌}
use mathlib.Core.List.{List, [], ◌∷◌, ◌++◌, append_assoc}
use mathlib.Core.Logic.{◌↔◌}
use native.Mathlib.Omega.{arith}
use borrow.Author.Tests.{le-leb, leb-true, lt-leb}
use lib.Dec.{lit<, leb}
use lib.ListN.{length, take, drop, replicate, length-append, length-replicate}
use lib.Seq.{take_at}
use Rattle.paper.specs.Answer.{accepted, refused, wrong_format, ◌leaving◌}
use Rattle.paper.specs.Bytes.{Bytes, to_bytes}
use Rattle.paper.specs.Sizes.{Holds, fit, first_fit, width}
use Rattle.paper.specs.Utf8.{is_utf8}
use Rattle.paper.specs.Kind.{Kind, add_file, delete_file, replace_file, read_file, read_dir, resume_file, mode_of}
use Rattle.paper.specs.Field.{first_size, second_size, with_count, sizes_at}
use Rattle.paper.specs.Rewriting.{Layout, Message, Demand3}
use Rattle.paper.specs.Request.{Request, request, AfterName, format_and_sizes, nothing, format_only, after_name, read_after_name, read_request}
use Rattle.paper.specs.Request.{request_sizes, write_after_name, request_at, request_bytes, good_name, write_request, rewrite_request, IsName}
use Rattle.paper.specs.Request.{WritableRequest, kept_after_name, as_read, RequestWay}
use Rattle.paper.proofs.Choice.{check_passed, then_passed}
use Rattle.paper.proofs.Utf8.{is-utf8, utf8-bytes, utf8_letters}
use Rattle.paper.proofs.Bytes.{length_to_bytes}
use Rattle.paper.proofs.Sizes.{fit-more, any_width, width-within}
use Rattle.paper.proofs.Codec as codec
use Rattle.paper.proofs.Codec.{Wire, Reads, layout, Then, reads_then, reads_as, Given, reads-give, Kept, always, reads_map, Best}
use Rattle.paper.proofs.Fields.{Byte, reads_byte, Name, reads-name, Sizes, reads-sizes, two_of, Coded, small_mode, reads_known}
use Rattle.paper.proofs.Width.{Shaped, shaped_same, shaped_after, shaped_sizes, length_sizes_at, best_width}

-- ---- names that are to be written
-- the checks of a name hand on what is one, as it is, and nothing else
pub good-name : (n x : List ℕ) → (good_name n ≡ accepted x) ↔ ((x ≡ n) × IsName n)
unfolding good_name
good-name n x = (
  λ e. let (short, rest) = check_passed (leb (length n) 65535) _ _ e in
      let (utf8, same) = check_passed (is_utf8 n) _ (accepted n) rest in
      (cc, record { utf8 = (is-utf8 n).0 utf8; short = leb-true _ _ short }),
  λ h. rw (le-leb (length n) 65535 h.1.short, (is-utf8 n).1 h.1.utf8, h.0),
)

-- ---- what stands after the name
record Rest (k : Kind) (n : List ℕ) (h : AfterName) (m : Request) (u : List ℕ) : Type 0 where
  kind : m.kind ≡ k
  name : m.name ≡ n
  plain : kept_after_name h m ≡ m
  format : m.format < 256
  width : ℕ
  holds : Holds (request_sizes m) width
  is : u ≡ write_after_name width h m

-- two sizes of 0
zeros : Holds (0 ∷ 0 ∷ []) 1
zeros = record { positive = omega arith; within = omega arith; fit = (omega arith, (omega arith, tt)) }

module _ (k : Kind) (n : List ℕ) where
  -- as the reader's steps have it
  Steps : AfterName → Wire Request
  Steps format_and_sizes = Then ℕ Request Byte (λ (f : ℕ). Kept (List ℕ) Request always (λ (xs : List ℕ). request k n f (first_size xs) (second_size xs)) (Sizes 1 2))
  Steps nothing = Given Request (request k n 0 0 0)
  Steps format_only = Kept ℕ Request always (λ (f : ℕ). request k n f 0 0) Byte

  steps : (h : AfterName) → Reads Request (read_after_name k n h) (Steps h)
  unfolding Steps
  steps format_and_sizes = reads_then reads_byte (λ f. reads_map (λ (xs : List ℕ). request k n f (first_size xs) (second_size xs)) (reads-sizes 1 2))
  steps nothing = reads-give (request k n 0 0 0)
  steps format_only = reads_map (λ (f : ℕ). request k n f 0 0) reads_byte

  there : (h : AfterName) (m : Request) (u : List ℕ) → Steps h m u → Rest k n h m u
  unfolding Steps
  there format_and_sizes m u v =
      let xs : List ℕ = v.two.from in
      let two : xs ≡ first_size xs ∷ second_size xs ∷ [] = two_of xs v.two.way.many in
      subst (λ (r : Request). Rest k n format_and_sizes r u) (sym v.two.is)
      (record {
        kind = refl;
        name = refl;
        plain = refl;
        format = v.one.small;
        width = v.two.way.width;
        holds = subst (λ (l : List ℕ). Holds l v.two.way.width) two v.two.way.holds;
        is = rw (v.joined, v.one.is, v.two.way.is, ← two);
      })
  there nothing m u v =
      subst (λ (r : Request). Rest k n nothing r u) (sym v.is)
      (record { kind = refl; name = refl; plain = refl; format = omega arith; width = 1; holds = zeros; is = v.none })
  there format_only m u v =
      subst (λ (r : Request). Rest k n format_only r u) (sym v.is)
      (record { kind = refl; name = refl; plain = refl; format = v.way.small; width = 1; holds = zeros; is = v.way.is })

  back : (h : AfterName) (m : Request) (u : List ℕ) → Rest k n h m u → Steps h m u
  unfolding Steps
  back format_and_sizes m u v = record {
    first = m.format;
    front = m.format ∷ [];
    back = sizes_at 1 v.width (request_sizes m);
    one = record { small = v.format; is = refl };
    two = record {
      from = request_sizes m;
      passed = refl;
      is = ap₂ (λ (i : Kind) (j : List ℕ). request i j m.format m.uncompressed m.compressed) v.kind v.name;
      way = record { width = v.width; holds = v.holds; small = omega (arith, v.holds.within); many = refl; is = refl };
    };
    joined = v.is;
  }
  back nothing m u v = record { is = sym v.plain ∙ ap₂ (λ (i : Kind) (j : List ℕ). request i j 0 0 0) v.kind v.name; none = v.is }
  back format_only m u v = record {
    from = m.format;
    passed = refl;
    is = sym v.plain ∙ ap₂ (λ (i : Kind) (j : List ℕ). request i j m.format 0 0) v.kind v.name;
    way = record { small = v.format; is = v.is };
  }

reads-rest : (k : Kind) (n : List ℕ) (h : AfterName) → Reads Request (read_after_name k n h) (Rest k n h)
reads-rest k n h = reads_as (λ m u. (there k n h m u, back k n h m u)) (steps k n h)

-- ---- the whole request
abbrev Whole : Wire Request
Whole =
    Then ℕ Request Byte
    (λ (mode : ℕ). Then (List ℕ) Request Name
    (λ (n : List ℕ). Then Kind Request (Coded Kind mode_of mode)
    (λ (k : Kind). Rest k n (after_name k))))

whole_there : (m : Request) (u : List ℕ) → Whole m u → RequestWay m u
unfolding as_read request_at
whole_there m u v =
    let named = v.two.one in
    let coded = v.two.two.one in
    let rest = v.two.two.two in
    let name-is : m.name ≡ named.from = rest.name ∙ named.is in
    record {
      writable = record {
        named = rw name-is (record { utf8 = (is-utf8 named.from).0 named.passed; short = omega (arith, named.way.small) });
        format = rest.format;
        sizes = fit-more rest.holds.within (request_sizes m) rest.holds.fit;
      };
      plain = subst (λ (k : Kind). kept_after_name (after_name k) m ≡ m) (sym rest.kind) rest.plain;
      width = rest.width;
      holds = rest.holds;
      is = rw (v.joined, v.one.is, v.two.joined, named.way.is, v.two.two.joined, coded.none, rest.is, ← coded.is, name-is, rest.kind);
    }

whole_back : (m : Request) (u : List ℕ) → RequestWay m u → Whole m u
unfolding as_read request_at
whole_back m u v =
    let back = write_after_name v.width (after_name m.kind) m in
    record {
      first = mode_of m.kind;
      front = mode_of m.kind ∷ [];
      back = with_count 2 m.name ++ back;
      one = record { small = small_mode m.kind; is = refl };
      two = record {
        first = m.name;
        front = with_count 2 m.name;
        back = back;
        one = record {
          from = m.name;
          passed = (is-utf8 m.name).1 v.writable.named.utf8;
          is = refl;
          way = record { small = omega (arith, v.writable.named.short); plain = utf8-bytes v.writable.named.utf8; is = refl };
        };
        two = record {
          first = m.kind;
          front = [];
          back = back;
          one = record { is = refl; none = refl };
          two = record { kind = refl; name = refl; plain = v.plain; format = v.writable.format; width = v.width; holds = v.holds; is = refl };
          joined = refl;
        };
        joined = refl;
      };
      joined = v.is;
    }

pub reads-request : Reads Request read_request RequestWay
unfolding read_request
reads-request =
    reads_as (λ m u. (whole_there m u, whole_back m u))
    (reads_then reads_byte (λ mode. reads_then reads-name (λ n. reads_then (reads_known mode) (λ k. reads-rest k n (after_name k)))))

-- a request is accepted with value m and tail t exactly if it is one of m's ways of being written followed by t
pub request_layout : Layout read_request RequestWay
request_layout = layout reads-request

-- the name of a request that is accepted is one, and stands at 3
pub request-name : (s : List ℕ) {t : List ℕ} {m : Request} → Bytes s → read_request s ≡ accepted (m leaving t) → IsName m.name × (take (length m.name) (drop 3 s) ≡ m.name)
unfolding request_at with_count to_bytes
request-name s {t} {m} bytes read =
    let (u, way, joined) = (request_layout s m t bytes).0 read in
    let rest = write_after_name way.width (after_name m.kind) m in
    (way.writable.named, rw (joined, way.is, append_assoc m.name rest t) (take_at m.name (rest ++ t) (length m.name) refl))

-- ---- demand 3
shaped_rest : (h : AfterName) (m : Request) → Shaped (λ (w : ℕ). write_after_name w h m)
shaped_rest format_and_sizes m = shaped_after (m.format ∷ []) (shaped_sizes 1 m.uncompressed (m.compressed ∷ []))
shaped_rest nothing m = shaped_same []
shaped_rest format_only m = shaped_same (m.format ∷ [])

best_request : Best Request RequestWay request_bytes
unfolding request_bytes request_at
best_request =
    best_width request_sizes request_at
    (λ m. shaped_after (mode_of m.kind ∷ with_count 2 m.name) (shaped_rest (after_name m.kind) m))
    (λ m u v. (v.width, v.holds, v.is))
    (λ m u v w h. record { writable = v.writable; plain = v.plain; width = w; holds = h; is = refl })

-- what the kind lacks is ignored in writing, and stays 0 when it is read back; no kind lacks the name
ignored : (k : Kind) (n : List ℕ) (f x y : ℕ)
    → (let m = request k n f x y in (as_read (as_read m) ≡ as_read m) × (request_bytes (as_read m) ≡ request_bytes m) × ((as_read m).name ≡ m.name))
unfolding as_read request_bytes request_at
ignored add_file n f x y = (refl, refl, refl)
ignored delete_file n f x y = (refl, refl, refl)
ignored replace_file n f x y = (refl, refl, refl)
ignored read_file n f x y = (refl, refl, refl)
ignored read_dir n f x y = (refl, refl, refl)
ignored resume_file n f x y = (refl, refl, refl)

-- what can be written is not refused
accepts : (m : Request) → WritableRequest (as_read m) → write_request m ≡ accepted (request_bytes m)
unfolding write_request
accepts m w =
    let (twice, same, named) = ignored m.kind m.name m.format m.uncompressed m.compressed in
    rw ((good-name m.name m.name).1 (refl, rw named at w.named))

-- a name over 65,535 bytes is
pub name-too-long : (m : Request) → 65535 < length m.name → write_request m ≡ refused (wrong_format 0)
unfolding good_name write_request
name-too-long m many = rw (lt-leb _ _ many)

-- demand 3 holds of requests
pub request_demand_3 : Demand3 Request read_request rewrite_request
unfolding rewrite_request
request_demand_3 = codec.demand_3 reads-request best_request write_request (λ m u v. accepts m (subst WritableRequest (sym v.plain) v.writable))

-- ---- the writer is the reader's inverse
written-way : (m : Request) → WritableRequest (as_read m) → RequestWay (as_read m) (request_bytes m)
unfolding request_bytes
written-way m w =
    let (twice, same, named) = ignored m.kind m.name m.format m.uncompressed m.compressed in
    let sizes = request_sizes (as_read m) in
    rw (← same) (record { writable = w; plain = twice; width = width sizes; holds = (any_width sizes w.sizes).holds; is = refl })

-- every request whose own values can be written, whatever stands for those that its kind lacks, is written as a message that reads back to it
pub write_read : (m : Request) → WritableRequest (as_read m) → (write_request m ≡ accepted (request_bytes m)) × Message Request read_request (request_bytes m) (as_read m)
write_read m w = (accepts m w, codec.message reads-request (request_bytes m) (as_read m) (written-way m w))

-- ---- the longest request
length_rest : (h : AfterName) (m : Request) (w : ℕ) → w ≤ 16 → length (write_after_name w h m) ≤ 34
length_rest format_and_sizes m w l = simp length_sizes_at (omega arith)
length_rest nothing m w l = omega arith
length_rest format_only m w l = omega arith

length_request : (m : Request) (w : ℕ) → w ≤ 16 → length m.name ≤ 65535 → length (request_at w m) ≤ 65572
unfolding request_at with_count
length_request m w l short = let most = length_rest (after_name m.kind) m w l in simp (length-append, length_to_bytes) (omega arith)

-- no way of writing a request has more than 65,572 bytes
pub request-longest : (m : Request) (u : List ℕ) → RequestWay m u → length u ≤ 65572
request-longest m u v = rw v.is (length_request m v.width v.holds.within v.writable.named.short)

-- and whatever stands for what a kind lacks, no more are written
pub written-longest : (m : Request) (u : List ℕ) → write_request m ≡ accepted u → length u ≤ 65572
unfolding write_request request_bytes
written-longest m u e =
    let (x, good, bytes) = then_passed (good_name m.name) (accepted (request_bytes m)) e in
    let named = (good-name m.name x).0 good in
    let is : u ≡ request_bytes m = cc in
    rw is (length_request m (width (request_sizes m)) (width-within (request_sizes m)) named.1.short)

-- and one that is written has as many: a name of 65,535 letters and the largest size
large : ℕ → Request
large n = request add_file (replicate n 0x61) 0 (2 ^ 128 - 1) 0

length_large : (n : ℕ) → length (request_bytes (large n)) ≡ 37 + n
unfolding large request_bytes request_at with_count width first_fit fit
length_large n = simp (length-append, length_to_bytes, length_sizes_at, length-replicate) (omega arith)

large_writable : (n : ℕ) → n ≤ 65535 → WritableRequest (as_read (large n))
unfolding large as_read
large_writable n h = record {
  named = record { utf8 = utf8_letters n 0x61 (omega arith, omega arith); short = rw length-replicate h };
  format = omega arith;
  sizes = (lit< tt, (lit< tt, tt));
}

pub request_longest_reached : (m : Request) × WritableRequest (as_read m) × (length (request_bytes m) ≡ 65572)
request_longest_reached = (large 65535, large_writable 65535 (omega arith), length_large 65535)
