-- Each field's reader accepts just the bytes that its field is laid out as.
-- Assumes nothing.
use mathlib.Core.Path.{◌≡◌, refl, ap, sym, subst, ◌∙◌}
use Prim.Native.Nat.{ℕ, zero, suc, ◌+◌, ◌*◌, ◌^◌, ◌≤◌, ◌<◌}
use mathlib.Core.List.{List, [], ◌∷◌, ◌++◌, append_assoc}
use mathlib.Core.Bool.{Bool, true, false}
use native.Mathlib.Omega.{arith}
use borrow.Author.Tests.{leb-true, eqb-true, le-leb}
use lib.Dec.{leb, eqb}
use lib.ListN.{length, get_or, take, drop, length-append, length-drop, take-append-drop}
use lib.Seq.{take_at, take-append-le, drop_at, length-take-le}
use Rattle.paper.specs.Choice.{pick}
use Rattle.paper.specs.Answer.{Refusal, too_short, bad_width, unknown_mode, Answer, accepted, refused, ◌leaving◌, give, refuse, hand_out}
use Rattle.paper.specs.Bytes.{Bytes, of_bytes, to_bytes}
use Rattle.paper.specs.Utf8.{is_utf8}
use Rattle.paper.specs.Sizes.{Fit, Holds}
use Rattle.paper.specs.Kind.{one_of, Kind, add_file, delete_file, replace_file, read_file, read_dir, resume_file, mode_of, kinds, known}
use Rattle.paper.specs.Field.{part, byte, number, Headed, headed, counted, name, numbers, good_width, size_group, with_count, laid, sizes_at}
use Rattle.paper.proofs.Bytes.{bytes_left, bytes-right, bytes_append, below_length, length_to_bytes, of_length, of_to, bytes-to_bytes}
use Rattle.paper.proofs.Choice.{both_true, never}
use Rattle.paper.proofs.Codec.{Wire, Reads, onward-is, reads_as, reads_map, reads_kept, Kept, always}

-- ---- one byte
pub record Byte (b : ℕ) (u : List ℕ) : Type 0 where
  pub small : b < 256
  pub is : u ≡ b ∷ []

pub reads_byte : Reads ℕ byte Byte
unfolding byte
reads_byte = record { sound = sound; complete = λ b u t v. rw v.is; plain = λ b u v. rw v.is (v.small, tt) }
  where
    sound : (s : List ℕ) (b : ℕ) (t : List ℕ) → Bytes s → byte s ≡ accepted (b leaving t) → (u : List ℕ) × Byte b u × (s ≡ u ++ t)
    sound [] b t h e = absurd (never e)
    sound (c ∷ s) b t h e = (b ∷ [], record { small = rw same at h.0; is = refl }, cc)
      where
        same : c ≡ b
        same = cc

-- ---- so many bytes
pub part-is : (n : ℕ) (s x t : List ℕ) → part n s ≡ accepted (x leaving t) → (length x ≡ n) × (s ≡ x ++ t)
unfolding part
part-is n s x t = go (leb n (length s)) refl
  where
    go : (b : Bool) → leb n (length s) ≡ b → pick b (accepted (take n s leaving drop n s)) (refused (too_short n (length s))) ≡ accepted (x leaving t) → (length x ≡ n) × (s ≡ x ++ t)
    go true q e =
        let ex : take n s ≡ x = cc in
        let et : drop n s ≡ t = cc in
        (rw (← ex) (length-take-le n s (leb-true n (length s) q)), rw (← ex, ← et) (sym (take-append-drop n s)))
    go false q e = absurd (never e)

pub part_of : (n : ℕ) (x t : List ℕ) → length x ≡ n → part n (x ++ t) ≡ accepted (x leaving t)
unfolding part
part_of n x t h =
    let long : n ≤ length (x ++ t) = simp length-append (omega arith) in
    rw (le-leb n (length (x ++ t)) long, take_at x t n h, drop_at x t n h)

pub record Part (n : ℕ) (x u : List ℕ) : Type 0 where
  pub long : length x ≡ n
  pub plain : Bytes x
  pub is : u ≡ x

pub reads-part : (n : ℕ) → Reads (List ℕ) (part n) (Part n)
reads-part n = record {
  sound = λ s x t b e. let (l, j) = part-is n s x t e in (x, record { long = l; plain = bytes_left x t (subst Bytes j b); is = refl }, j);
  complete = λ x u t v. rw v.is (part_of n x t v.long);
  plain = λ x u v. rw v.is v.plain;
}

-- ---- a number in k bytes
pub record Number (k n : ℕ) (u : List ℕ) : Type 0 where
  pub small : n < 256 ^ k
  pub is : u ≡ to_bytes k n

pub reads-number : (k : ℕ) → Reads ℕ (number k) (Number k)
unfolding number
reads-number k = reads_as (λ n u. (there n u, back n u)) (reads_map of_bytes (reads-part k))
  where
    Mid : Wire ℕ
    Mid = Kept (List ℕ) ℕ always of_bytes (Part k)

    there : (n : ℕ) (u : List ℕ) → Mid n u → Number k n u
    there n u v =
        let x : List ℕ = v.from in
        record {
          small = rw v.is (below_length k x v.way.plain v.way.long);
          is = rw (v.is, v.way.is) (sym (of_length k x v.way.plain v.way.long));
        }

    back : (n : ℕ) (u : List ℕ) → Number k n u → Mid n u
    back n u v =
        record {
          from = to_bytes k n;
          passed = refl;
          is = sym (of_to k n v.small);
          way = record { long = length_to_bytes k n; plain = bytes-to_bytes k n v.small; is = v.is };
        }

-- ---- a head, and as many bytes as it says
pub record Head (k : ℕ) (follow : ℕ → ℕ) (h : Headed) (u : List ℕ) : Type 0 where
  pub small : h.head < 256 ^ k
  pub full : length h.body ≡ follow h.head
  pub plain : Bytes h.body
  pub is : u ≡ to_bytes k h.head ++ h.body

module _ (k : ℕ) (follow : ℕ → ℕ) where
  pub reads-headed : Reads Headed (headed k follow) (Head k follow)
  unfolding headed
  reads-headed = record { sound = sound; complete = complete; plain = plain }
    where
      -- the head was read alone, and then with the rest
      both_read : (s x t₁ y t : List ℕ) → Bytes s → length x ≡ k → s ≡ x ++ t₁ → length y ≡ k + follow (of_bytes x) → s ≡ y ++ t
          → Head k follow (record { head = of_bytes x; body = drop k y }) y
      both_read s x t₁ y t b lx ex ly ey =
          let bx : Bytes x = bytes_left x t₁ (subst Bytes ex b) in
          let by : Bytes y = bytes_left y t (subst Bytes ey b) in
          let long : k ≤ length y = omega arith in
          let front : take k y ≡ x = sym (take-append-le k y t long) ∙ ap (take k) (sym ey ∙ ex) ∙ take_at x t₁ k lx in
          record {
            small = below_length k x bx lx;
            full = rw length-drop (omega arith);
            plain = bytes-right (take k y) (drop k y) (rw take-append-drop by);
            is = sym (ap (λ (l : List ℕ). l ++ drop k y) (of_length k x bx lx ∙ sym front) ∙ take-append-drop k y);
          }

      sound : (s : List ℕ) (h : Headed) (t : List ℕ) → Bytes s → headed k follow s ≡ accepted (h leaving t) → (u : List ℕ) × Head k follow h u × (s ≡ u ++ t)
      sound s h t b f =
          let (x, t₁, p, g) = onward-is (part k s) _ h t f in
          let (y, r, q, e) = onward-is (part (k + follow (of_bytes x)) s) _ h t g in
          let (lx, ex) = part-is k s x t₁ p in
          let (ly, ey) = part-is (k + follow (of_bytes x)) s y r q in
          let hd : record { head = of_bytes x; body = drop k y } ≡ h = cc in
          let rt : r ≡ t = cc in
          (y, subst (λ (i : Headed). Head k follow i y) hd (both_read s x t₁ y r b lx ex ly ey), subst (λ (l : List ℕ). s ≡ y ++ l) rt ey)

      complete : (h : Headed) (u t : List ℕ) → Head k follow h u → headed k follow (u ++ t) ≡ accepted (h leaving t)
      complete h u t v =
          let lh : length (to_bytes k h.head) ≡ k = length_to_bytes k h.head in
          let lu : length (to_bytes k h.head ++ h.body) ≡ k + follow h.head = rw length-append (omega (arith, v.full)) in
          rw v.is
          (rw (ap (part k) (append_assoc (to_bytes k h.head) h.body t), part_of k (to_bytes k h.head) (h.body ++ t) lh)
          (rw (of_to k h.head v.small, part_of (k + follow h.head) (to_bytes k h.head ++ h.body) t lu)
          (rw (drop_at (to_bytes k h.head) h.body k lh))))

      plain : (h : Headed) (u : List ℕ) → Head k follow h u → Bytes u
      plain h u v = rw v.is (bytes_append (to_bytes k h.head) h.body (bytes-to_bytes k h.head v.small) v.plain)

-- ---- a count, and so many bytes
pub record Count (k : ℕ) (x u : List ℕ) : Type 0 where
  pub small : length x < 256 ^ k
  pub plain : Bytes x
  pub is : u ≡ with_count k x

pub reads-counted : (k : ℕ) → Reads (List ℕ) (counted k) (Count k)
unfolding counted with_count
reads-counted k = reads_as (λ x u. (there x u, back x u)) (reads_map (λ (h : Headed). h.body) (reads-headed k (λ (n : ℕ). n)))
  where
    Mid : Wire (List ℕ)
    Mid = Kept Headed (List ℕ) always (λ (h : Headed). h.body) (Head k (λ (n : ℕ). n))

    there : (x u : List ℕ) → Mid x u → Count k x u
    there x u v =
        let len : length x ≡ v.from.head = ap length v.is ∙ v.way.full in
        record { small = rw len v.way.small; plain = rw v.is v.way.plain; is = rw (len, v.is) v.way.is }

    back : (x u : List ℕ) → Count k x u → Mid x u
    back x u v =
        record {
          from = record { head = length x; body = x };
          passed = refl;
          is = refl;
          way = record { small = v.small; full = refl; plain = v.plain; is = v.is };
        }

-- ---- the name
abbrev pub Name : Wire (List ℕ)
Name = Kept (List ℕ) (List ℕ) is_utf8 (λ (n : List ℕ). n) (Count 2)

pub reads-name : Reads (List ℕ) name Name
unfolding name
reads-name = reads_kept is_utf8 _ (λ (n : List ℕ). n) (reads-counted 2)

-- ---- sizes of one width
empty : (s : List ℕ) → length s ≡ 0 → [] ≡ s
empty [] h = refl
empty (x ∷ s) h = absurd (omega arith)

pub length_laid : (w : ℕ) (xs : List ℕ) → length (laid w xs) ≡ length xs * w
unfolding laid
length_laid w [] = omega arith
length_laid w (x ∷ xs) = rw (length-append, length_to_bytes, length_laid w xs) (omega arith)

length_numbers : (c w : ℕ) (s : List ℕ) → length (numbers c w s) ≡ c
unfolding numbers
length_numbers zero w s = refl
length_numbers (suc c) w s = ap suc (length_numbers c w (drop w s))

module _ (w : ℕ) where
  numbers-laid : (xs : List ℕ) → Fit w xs → numbers (length xs) w (laid w xs) ≡ xs
  unfolding numbers laid
  numbers-laid [] h = refl
  numbers-laid (x ∷ xs) h =
      let lx : length (to_bytes w x) ≡ w = length_to_bytes w x in
      rw (take_at (to_bytes w x) (laid w xs) w lx, drop_at (to_bytes w x) (laid w xs) w lx, of_to w x h.0, numbers-laid xs h.1)

  bytes-laid : (xs : List ℕ) → Fit w xs → Bytes (laid w xs)
  unfolding laid
  bytes-laid [] h = tt
  bytes-laid (x ∷ xs) h = bytes_append (to_bytes w x) (laid w xs) (bytes-to_bytes w x h.0) (bytes-laid xs h.1)

  -- c numbers of w bytes hold what they were read from
  read_back : (c : ℕ) (s : List ℕ) → Bytes s → length s ≡ c * w → (laid w (numbers c w s) ≡ s) × Fit w (numbers c w s)
  unfolding numbers laid
  read_back zero s b l = (empty s (omega arith), tt)
  read_back (suc c) s b l =
      let long : w ≤ length s = omega arith in
      let bt : Bytes (take w s) = bytes_left (take w s) (drop w s) (rw take-append-drop b) in
      let bd : Bytes (drop w s) = bytes-right (take w s) (drop w s) (rw take-append-drop b) in
      let lt : length (take w s) ≡ w = length-take-le w s long in
      let (again, fits) = read_back c (drop w s) bd (rw length-drop (omega arith)) in
      (rw (again, of_length w (take w s) bt lt) (take-append-drop w s), (below_length w (take w s) bt lt, fits))

-- a width in k bytes, and c sizes of that width
pub record Sizes (k c : ℕ) (xs : List ℕ) (u : List ℕ) : Type 0 where
  pub width : ℕ
  pub holds : Holds xs width
  pub small : width < 256 ^ k
  pub many : length xs ≡ c
  pub is : u ≡ sizes_at k width xs

pub reads-sizes : (k c : ℕ) → Reads (List ℕ) (size_group k c) (Sizes k c)
unfolding size_group sizes_at
reads-sizes k c =
    reads_as (λ x u. (there x u, back x u))
    (reads_kept (λ (h : Headed). good_width h.head) (λ (h : Headed). bad_width h.head) (λ (h : Headed). numbers c h.head h.body)
    (reads-headed k (λ (w : ℕ). c * w)))
  where
    Mid : Wire (List ℕ)
    Mid = Kept Headed (List ℕ) (λ (h : Headed). good_width h.head) (λ (h : Headed). numbers c h.head h.body) (Head k (λ (w : ℕ). c * w))

    there : (xs u : List ℕ) → Mid xs u → Sizes k c xs u
    there xs u v =
        let w : ℕ = v.from.head in
        let (again, fits) = read_back w c v.from.body v.way.plain v.way.full in
        let (some, few) = both_true (leb 1 w) (leb w 16) v.passed in
        record {
          width = w;
          holds = record {
            positive = leb-true 1 w some;
            within = leb-true w 16 few;
            fit = rw v.is fits;
          };
          small = v.way.small;
          many = ap length v.is ∙ length_numbers c w v.from.body;
          is = v.way.is ∙ ap (λ (l : List ℕ). to_bytes k w ++ l) (sym again ∙ ap (laid w) (sym v.is));
        }

    back : (xs u : List ℕ) → Sizes k c xs u → Mid xs u
    back xs u v =
        record {
          from = record { head = v.width; body = laid v.width xs };
          passed = rw (le-leb 1 v.width v.holds.positive, le-leb v.width 16 v.holds.within);
          is = sym (subst (λ (n : ℕ). numbers n v.width (laid v.width xs) ≡ xs) v.many (numbers-laid v.width xs v.holds.fit));
          way = record {
            small = v.small;
            full = length_laid v.width xs ∙ ap (λ (n : ℕ). n * v.width) v.many;
            plain = bytes-laid v.width xs v.holds.fit;
            is = v.is;
          };
        }

-- a list of one or two sizes, by its elements
pub one-of : (xs : List ℕ) → length xs ≡ 1 → xs ≡ get_or xs 0 0 ∷ []
one-of [] h = absurd (omega arith)
one-of (x ∷ xs) h = ap (λ (l : List ℕ). x ∷ l) (sym (empty xs (omega arith)))

pub two_of : (xs : List ℕ) → length xs ≡ 2 → xs ≡ get_or xs 0 0 ∷ get_or xs 1 0 ∷ []
two_of [] h = absurd (omega arith)
two_of (x ∷ xs) h = ap (λ (l : List ℕ). x ∷ l) (one-of xs (omega arith))

-- ---- codes that are held once
-- the value whose byte is b, and no byte of its own
pub record Coded (A : Type 0) (byte_of : A → ℕ) (b : ℕ) (a : A) (u : List ℕ) : Type 0 where
  pub is : byte_of a ≡ b
  pub none : u ≡ []

module _ {A : Type 0} (byte_of : A → ℕ) (unknown : ℕ → Refusal) where
  -- who is found has the byte
  found : (all : List A) (b : ℕ) (a : A) → one_of byte_of all unknown b ≡ accepted a → byte_of a ≡ b
  unfolding one_of
  found [] b a e = absurd (never e)
  found (x ∷ others) b a e = go (eqb (byte_of x) b) refl e (found others b a)
    where
      go : (ok : Bool) → eqb (byte_of x) b ≡ ok → pick ok (accepted x) (one_of byte_of others unknown b) ≡ accepted a
          → (one_of byte_of others unknown b ≡ accepted a → byte_of a ≡ b) → byte_of a ≡ b
      go true q f ih = let same : x ≡ a = cc in rw same at (eqb-true (byte_of x) b q)
      go false q f ih = ih f

  -- where each value is found by its byte, the reader accepts just the codes
  pub reads-one-of : (all : List A) → ((a : A) → one_of byte_of all unknown (byte_of a) ≡ accepted a) → (b : ℕ) → Reads A (hand_out (one_of byte_of all unknown b)) (Coded A byte_of b)
  unfolding give refuse
  reads-one-of all finds b = record { sound = λ s a t h. sound (one_of byte_of all unknown b) refl s a t; complete = λ a u t v. rw (v.none, ← v.is, finds a); plain = λ a u v. rw v.none tt }
    where
      sound : (o : Answer A) → one_of byte_of all unknown b ≡ o → (s : List ℕ) (a : A) (t : List ℕ) → hand_out o s ≡ accepted (a leaving t) → (u : List ℕ) × Coded A byte_of b a u × (s ≡ u ++ t)
      sound (accepted x) q s a t e = let same : x ≡ a = cc in ([], record { is = found all b a (q ∙ ap accepted same); none = refl }, cc)
      sound (refused r) q s a t e = absurd (never e)

each-kind : (k : Kind) → one_of mode_of kinds unknown_mode (mode_of k) ≡ accepted k
unfolding one_of
each-kind add_file = refl
each-kind delete_file = refl
each-kind replace_file = refl
each-kind read_file = refl
each-kind read_dir = refl
each-kind resume_file = refl

pub small_mode : (k : Kind) → mode_of k < 256
small_mode = elim [ add_file ↦ omega arith | delete_file ↦ omega arith | replace_file ↦ omega arith | read_file ↦ omega arith | read_dir ↦ omega arith | resume_file ↦ omega arith ]

pub reads_known : (mode : ℕ) → Reads Kind (hand_out (known mode)) (Coded Kind mode_of mode)
unfolding known
reads_known mode = reads-one-of mode_of unknown_mode kinds each-kind mode
