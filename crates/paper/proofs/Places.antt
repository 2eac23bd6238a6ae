-- What the fields of document 01 answer at a place of a message, by cases: what the code's returns cite, in every crate.
-- Assumes nothing.
use mathlib.Core.Path.{◌≡◌, refl, ap, sym, ◌∙◌}
use Prim.Native.Nat.{ℕ, zero, suc, ◌+◌, ◌*◌, ◌-◌, ◌^◌, ◌≤◌, ◌<◌}
use mathlib.Core.Bool.{Bool, true, false}
use mathlib.Core.List.{List, [], ◌∷◌, ◌++◌}
use native.Mathlib.Nat.{zero-add, suc-add, pow-suc, pow-succ'}
use native.Mathlib.Numerals.{add-one}
use native.Mathlib.Omega.{arith}
use borrow.Author.Tests.{le-leb, lt-leb}
use lib.ListN.{length, get_or, take, drop, length-append, length-drop, drop_of_length-le, take-append-drop}
use lib.Seq.{drop-cons, drop-drop, get_or-drop, length-take-le, take-nil, take-suc, take-take}
use Rattle.paper.specs.Answer.{Refusal, too_short, bad_width, Answer, accepted, refused, Read, ◌leaving◌, Reader, onward, ◌>>=◌, give, refuse, judge}
use Rattle.paper.specs.Bytes.{Bytes, of_bytes}
use Rattle.paper.specs.Field.{part, byte, number, headed, counted, numbers, good_width, size_group}
use Rattle.paper.proofs.Bytes.{bytes_left, bytes-right, below_length}

-- ---- one field after the other, with what is read on the right, as a contract has it
module _ {A B : Type 0} (p : Reader A) (next : A → Reader B) (s : List ℕ) where
  -- the field is accepted: go on with the next one
  pub on : {a : A} {t : List ℕ} {x : Answer (Read B)} → accepted (a leaving t) ≡ p s → x ≡ next a t → x ≡ (p >>= next) s
  unfolding ◌>>=◌
  on e f = f ∙ ap (λ (o : Answer (Read A)). onward o next) e

  -- the field is refused: stop
  pub off : {r : Refusal} → refused r ≡ p s → refused r ≡ (p >>= next) s
  unfolding ◌>>=◌
  off e = ap (λ (o : Answer (Read A)). onward o next) e

module _ {A : Type 0} {ok : Bool} (r : Refusal) (a : A) (t : List ℕ) where
  -- the value passes its test
  pub pass : ok ≡ true → accepted (a leaving t) ≡ judge ok r a t
  unfolding give
  pass e = rw e

  -- it does not
  pub fail : ok ≡ false → refused r ≡ judge ok r a t
  unfolding refuse
  fail e = rw e

-- ---- numbers in bytes, from a place on
-- each element of a slice is a byte
pub bytes_of : (s : List ℕ) → ((i : ℕ) → get_or s i 0 < 256) → Bytes s
bytes_of [] h = tt
bytes_of (b ∷ s) h = (h 0, bytes_of s (λ i. h (suc i)))

-- so do those of a part of it
pub bytes-part : (s : List ℕ) (at n : ℕ) → Bytes s → Bytes (take n (drop at s))
bytes-part s at n b =
    let after : Bytes (drop at s) = bytes-right (take at s) (drop at s) (rw take-append-drop b) in
    bytes_left (take n (drop at s)) (drop n (drop at s)) (rw take-append-drop after)

-- the number of k bytes that are there is one of k bytes
pub below_part : (s : List ℕ) (at k : ℕ) → Bytes s → k ≤ length s - at → of_bytes (take k (drop at s)) < 256 ^ k
below_part s at k b h = below_length k (take k (drop at s)) (bytes-part s at k b) (length-take-le k (drop at s) (omega (arith, length-drop at s)))

-- one byte more at the low end of some bytes
of_snoc : (s : List ℕ) (b : ℕ) → of_bytes (s ++ (b ∷ [])) ≡ of_bytes s * 256 + b
unfolding of_bytes
of_snoc [] b = omega arith
of_snoc (a ∷ s) b =
    let long : length (s ++ (b ∷ [])) ≡ length s + 1 = length-append s (b ∷ []) in
    rw (long, add-one (length s), pow-succ' 256 (length s), of_snoc s b) (omega arith)

-- one byte more at the low end of the bytes from a place on
pub of_next : (s : List ℕ) (at i : ℕ) → at + i < length s → of_bytes (take (i + 1) (drop at s)) ≡ of_bytes (take i (drop at s)) * 256 + get_or s (at + i) 0
of_next s at i h =
    rw (add-one i, take-suc (drop at s) i 0 (omega (arith, length-drop at s)), get_or-drop at s i 0) (of_snoc (take i (drop at s)) (get_or s (at + i) 0))

-- a number with one byte more is below the next power
pub below_next : (i v b : ℕ) → v < 256 ^ i → b < 256 → v * 256 + b < 256 ^ (i + 1)
below_next i v b h k = rw (add-one i) (omega (arith, pow-suc 256 i))

-- the number of one byte
pub of_one : (s : List ℕ) (at : ℕ) → at < length s → get_or s at 0 ≡ of_bytes (take 1 (drop at s))
unfolding of_bytes
of_one s at h = rw (drop-cons s at 0 h) (omega arith)

-- the number of two bytes
pub of_two : (s : List ℕ) (at : ℕ) → at + 1 < length s → get_or s at 0 * 256 + get_or s (at + 1) 0 ≡ of_bytes (take 2 (drop at s))
of_two s at h = ap (λ (n : ℕ). n * 256 + get_or s (at + 1) 0) (of_one s at (omega arith)) ∙ sym (of_next s at 1 h)

-- ---- widths
-- below 1
pub narrow : (w : ℕ) → w < 1 → good_width w ≡ false
narrow w h = rw (lt-leb 1 w h)

-- above 16
pub wide : (w : ℕ) → 16 < w → good_width w ≡ false
wide w h = let some : 1 ≤ w = omega arith in rw (le-leb 1 w some, lt-leb w 16 h)

-- from 1 to 16
pub good : (w : ℕ) → 1 ≤ w → w ≤ 16 → good_width w ≡ true
good w g h = rw (le-leb 1 w g, le-leb w 16 h)

-- ---- sizes
-- the end of a beginning is the beginning of the end
pub drop_take : (k n : ℕ) (s : List ℕ) → drop k (take (k + n) s) ≡ take n (drop k s)
drop_take zero n s = ap (λ (m : ℕ). take m s) (zero-add n)
drop_take (suc k) n [] = ap (drop (suc k)) (take-nil (suc k + n)) ∙ sym (take-nil n)
drop_take (suc k) n (b ∷ s) = rw (suc-add k n) (drop_take k n s)

-- c numbers of w bytes need no more than c * w bytes
numbers_take : (c w : ℕ) (s : List ℕ) → numbers c w (take (c * w) s) ≡ numbers c w s
unfolding numbers
numbers_take zero w s = refl
numbers_take (suc c) w s =
    let sum : suc c * w ≡ w + c * w = omega arith in
    rw (sum, take-take w (w + c * w) s (omega arith), drop_take w (c * w) s, numbers_take c w (drop w s))

module _ (s : List ℕ) (at : ℕ) where
  -- ---- one byte
  -- the message ends before it
  pub no_byte : length s ≤ at → refused (too_short 1 0) ≡ byte (drop at s)
  unfolding byte
  no_byte h = rw (drop_of_length-le s {i = at} h)

  -- it is there
  pub one_byte : at < length s → accepted (get_or s at 0 leaving drop (at + 1) s) ≡ byte (drop at s)
  unfolding byte
  one_byte h = rw (add-one at, drop-cons s at 0 h)

  -- ---- so many bytes
  -- there are fewer
  pub part-short : (k available : ℕ) → available ≡ length s - at → available < k → refused (too_short k available) ≡ part k (drop at s)
  unfolding part
  part-short k available e h =
      let same : length (drop at s) ≡ available = length-drop at s ∙ sym e in
      rw (same, lt-leb k available h)

  -- they are there
  pub part_there : (k : ℕ) → k ≤ length s - at → accepted (take k (drop at s) leaving drop (at + k) s) ≡ part k (drop at s)
  unfolding part
  part_there k h =
      let fits : k ≤ length (drop at s) = omega (arith, length-drop at s) in
      rw (le-leb k (length (drop at s)) fits, drop-drop k at s)

  -- ---- a number in k bytes
  module _ (k : ℕ) where
    -- fewer than k bytes are available
    pub number_short : (available : ℕ) → available ≡ length s - at → available < k → refused (too_short k available) ≡ number k (drop at s)
    unfolding number
    number_short available e h = off (part k) _ (drop at s) (part-short k available e h)

    -- they are there, and n is their number
    pub number_there : (n : ℕ) → n ≡ of_bytes (take k (drop at s)) → k ≤ length s - at → accepted (n leaving drop (at + k) s) ≡ number k (drop at s)
    unfolding number give
    number_there n is h = on (part k) _ (drop at s) (part_there k h) (rw is)

  -- ---- a head of k bytes, and as many bytes as it says
  module _ (k : ℕ) (follow : ℕ → ℕ) where
    -- the head is cut
    headed-short : (available : ℕ) → available ≡ length s - at → available < k → refused (too_short k available) ≡ headed k follow (drop at s)
    unfolding headed
    headed-short available e h = rw (← part-short k available e h)

    module _ (n : ℕ) (is : n ≡ of_bytes (take k (drop at s))) where
      -- what follows it is cut
      headed-cut : (available : ℕ) → available ≡ length s - at → k ≤ available → available < k + follow n → refused (too_short (k + follow n) available) ≡ headed k follow (drop at s)
      unfolding headed
      headed-cut available e g h = rw (← part_there k (omega arith), ← is, ← part-short (k + follow n) available e h)

      -- all is there
      headed_there : k + follow n ≤ length s - at
          → accepted (record { head = n; body = take (follow n) (drop (at + k) s) } leaving drop (at + k + follow n) s) ≡ headed k follow (drop at s)
      unfolding headed
      headed_there h =
          let sum : at + (k + follow n) ≡ at + k + follow n = omega arith in
          rw (← part_there k (omega arith), ← is, ← part_there (k + follow n) h, drop_take k (follow n) (drop at s), drop-drop k at s, sum)

  -- ---- a count in k bytes, and so many bytes
  module _ (k : ℕ) where
    -- the count is cut
    pub counted-short : (available : ℕ) → available ≡ length s - at → available < k → refused (too_short k available) ≡ counted k (drop at s)
    unfolding counted
    counted-short available e h = off (headed k (λ (n : ℕ). n)) _ (drop at s) (headed-short k (λ (n : ℕ). n) available e h)

    module _ (n : ℕ) (is : n ≡ of_bytes (take k (drop at s))) where
      -- the bytes are cut
      pub counted-cut : (available : ℕ) → available ≡ length s - at → k ≤ available → available < k + n → refused (too_short (k + n) available) ≡ counted k (drop at s)
      unfolding counted
      counted-cut available e g h = off (headed k (λ (n : ℕ). n)) _ (drop at s) (headed-cut k (λ (n : ℕ). n) n is available e g h)

      -- all is there
      pub counted_there : k + n ≤ length s - at → accepted (take n (drop (at + k) s) leaving drop (at + k + n) s) ≡ counted k (drop at s)
      unfolding counted give
      counted_there h = on (headed k (λ (n : ℕ). n)) _ (drop at s) (headed_there k (λ (n : ℕ). n) n is h) refl

  -- ---- c sizes, their width in k bytes
  module _ (k c : ℕ) where
    abbrev follow : ℕ → ℕ
    follow w = c * w

    -- the width is cut
    pub group_short : (available : ℕ) → available ≡ length s - at → available < k → refused (too_short k available) ≡ size_group k c (drop at s)
    unfolding size_group
    group_short available e h = off (headed k follow) _ (drop at s) (headed-short k follow available e h)

    module _ (w : ℕ) (is : w ≡ of_bytes (take k (drop at s))) where
      -- the sizes are cut
      pub group_cut : (available : ℕ) → available ≡ length s - at → k ≤ available → available < k + c * w → refused (too_short (k + c * w) available) ≡ size_group k c (drop at s)
      unfolding size_group
      group_cut available e g h = off (headed k follow) _ (drop at s) (headed-cut k follow w is available e g h)

      module _ (there : k + c * w ≤ length s - at) where
        -- the width is below 1
        pub group_narrow : w < 1 → refused (bad_width w) ≡ size_group k c (drop at s)
        unfolding size_group
        group_narrow h = on (headed k follow) _ (drop at s) (headed_there k follow w is there) (fail (bad_width w) _ _ (narrow w h))

        -- the width is above 16
        pub group_wide : 16 < w → refused (bad_width w) ≡ size_group k c (drop at s)
        unfolding size_group
        group_wide h = on (headed k follow) _ (drop at s) (headed_there k follow w is there) (fail (bad_width w) _ _ (wide w h))

        -- the width is good
        pub group_good : 1 ≤ w → w ≤ 16 → accepted (numbers c w (drop (at + k) s) leaving drop (at + k + c * w) s) ≡ size_group k c (drop at s)
        unfolding size_group
        group_good g h =
            on (headed k follow) _ (drop at s) (headed_there k follow w is there)
            (rw (← numbers_take c w (drop (at + k) s)) (pass (bad_width w) _ _ (good w g h)))
