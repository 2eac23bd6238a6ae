-- The fields of document 01. In refusal 1 "needed" and "available" are counted from the start of the field:
-- mode, name with its length, format byte, size group with its width, block length with its count, position, the three routine bytes.
-- (Each trouble-code field stands in TroubleCode.antt.)
use Rattle.std.specs.Prelude.{ℕ, zero, suc, ◌+◌, ◌*◌, Bool, List, [], ◌∷◌, ◌++◌, length, get_or, take, drop, leb}
use Rattle.paper.specs.Choice.{pick, both}
use Rattle.paper.specs.Answer.{accepted, refused, too_short, wrong_format, bad_width, ◌leaving◌, Reader, onward, ◌>>=◌, give, judge}
use Rattle.paper.specs.Bytes.{of_bytes, to_bytes}
use Rattle.paper.specs.Utf8.{valid_up_to, is_utf8}

-- ---- reading
-- the first n bytes of the field, which must be there
unfoldable pub part : ℕ → Reader (List ℕ)
part n s = pick (leb n (length s)) (accepted (take n s leaving drop n s)) (refused (too_short n (length s)))

-- one byte: a mode, a format
unfoldable pub byte : Reader ℕ
byte [] = refused (too_short 1 0)
byte (b ∷ s) = accepted (b leaving s)

-- a number in k bytes, high first
unfoldable pub number : ℕ → Reader ℕ
number k = do
  x ← part k
  give (of_bytes x)

-- a head of k bytes, and the bytes that follow it: the head's number says how many
pub record Headed : Type 0 where
  pub head : ℕ
  pub body : List ℕ

-- the head must be there, then head and body together
unfoldable pub headed : ℕ → (ℕ → ℕ) → Reader Headed
headed k follow s =
    onward (part k s)
    (λ (h _ : List ℕ). onward (part (k + follow (of_bytes h)) s)
    (λ (u t : List ℕ). accepted (record { head = of_bytes h; body = drop k u } leaving t)))

-- a count in k bytes, and so many bytes, handed on as sent
unfoldable pub counted : ℕ → Reader (List ℕ)
counted k = do
  h ← headed k (λ (n : ℕ). n)
  give h.body

-- the name with its length in two bytes; it must be UTF-8, else the refusal says up to where it is
unfoldable pub name : Reader (List ℕ)
name = do
  n ← counted 2
  judge (is_utf8 n) (wrong_format (valid_up_to n)) n

-- the block length with its count in one byte
abbrev pub block_length : Reader (List ℕ)
block_length = counted 1

-- c numbers of w bytes each
unfoldable pub numbers : ℕ → ℕ → List ℕ → List ℕ
numbers zero w s = []
numbers (suc c) w s = of_bytes (take w s) ∷ numbers c w (drop w s)

-- a width from 1 to 16
abbrev pub good_width : ℕ → Bool
good_width w = both (leb 1 w) (leb w 16)

-- c sizes with their width in k bytes: all of the group must be there before its width is judged
unfoldable pub size_group : ℕ → ℕ → Reader (List ℕ)
size_group k c = do
  h ← headed k (λ (w : ℕ). c * w)
  judge (good_width h.head) (bad_width h.head) (numbers c h.head h.body)

abbrev pub first_size : List ℕ → ℕ
first_size xs = get_or xs 0 0

abbrev pub second_size : List ℕ → ℕ
second_size xs = get_or xs 1 0

-- ---- writing
-- bytes after their count in k bytes
unfoldable pub with_count : ℕ → List ℕ → List ℕ
with_count k x = to_bytes k (length x) ++ x

-- sizes of w bytes each
unfoldable pub laid : ℕ → List ℕ → List ℕ
laid w [] = []
laid w (x ∷ xs) = to_bytes w x ++ laid w xs

-- sizes at width w, after the width in k bytes
unfoldable pub sizes_at : ℕ → ℕ → List ℕ → List ℕ
sizes_at k w xs = to_bytes k w ++ laid w xs
