-- Document 02, request 06, "Why was it refused?": the checks of document 01 one by one, in 01's order, and the first of them that fails.
-- Nothing here calls a reader: which refusal comes when is said a second time, apart from them. A check looks at the whole message; what it finds there has a meaning
-- once the checks before it have passed.
use Rattle.std.specs.Prelude.{◌≡◌, ◌↔◌, ℕ, ◌+◌, ◌*◌, ◌-◌, ◌≤◌, ◌<◌, Bool, true, false, List, [], ◌∷◌, ◌++◌, length, get_or, take, drop, leb, eqb}
use Rattle.paper.specs.Choice.{pick, either}
use Rattle.paper.specs.Answer.{Refusal, too_short, wrong_format, unknown_mode, bad_width, Answer, accepted, refused, ◌leaving◌, Reader}
use Rattle.paper.specs.Bytes.{of_bytes}
use Rattle.paper.specs.Utf8.{valid_up_to, is_utf8}
use Rattle.paper.specs.Kind.{Kind, known}
use Rattle.paper.specs.Field.{good_width}
use Rattle.paper.specs.Request.{AfterName, format_and_sizes, format_only, nothing, after_name}
use Rattle.paper.specs.Response.{AfterFormat, nothing as nothingMore, two_sizes, one_size, one_position, AfterMode, ended, block_and_format, after_mode}

-- ---- a check
-- the fields of a file transfer request or response
pub data Field : Type 0 where
  mode name format_byte size_group block_length position : Field

-- what is wrong where a check fails: one for each check of 01
pub data Fault : Type 0 where
  no_mode no_name_length cut_name not_utf8 no_such_mode no_format no_width cut_sizes wrong_width no_count cut_block cut_position : Fault

-- the field that it is about
abbrev pub field_of : Fault → Field
field_of no_mode = mode
field_of no_name_length = name
field_of cut_name = name
field_of not_utf8 = name
field_of no_such_mode = mode
field_of no_format = format_byte
field_of no_width = size_group
field_of cut_sizes = size_group
field_of wrong_width = size_group
field_of no_count = block_length
field_of cut_block = block_length
field_of cut_position = position

-- a check of a message: its fault, the offset where the field begins, whether the message passes, and the refusal where it does not
pub record Check : Type 0 where
  pub fault : Fault
  pub begins : List ℕ → ℕ
  pub passes : List ℕ → Bool
  pub refusal : List ℕ → Refusal

-- the field has as many bytes as it needs
abbrev pub present : Fault → (List ℕ → ℕ) → (List ℕ → ℕ) → Check
present f at needed = record {
  fault = f;
  begins = at;
  passes = λ (s : List ℕ). leb (needed s) (length s - at s);
  refusal = λ (s : List ℕ). too_short (needed s) (length s - at s);
}

-- what stands in the field is good
abbrev pub judged : Fault → (List ℕ → ℕ) → (List ℕ → Bool) → (List ℕ → Refusal) → Check
judged f at good bad = record { fault = f; begins = at; passes = good; refusal = bad }

-- the check is for kinds that have the field: a message of another kind passes
abbrev pub only : (List ℕ → Bool) → Check → Check
only has c = record { fault = c.fault; begins = c.begins; passes = λ (s : List ℕ). pick (has s) (c.passes s) true; refusal = c.refusal }

-- ---- the first check that fails
-- every check passes; or the message stops with this fault, at the field that begins at this offset, with this refusal
pub data Verdict : Type 0 where
  all_pass : Verdict
  stops : Fault → ℕ → Refusal → Verdict

unfoldable pub first_failed : List Check → List ℕ → Verdict
first_failed [] s = all_pass
first_failed (c ∷ cs) s = pick (c.passes s) (first_failed cs s) (stops c.fault (c.begins s) (c.refusal s))

-- every one of some checks passes
abbrev pub AllPass : List Check → List ℕ → Type 0
AllPass [] s = Unit {0}
AllPass (c ∷ cs) s = (c.passes s ≡ true) × AllPass cs s

-- the check at which a message stops: it fails, and every check that is put earlier passes
pub record Stopped (checks : List Check) (s : List ℕ) (f : Fault) (o : ℕ) (r : Refusal) : Type 0 where
  pub earlier : List Check
  pub this : Check
  pub later : List Check
  pub split : checks ≡ earlier ++ (this ∷ later)
  pub pass : AllPass earlier s
  pub fails : this.passes s ≡ false
  pub names : stops this.fault (this.begins s) (this.refusal s) ≡ stops f o r

-- ---- what stands where in a message
-- always this number
abbrev pub always : ℕ → List ℕ → ℕ
always n s = n

-- the number in the k bytes from an offset on
abbrev pub number_at : ℕ → ℕ → List ℕ → ℕ
number_at at k s = of_bytes (take k (drop at s))

-- the mode stands at offset 0
abbrev pub mode_at : List ℕ → ℕ
mode_at = always 0

abbrev pub mode_in : List ℕ → ℕ
mode_in s = get_or s 0 0

-- the mode is known, and its kind is one of these
abbrev pub among : (Kind → Bool) → Answer Kind → Bool
among these (accepted k) = these k
among these (refused r) = false

abbrev pub of_kind : (Kind → Bool) → List ℕ → Bool
of_kind these s = among these (known (mode_in s))

abbrev pub any_kind : Kind → Bool
any_kind k = true

-- ---- a request: the name's length stands at offset 1, the name behind it, then the format byte and the size group
abbrev pub name_at : List ℕ → ℕ
name_at = always 1

abbrev pub name_length : List ℕ → ℕ
name_length s = number_at 1 2 s

abbrev pub name_in : List ℕ → List ℕ
name_in s = take (name_length s) (drop 3 s)

abbrev pub name_end : List ℕ → ℕ
name_end s = 3 + name_length s

abbrev pub group_at : List ℕ → ℕ
group_at s = name_end s + 1

abbrev pub width_in : List ℕ → ℕ
width_in s = number_at (group_at s) 1 s

abbrev pub has_format : AfterName → Bool
has_format format_and_sizes = true
has_format nothing = false
has_format format_only = true

abbrev pub has_sizes : AfterName → Bool
has_sizes format_and_sizes = true
has_sizes nothing = false
has_sizes format_only = false

abbrev pub with_format : List ℕ → Bool
with_format s = of_kind (λ (k : Kind). has_format (after_name k)) s

abbrev pub with_sizes : List ℕ → Bool
with_sizes s = of_kind (λ (k : Kind). has_sizes (after_name k)) s

-- 01: mode present, name length present, name bytes present, name UTF-8 (with request 02's length), only then mode known,
-- format byte present, width byte present, all 1 + 2w bytes present, width 1 to 16
unfoldable pub request_checks : List Check
request_checks =
    present no_mode mode_at (always 1)
    ∷ present no_name_length name_at (always 2)
    ∷ present cut_name name_at (λ (s : List ℕ). 2 + name_length s)
    ∷ judged not_utf8 name_at (λ (s : List ℕ). is_utf8 (name_in s)) (λ (s : List ℕ). wrong_format (valid_up_to (name_in s)))
    ∷ judged no_such_mode mode_at (of_kind any_kind) (λ (s : List ℕ). unknown_mode (mode_in s))
    ∷ only with_format (present no_format name_end (always 1))
    ∷ only with_sizes (present no_width group_at (always 1))
    ∷ only with_sizes (present cut_sizes group_at (λ (s : List ℕ). 1 + 2 * width_in s))
    ∷ only with_sizes (judged wrong_width group_at (λ (s : List ℕ). good_width (width_in s)) (λ (s : List ℕ). bad_width (width_in s)))
    ∷ []

-- the end of the last byte judged: the name for refusals 2 and 3, the width for 6
abbrev pub request_judged : Refusal → List ℕ → ℕ
request_judged r s = pick (eqb r.number 6) (group_at s + 1) (name_end s)

-- ---- a response: the block length's count stands at offset 1, the block length behind it, then the format byte, then the size group or the position
abbrev pub block_at : List ℕ → ℕ
block_at = always 1

abbrev pub block_count : List ℕ → ℕ
block_count s = number_at 1 1 s

abbrev pub block_end : List ℕ → ℕ
block_end s = 2 + block_count s

abbrev pub last_at : List ℕ → ℕ
last_at s = block_end s + 1

abbrev pub two_byte_width_in : List ℕ → ℕ
two_byte_width_in s = number_at (last_at s) 2 s

abbrev pub is_two_sizes : AfterFormat → Bool
is_two_sizes nothingMore = false
is_two_sizes two_sizes = true
is_two_sizes one_size = false
is_two_sizes one_position = false

abbrev pub is_one_size : AfterFormat → Bool
is_one_size nothingMore = false
is_one_size two_sizes = false
is_one_size one_size = true
is_one_size one_position = false

abbrev pub is_position : AfterFormat → Bool
is_position nothingMore = false
is_position two_sizes = false
is_position one_size = false
is_position one_position = true

abbrev pub any_last : AfterFormat → Bool
any_last x = true

abbrev pub has_last : (AfterFormat → Bool) → AfterMode → Bool
has_last these ended = false
has_last these (block_and_format x) = these x

abbrev pub with_last : (AfterFormat → Bool) → List ℕ → Bool
with_last these s = of_kind (λ (k : Kind). has_last these (after_mode k)) s

abbrev pub with_block : List ℕ → Bool
with_block s = with_last any_last s

abbrev pub with_group : List ℕ → Bool
with_group s = either (with_last is_two_sizes s) (with_last is_one_size s)

abbrev pub with_position : List ℕ → Bool
with_position s = with_last is_position s

abbrev pub size_count : List ℕ → ℕ
size_count s = pick (with_last is_two_sizes s) 2 1

-- 01: mode present, refused at once if unknown; count present, block-length bytes present, format byte present;
-- then two-byte width present, the whole group present, width 1 to 16; or the position's 8 bytes present
unfoldable pub response_checks : List Check
response_checks =
    present no_mode mode_at (always 1)
    ∷ judged no_such_mode mode_at (of_kind any_kind) (λ (s : List ℕ). unknown_mode (mode_in s))
    ∷ only with_block (present no_count block_at (always 1))
    ∷ only with_block (present cut_block block_at (λ (s : List ℕ). 1 + block_count s))
    ∷ only with_block (present no_format block_end (always 1))
    ∷ only with_group (present no_width last_at (always 2))
    ∷ only with_group (present cut_sizes last_at (λ (s : List ℕ). 2 + size_count s * two_byte_width_in s))
    ∷ only with_group (judged wrong_width last_at (λ (s : List ℕ). good_width (two_byte_width_in s)) (λ (s : List ℕ). bad_width (two_byte_width_in s)))
    ∷ only with_position (present cut_position last_at (always 8))
    ∷ []

-- the end of the last byte judged: the mode for refusal 3, both bytes of the width for 6
abbrev pub response_judged : Refusal → List ℕ → ℕ
response_judged r s = pick (eqb r.number 6) (last_at s + 2) 1

-- ---- what is claimed of a reader and its checks; `end r s` is the end of the last byte judged where s is refused with r
pub record TrueReason (A : Type 0) (read : Reader A) (checks : List Check) (end : Refusal → List ℕ → ℕ) : Type 0 where
  -- the refusal is that of the first check that fails
  pub refuses : (s : List ℕ) (r : Refusal) → (read s ≡ refused r) ↔ ((f : Fault) × (o : ℕ) × (first_failed checks s ≡ stops f o r))
  -- an accepted message fails none, and no other does so
  pub accepts : (s : List ℕ) → ((a : A) × (t : List ℕ) × (read s ≡ accepted (a leaving t))) ↔ (first_failed checks s ≡ all_pass)
  pub passes : (s : List ℕ) → (first_failed checks s ≡ all_pass) ↔ AllPass checks s
  -- it is the true reason: every check that 01 puts earlier passes
  pub reason : (s : List ℕ) (f : Fault) (o : ℕ) (r : Refusal) → first_failed checks s ≡ stops f o r → Stopped checks s f o r
  -- refusals 2, 3 and 6: each message that is no shorter and agrees in every byte up to the last one judged stops with the same fault, at the same offset, with the same refusal
  pub lasts : (s t : List ℕ) (f : Fault) (o : ℕ) (r : Refusal) → first_failed checks s ≡ stops f o r → (r.number ≡ 1 → ⊥)
      → length s ≤ length t → take (end r s) s ≡ take (end r s) t → first_failed checks t ≡ stops f o r
  -- that last byte is one of the message
  pub within : (s : List ℕ) (f : Fault) (o : ℕ) (r : Refusal) → first_failed checks s ≡ stops f o r → (r.number ≡ 1 → ⊥) → end r s ≤ length s
  -- refusal 1: what is available is counted from the offset to the end of the message
  pub rest : (s : List ℕ) (f : Fault) (o : ℕ) (r : Refusal) → first_failed checks s ≡ stops f o r → r.number ≡ 1 → o + r.second ≡ length s
  -- refusal 1: with the missing number of bytes added, of any content, that check passes, and so do those before it
  pub filled : (s x : List ℕ) (f : Fault) (o : ℕ) (r : Refusal) (b : Stopped checks s f o r) → r.number ≡ 1
      → length x ≡ r.first - r.second → AllPass b.earlier (s ++ x) × (b.this.passes (s ++ x) ≡ true)
  -- and where the message is refused again, it is by a check that 01 puts later
  pub further : (s x : List ℕ) (f g : Fault) (o p : ℕ) (r q : Refusal) (b : Stopped checks s f o r) → r.number ≡ 1
      → length x ≡ r.first - r.second → (d : Stopped checks (s ++ x) g p q) → length b.earlier < length d.earlier
