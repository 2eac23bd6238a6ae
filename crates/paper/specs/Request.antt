-- Document 01, "Request layout" and what "Sizes and the writer" says of requests.
use Rattle.std.specs.Prelude.{ℕ, ◌≤◌, ◌<◌, ◌≡◌, List, [], ◌∷◌, ◌++◌, length, leb}
use Rattle.paper.specs.Answer.{Answer, accepted, wrong_format, check, ◌then◌, Reader, ◌>>=◌, give, hand_out}
use Rattle.paper.specs.Utf8.{Utf8, valid_up_to, is_utf8}
use Rattle.paper.specs.Sizes.{Fit, Holds, width}
use Rattle.paper.specs.Kind.{Kind, add_file, delete_file, replace_file, read_file, read_dir, resume_file, mode_of, known}
use Rattle.paper.specs.Rewriting.{rewriting}
use Rattle.paper.specs.Field.{byte, name, size_group, first_size, second_size, with_count, sizes_at}

-- what a request means; what its kind lacks is 0
pub record Request : Type 0 where
  pub kind : Kind
  pub name : List ℕ
  pub format : ℕ
  pub uncompressed : ℕ
  pub compressed : ℕ

abbrev pub request : Kind → List ℕ → ℕ → ℕ → ℕ → Request
request k n f x y = record { kind = k; name = n; format = f; uncompressed = x; compressed = y }

-- the table of kinds: what stands after the name
pub data AfterName : Type 0 where
  format_and_sizes nothing format_only : AfterName

abbrev pub after_name : Kind → AfterName
after_name add_file = format_and_sizes
after_name replace_file = format_and_sizes
after_name resume_file = format_and_sizes
after_name delete_file = nothing
after_name read_dir = nothing
after_name read_file = format_only

-- ---- reading: the checks in 01's order, the mode judged only after the name; the rest of the buffer is the tail
abbrev pub read_after_name : Kind → List ℕ → AfterName → Reader Request
read_after_name k n format_and_sizes = do
  f ← byte
  xs ← size_group 1 2
  give (request k n f (first_size xs) (second_size xs))
read_after_name k n nothing = give (request k n 0 0 0)
read_after_name k n format_only = do
  f ← byte
  give (request k n f 0 0)

unfoldable pub read_request : Reader Request
read_request = do
  mode ← byte
  n ← name
  k ← hand_out (known mode)
  read_after_name k n (after_name k)

-- ---- writing: what the kind lacks is ignored
abbrev pub request_sizes : Request → List ℕ
request_sizes m = m.uncompressed ∷ m.compressed ∷ []

-- what stands after the name, with the sizes at width w
abbrev pub write_after_name : ℕ → AfterName → Request → List ℕ
write_after_name w format_and_sizes m = m.format ∷ sizes_at 1 w (request_sizes m)
write_after_name w nothing m = []
write_after_name w format_only m = m.format ∷ []

-- the request with its sizes at width w
unfoldable pub request_at : ℕ → Request → List ℕ
request_at w m = mode_of m.kind ∷ (with_count 2 m.name ++ write_after_name w (after_name m.kind) m)

-- the bytes that are written: the width is the smallest
unfoldable pub request_bytes : Request → List ℕ
request_bytes m = request_at (width (request_sizes m)) m

-- the checks of a name when writing: too long, then not UTF-8, with up to where it is
unfoldable pub good_name : List ℕ → Answer (List ℕ)
good_name n = check (leb (length n) 65535) (wrong_format 0) (check (is_utf8 n) (wrong_format (valid_up_to n)) (accepted n))

-- the checks when writing are those of the name (the check of room comes with the buffer)
unfoldable pub write_request : Request → Answer (List ℕ)
write_request m = good_name m.name then accepted (request_bytes m)

-- a request read and written anew; the tail is not written
unfoldable pub rewrite_request : Reader (List ℕ)
rewrite_request = rewriting read_request write_request

-- ---- what can be written, and in which ways
-- a name: UTF-8, and short enough for its length in two bytes
pub record IsName (n : List ℕ) : Type 0 where
  pub utf8 : Utf8 n
  pub short : length n ≤ 65535

-- a name, and numbers that fit their fields
pub record WritableRequest (m : Request) : Type 0 where
  pub named : IsName m.name
  pub format : m.format < 256
  pub sizes : Fit 16 (request_sizes m)

-- the request as it is read back: 0 for what its kind lacks
abbrev pub kept_after_name : AfterName → Request → Request
kept_after_name format_and_sizes m = m
kept_after_name nothing m = request m.kind m.name 0 0 0
kept_after_name format_only m = request m.kind m.name m.format 0 0

unfoldable pub as_read : Request → Request
as_read m = kept_after_name (after_name m.kind) m

-- u is one of m's ways of being written: laid out as the table says, with some width that holds the sizes
pub record RequestWay (m : Request) (u : List ℕ) : Type 0 where
  pub writable : WritableRequest m
  pub plain : as_read m ≡ m
  pub width : ℕ
  pub holds : Holds (request_sizes m) width
  pub is : u ≡ request_at width m
