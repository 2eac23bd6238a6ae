-- Document 01, "Response layout" and what "Sizes and the writer" says of responses.
use Rattle.std.specs.Prelude.{ℕ, ◌^◌, ◌≤◌, ◌<◌, ◌≡◌, List, [], ◌∷◌, ◌++◌, length, leb}
use Rattle.paper.specs.Answer.{Answer, accepted, wrong_format, check, ◌then◌, Reader, ◌>>=◌, give, hand_out}
use Rattle.paper.specs.Bytes.{Bytes, to_bytes}
use Rattle.paper.specs.Sizes.{Fit, Holds, width}
use Rattle.paper.specs.Kind.{Kind, add_file, delete_file, replace_file, read_file, read_dir, resume_file, mode_of, known}
use Rattle.paper.specs.Rewriting.{rewriting}
use Rattle.paper.specs.Field.{byte, number, block_length, size_group, first_size, second_size, with_count, sizes_at}

-- what a response means: the block length as sent, the format byte as it is; what its kind lacks is 0 or empty
-- (ReadDir's one size stands as the uncompressed)
pub record Response : Type 0 where
  pub kind : Kind
  pub block : List ℕ
  pub format : ℕ
  pub uncompressed : ℕ
  pub compressed : ℕ
  pub position : ℕ

abbrev pub response : Kind → List ℕ → ℕ → ℕ → ℕ → ℕ → Response
response k b f x y p = record { kind = k; block = b; format = f; uncompressed = x; compressed = y; position = p }

-- what stands after the format byte
pub data AfterFormat : Type 0 where
  nothing two_sizes one_size one_position : AfterFormat

-- what stands after the mode: nothing, or block length, format byte and more
pub data AfterMode : Type 0 where
  ended : AfterMode
  block_and_format : AfterFormat → AfterMode

abbrev pub after_mode : Kind → AfterMode
after_mode delete_file = ended
after_mode add_file = block_and_format nothing
after_mode replace_file = block_and_format nothing
after_mode read_file = block_and_format two_sizes
after_mode read_dir = block_and_format one_size
after_mode resume_file = block_and_format one_position

-- ---- reading: an unknown mode is refused at once; a width has two bytes, a position eight
abbrev pub read_after_format : Kind → List ℕ → ℕ → AfterFormat → Reader Response
read_after_format k b f nothing = give (response k b f 0 0 0)
read_after_format k b f two_sizes = do
  xs ← size_group 2 2
  give (response k b f (first_size xs) (second_size xs) 0)
read_after_format k b f one_size = do
  xs ← size_group 2 1
  give (response k b f (first_size xs) 0 0)
read_after_format k b f one_position = do
  p ← number 8
  give (response k b f 0 0 p)

abbrev pub read_after_mode : Kind → AfterMode → Reader Response
read_after_mode k ended = give (response k [] 0 0 0 0)
read_after_mode k (block_and_format more) = do
  b ← block_length
  f ← byte
  read_after_format k b f more

unfoldable pub read_response : Reader Response
read_response = do
  mode ← byte
  k ← hand_out (known mode)
  read_after_mode k (after_mode k)

-- ---- writing: what the kind lacks is ignored
-- the sizes of the kind: two, one, or none
abbrev pub sizes_of : AfterFormat → Response → List ℕ
sizes_of nothing m = []
sizes_of two_sizes m = m.uncompressed ∷ m.compressed ∷ []
sizes_of one_size m = m.uncompressed ∷ []
sizes_of one_position m = []

abbrev pub response_sizes : AfterMode → Response → List ℕ
response_sizes ended m = []
response_sizes (block_and_format more) m = sizes_of more m

-- what stands after the format byte, with the sizes at width w
abbrev pub write_after_format : ℕ → AfterFormat → Response → List ℕ
write_after_format w nothing m = []
write_after_format w two_sizes m = sizes_at 2 w (sizes_of two_sizes m)
write_after_format w one_size m = sizes_at 2 w (sizes_of one_size m)
write_after_format w one_position m = to_bytes 8 m.position

abbrev pub write_after_mode : ℕ → AfterMode → Response → List ℕ
write_after_mode w ended m = []
write_after_mode w (block_and_format more) m = with_count 1 m.block ++ (m.format ∷ write_after_format w more m)

-- the response with its sizes at width w
unfoldable pub response_at : ℕ → Response → List ℕ
response_at w m = mode_of m.kind ∷ write_after_mode w (after_mode m.kind) m

-- the bytes that are written: the width is the smallest
unfoldable pub response_bytes : Response → List ℕ
response_bytes m = response_at (width (response_sizes (after_mode m.kind) m)) m

-- the response as it is read back: 0 or empty for what its kind lacks
abbrev pub kept_after_format : AfterFormat → Response → Response
kept_after_format nothing m = response m.kind m.block m.format 0 0 0
kept_after_format two_sizes m = response m.kind m.block m.format m.uncompressed m.compressed 0
kept_after_format one_size m = response m.kind m.block m.format m.uncompressed 0 0
kept_after_format one_position m = response m.kind m.block m.format 0 0 m.position

abbrev pub kept_after_mode : AfterMode → Response → Response
kept_after_mode ended m = response m.kind [] 0 0 0 0
kept_after_mode (block_and_format more) m = kept_after_format more m

unfoldable pub as_read : Response → Response
as_read m = kept_after_mode (after_mode m.kind) m

-- the check of a block length when writing: too long
unfoldable pub good_block_length : List ℕ → Answer (List ℕ)
good_block_length b = check (leb (length b) 255) (wrong_format 0) (accepted b)

-- the check when writing is that of the block length, where the kind has one (the check of room comes with the buffer)
unfoldable pub write_response : Response → Answer (List ℕ)
write_response m = good_block_length (as_read m).block then accepted (response_bytes m)

-- a response read and written anew; the tail is not written
unfoldable pub rewrite_response : Reader (List ℕ)
rewrite_response = rewriting read_response write_response

-- ---- what can be written, and in which ways
-- a block length that its count can hold, and numbers that fit their fields
pub record WritableResponse (m : Response) : Type 0 where
  pub bytes : Bytes m.block
  pub short : length m.block ≤ 255
  pub format : m.format < 256
  pub sizes : Fit 16 (m.uncompressed ∷ m.compressed ∷ [])
  pub position : m.position < 256 ^ 8

-- u is one of m's ways of being written: laid out as the table says, with some width that holds the sizes
pub record ResponseWay (m : Response) (u : List ℕ) : Type 0 where
  pub writable : WritableResponse m
  pub plain : as_read m ≡ m
  pub width : ℕ
  pub holds : Holds (response_sizes (after_mode m.kind) m) width
  pub is : u ≡ response_at width m
