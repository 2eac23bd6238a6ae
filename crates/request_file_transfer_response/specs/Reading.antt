-- What the answers about a response say of the message, in the paper's terms.
use Rattle.std.specs.Prelude.{◌≡◌, ℕ, ◌+◌, ◌^◌, ◌≤◌, ◌<◌, List, length}
use Rattle.paper.specs.Kind.{Kind}
use Rattle.paper.specs.Response.{Response, response, AfterFormat, AfterMode, ended, block_and_format, after_mode, read_after_format, read_after_mode, read_response}
use Rattle.wire.specs.Size.{value}
use Rattle.wire.specs.Reading.{Seen, Right}
use Rattle.wire.specs.Place.{bytes_at}
use Rattle.file_operation.specs.Mode.{kind_of}
use Rattle.file_operation.specs.declared.payload.FileSizePayload.{FileSizePayload}
use Rattle.request_file_transfer_response.specs.declared.read.More.{More}
use Rattle.request_file_transfer_response.specs.declared.read.Body.{Body}
use Rattle.request_file_transfer_response.specs.declared.read.RequestFileTransferResponse.{RequestFileTransferResponse}

-- the low halves are halves
abbrev pub Halves : FileSizePayload → Type 0
Halves x = (x.file_size_uncompressed.low < 2 ^ 64) × (x.file_size_compressed.low < 2 ^ 64)

-- ---- what stands after the format byte f, in a response of kind k and block length b
abbrev pub with_more : Kind → List ℕ → ℕ → More → Response
with_more k b f x = response k b f (value x.file_size.file_size_uncompressed) (value x.file_size.file_size_compressed) x.position.file_position

abbrev pub MoreRight : AfterFormat → List ℕ → ℕ → Seen More → Type 0
MoreRight h s at r =
    (k : Kind) (b : List ℕ) (f : ℕ) → Right More Response (with_more k b f) (read_after_format k b f h) (λ (x : More) (next : ℕ). Halves x.file_size × (next ≤ length s)) s at r

-- ---- what stands after the mode, from `at` on, in a response of kind k of the message s
abbrev pub with_body : List ℕ → Kind → Body → Response
with_body s k x = with_more k (bytes_at s x.block) x.format.0 x.more

-- the block length begins right after its count; where the kind has none, its place is the empty one
abbrev pub block_start : AfterMode → ℕ → ℕ
block_start ended at = 0
block_start (block_and_format more) at = at + 1

-- the block length lies within the message, and the next field begins within it
pub record BodyPlaced (h : AfterMode) (s : List ℕ) (at : ℕ) (x : Body) (next : ℕ) : Type 0 where
  pub begins : x.block.start ≡ block_start h at
  pub ends : x.block.start + x.block.len ≤ length s
  pub halves : Halves x.more.file_size
  pub within : next ≤ length s

abbrev pub BodyRight : AfterMode → List ℕ → ℕ → Seen Body → Type 0
BodyRight h s at r = (k : Kind) → Right Body Response (with_body s k) (read_after_mode k h) (BodyPlaced h s at) s at r

-- ---- a response of the message s
-- what it means: its kind, the bytes at the block length's place, the format byte, the numbers of its sizes, the position
abbrev pub meant : List ℕ → RequestFileTransferResponse → Response
meant s q =
    response (kind_of q.kind) (bytes_at s q.max_number_of_block_length) q.data_format_identifier.0 (value q.file_size.file_size_uncompressed) (value q.file_size.file_size_compressed) q.position.file_position

-- the block length begins at 2, or is the empty place, and lies within the message; the tail begins within it
pub record Placed (s : List ℕ) (q : RequestFileTransferResponse) (tail : ℕ) : Type 0 where
  pub begins : q.max_number_of_block_length.start ≡ block_start (after_mode (kind_of q.kind)) 1
  pub ends : q.max_number_of_block_length.start + q.max_number_of_block_length.len ≤ length s
  pub halves : Halves q.file_size
  pub within : tail ≤ length s

-- the answer is the paper's
abbrev pub ResponseRight : List ℕ → Seen RequestFileTransferResponse → Type 0
ResponseRight s r = Right RequestFileTransferResponse Response (meant s) read_response (Placed s) s 0 r
