-- What the answers about a request say of the message, in the paper's terms.
use Rattle.std.specs.Prelude.{◌≡◌, ℕ, ◌+◌, ◌^◌, ◌≤◌, ◌<◌, List, length}
use Rattle.paper.specs.Kind.{Kind}
use Rattle.paper.specs.Request.{Request, request, AfterName, read_after_name, read_request}
use Rattle.wire.specs.Size.{value}
use Rattle.wire.specs.Reading.{Seen, Right}
use Rattle.wire.specs.Place.{bytes_at}
use Rattle.file_operation.specs.Mode.{kind_of}
use Rattle.file_operation.specs.declared.payload.SizePayload.{SizePayload}
use Rattle.request_file_transfer.specs.declared.read.Rest.{Rest}
use Rattle.request_file_transfer.specs.declared.read.RequestFileTransferRequest.{RequestFileTransferRequest}

-- the low halves are halves
abbrev pub Halves : SizePayload → Type 0
Halves x = (x.file_size_uncompressed.low < 2 ^ 64) × (x.file_size_compressed.low < 2 ^ 64)

-- ---- what stands after the name, in a request of kind k and name n
abbrev pub with_rest : Kind → List ℕ → Rest → Request
with_rest k n x = request k n x.format.0 (value x.size.file_size_uncompressed) (value x.size.file_size_compressed)

abbrev pub RestRight : AfterName → List ℕ → ℕ → Seen Rest → Type 0
RestRight h s at r =
    (k : Kind) (n : List ℕ) → Right Rest Request (with_rest k n) (read_after_name k n h) (λ (x : Rest) (next : ℕ). Halves x.size × (next ≤ length s)) s at r

-- ---- a request of the message s
-- what it means: its kind, the bytes at the name's place, the format byte, the numbers of its sizes
abbrev pub meant : List ℕ → RequestFileTransferRequest → Request
meant s q =
    request (kind_of q.kind) (bytes_at s q.file_path_and_name) q.data_format_identifier.0 (value q.size.file_size_uncompressed) (value q.size.file_size_compressed)

-- the name begins at 3 and lies within the message, and the tail begins within it
pub record Placed (s : List ℕ) (q : RequestFileTransferRequest) (tail : ℕ) : Type 0 where
  pub begins : q.file_path_and_name.start ≡ 3
  pub ends : 3 + q.file_path_and_name.len ≤ length s
  pub halves : Halves q.size
  pub within : tail ≤ length s

-- the answer is the paper's
abbrev pub RequestRight : List ℕ → Seen RequestFileTransferRequest → Type 0
RequestRight s r = Right RequestFileTransferRequest Request (meant s) read_request (Placed s) s 0 r
