-- Demand 3 of responses, of this crate's own calls: two responses say the same exactly if `rewrite_response` makes the same bytes of both, and these are the shortest that say it.
-- Assumes nothing.
use Prim.Native.Nat.{ℕ}
use mathlib.Core.Path.{◌≡◌, sym, ap, ◌∙◌}
use mathlib.Core.List.{List}
use mathlib.Core.Logic.Iff
use Rattle.paper.specs.Response.{Response, read_response, rewrite_response}
use Rattle.paper.proofs.Response.{response_demand_3}
use Rattle.wire.specs.Reading.{Seen}
use Rattle.file_operation.specs.Rewriting.{Rewrote}
use Rattle.file_operation.specs.Calls.{ReadCall, RewriteCall, Demand3}
use Rattle.file_operation.specs.declared.payload.PositionPayload.{PositionPayload}
use Rattle.file_operation.proofs.Calls.{read_calls, rewrite_calls}
use Rattle.file_operation.proofs.Demand.{Keeps, calls_demand_3}
use Rattle.file_operation.proofs.Unique.{kind_back, kind-back, format_of, file_sizes_back, file-sizes-back}
use Rattle.request_file_transfer_response.specs.Reading.{meant, Placed, ResponseRight}
use Rattle.request_file_transfer_response.specs.Same.{Same}
use Rattle.request_file_transfer_response.specs.declared.read.RequestFileTransferResponse.{RequestFileTransferResponse}
use Rattle.request_file_transfer_response.proofs.read.read_response.Reads as read-response
use Rattle.request_file_transfer_response.proofs.rewrite.rewrite_response.Reads as rewrite-response

-- the calls of `read_response` and of `rewrite_response` that kept their contracts
abbrev pub ReadResponseCall : List ℕ → Seen RequestFileTransferResponse → Type 0
ReadResponseCall = ReadCall read-response.Post

abbrev pub RewriteResponseCall : List ℕ → List ℕ → Seen ℕ → List ℕ → Type 0
RewriteResponseCall = RewriteCall rewrite-response.Post

-- the position that a number stands for
abbrev pub position_of : ℕ → PositionPayload
position_of n = record { file_position = n }

-- two responses that were read mean the same on paper exactly if they say the same, field by field
to_paper : (s t : List ℕ) (q p : RequestFileTransferResponse) → Same s q t p → meant s q ≡ meant t p
to_paper s t q p e = rw (e.kind, e.block, e.format, e.size, e.position)

from_paper : (s t : List ℕ) (q p : RequestFileTransferResponse) (n m : ℕ) → Placed s q n → Placed t p m → meant s q ≡ meant t p → Same s q t p
from_paper s t q p n m h k e = record {
  kind = sym (kind-back q.kind) ∙ ap (λ (x : Response). kind_back x.kind) e ∙ kind-back p.kind;
  block = ap Response.block e;
  format = ap (λ (x : Response). format_of x.format) e;
  size =
      sym (file-sizes-back q.file_size h.halves.0 h.halves.1)
      ∙ ap (λ (x : Response). file_sizes_back x.uncompressed x.compressed) e
      ∙ file-sizes-back p.file_size k.halves.0 k.halves.1;
  position = ap (λ (x : Response). position_of x.position) e;
}

-- the calls that read and rewrite responses keep to the paper
pub responses_keep : Keeps read_response rewrite_response meant Placed ReadResponseCall RewriteResponseCall Same
responses_keep = record {
  paper = response_demand_3;
  within = λ s q n h. h.within;
  reads = read_calls ResponseRight (λ κs a r x. Iff.rfl);
  rewrites = rewrite_calls (Rewrote rewrite_response) (λ κs a r x. Iff.rfl);
  same = λ s t q p n m h k. (to_paper s t q p, from_paper s t q p n m h k);
}

-- so demand 3 holds of them
pub responses_demand_3 : Demand3 RequestFileTransferResponse ReadResponseCall RewriteResponseCall Same
responses_demand_3 = calls_demand_3 responses_keep
