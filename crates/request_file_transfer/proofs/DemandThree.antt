-- Demand 3 of the calls of this crate: what `read_request` and `rewrite_request` promise of requests, taken together.
-- Assumes nothing.
use Prim.Native.Nat.{ℕ}
use mathlib.Core.Path.{◌≡◌, sym, ap, ◌∙◌}
use mathlib.Core.List.{List}
use mathlib.Core.Logic.Iff
use Rattle.paper.specs.Request.{Request, read_request, rewrite_request}
use Rattle.paper.proofs.Request.{request_demand_3}
use Rattle.wire.specs.Reading.{Seen}
use Rattle.file_operation.specs.Rewriting.{Rewrote}
use Rattle.file_operation.specs.Calls.{ReadCall, RewriteCall, Demand3}
use Rattle.file_operation.proofs.Calls.{read_calls, rewrite_calls}
use Rattle.file_operation.proofs.Demand.{Keeps, calls_demand_3}
use Rattle.file_operation.proofs.Unique.{kind_back, kind-back, format_of, sizes_back, sizes-back}
use Rattle.request_file_transfer.specs.Reading.{meant, Placed, RequestRight}
use Rattle.request_file_transfer.specs.Same.{Same}
use Rattle.request_file_transfer.specs.declared.read.RequestFileTransferRequest.{RequestFileTransferRequest}
use Rattle.request_file_transfer.proofs.read.read_request.Reads as read-request
use Rattle.request_file_transfer.proofs.rewrite.rewrite_request.Reads as rewrite-request

-- the calls of `read_request` and of `rewrite_request` that kept their contracts
abbrev pub ReadRequestCall : List ℕ → Seen RequestFileTransferRequest → Type 0
ReadRequestCall = ReadCall read-request.Post

abbrev pub RewriteRequestCall : List ℕ → List ℕ → Seen ℕ → List ℕ → Type 0
RewriteRequestCall = RewriteCall rewrite-request.Post

-- two requests that were read mean the same on paper exactly if they say the same, field by field
to_paper : (s t : List ℕ) (q p : RequestFileTransferRequest) → Same s q t p → meant s q ≡ meant t p
to_paper s t q p e = rw (e.kind, e.name, e.format, e.size)

from_paper : (s t : List ℕ) (q p : RequestFileTransferRequest) (n m : ℕ) → Placed s q n → Placed t p m → meant s q ≡ meant t p → Same s q t p
from_paper s t q p n m h k e = record {
  kind = sym (kind-back q.kind) ∙ ap (λ (x : Request). kind_back x.kind) e ∙ kind-back p.kind;
  name = ap Request.name e;
  format = ap (λ (x : Request). format_of x.format) e;
  size =
      sym (sizes-back q.size h.halves.0 h.halves.1) ∙ ap (λ (x : Request). sizes_back x.uncompressed x.compressed) e
      ∙ sizes-back p.size k.halves.0 k.halves.1;
}

-- the calls that read and rewrite requests keep to the paper
pub requests-keep : Keeps read_request rewrite_request meant Placed ReadRequestCall RewriteRequestCall Same
requests-keep = record {
  paper = request_demand_3;
  within = λ s q n h. h.within;
  reads = read_calls RequestRight (λ κs a r x. Iff.rfl);
  rewrites = rewrite_calls (Rewrote rewrite_request) (λ κs a r x. Iff.rfl);
  same = λ s t q p n m h k. (to_paper s t q p, from_paper s t q p n m h k);
}

-- so demand 3 holds of them
pub requests_demand_3 : Demand3 RequestFileTransferRequest ReadRequestCall RewriteRequestCall Same
requests_demand_3 = calls_demand_3 requests-keep
