-- When two requests say the same, field by field.
use Rattle.std.specs.Prelude.{◌≡◌, ℕ, List}
use Rattle.wire.specs.Place.{bytes_at}
use Rattle.request_file_transfer.specs.declared.read.RequestFileTransferRequest.{RequestFileTransferRequest}

-- q, read from s, and p, read from t: the names are the same bytes, wherever they stand
pub record Same (s : List ℕ) (q : RequestFileTransferRequest) (t : List ℕ) (p : RequestFileTransferRequest) : Type 0 where
  pub kind : q.kind ≡ p.kind
  pub name : bytes_at s q.file_path_and_name ≡ bytes_at t p.file_path_and_name
  pub format : q.data_format_identifier ≡ p.data_format_identifier
  pub size : q.size ≡ p.size
