-- When two responses say the same, field by field.
use Rattle.std.specs.Prelude.{◌≡◌, ℕ, List}
use Rattle.wire.specs.Place.{bytes_at}
use Rattle.request_file_transfer_response.specs.declared.read.RequestFileTransferResponse.{RequestFileTransferResponse}

-- q, read from s, and p, read from t: the block lengths are the same bytes, wherever they stand
pub record Same (s : List ℕ) (q : RequestFileTransferResponse) (t : List ℕ) (p : RequestFileTransferResponse) : Type 0 where
  pub kind : q.kind ≡ p.kind
  pub block : bytes_at s q.max_number_of_block_length ≡ bytes_at t p.max_number_of_block_length
  pub format : q.data_format_identifier ≡ p.data_format_identifier
  pub size : q.file_size ≡ p.file_size
  pub position : q.position ≡ p.position
