-- The response that is handed over to be written.
use Rattle.std.specs.Prelude.{ℕ, List, [], ◌∷◌}
use Rattle.paper.specs.Bytes.{to_bytes}
use Rattle.paper.specs.Response.{Response, response, AfterFormat, nothing, two_sizes, one_size, one_position}
use Rattle.wire.specs.Size.{value}
use Rattle.wire.specs.Writing.{sizes_out}
use Rattle.file_operation.specs.Mode.{kind_of}
use Rattle.file_operation.specs.declared.mode.FileOperationMode.{FileOperationMode}
use Rattle.file_operation.specs.declared.payload.FileSizePayload.{FileSizePayload}

abbrev pub response_of : FileOperationMode → List ℕ → ℕ → FileSizePayload → ℕ → Response
response_of kind b f x p = response (kind_of kind) b f (value x.file_size_uncompressed) (value x.file_size_compressed) p

-- what stands after the format byte, the sizes at their smallest width
abbrev pub more_bytes : AfterFormat → FileSizePayload → ℕ → List ℕ
more_bytes nothing x p = []
more_bytes two_sizes x p = sizes_out 2 (value x.file_size_uncompressed ∷ value x.file_size_compressed ∷ [])
more_bytes one_size x p = sizes_out 2 (value x.file_size_uncompressed ∷ [])
more_bytes one_position x p = to_bytes 8 p
