-- The request that is handed over to be written.
use Rattle.std.specs.Prelude.{ℕ, List, [], ◌∷◌}
use Rattle.paper.specs.Request.{Request, request, AfterName, format_and_sizes, nothing, format_only}
use Rattle.wire.specs.Size.{value}
use Rattle.wire.specs.Writing.{sizes_out}
use Rattle.file_operation.specs.Mode.{kind_of}
use Rattle.file_operation.specs.declared.mode.FileOperationMode.{FileOperationMode}
use Rattle.file_operation.specs.declared.payload.SizePayload.{SizePayload}

abbrev pub request_of : FileOperationMode → List ℕ → ℕ → SizePayload → Request
request_of kind n f x = request (kind_of kind) n f (value x.file_size_uncompressed) (value x.file_size_compressed)

-- what stands after the name, the sizes at their smallest width
abbrev pub rest_bytes : AfterName → ℕ → SizePayload → List ℕ
rest_bytes format_and_sizes f x = f ∷ sizes_out 1 (value x.file_size_uncompressed ∷ value x.file_size_compressed ∷ [])
rest_bytes nothing f x = []
rest_bytes format_only f x = f ∷ []
