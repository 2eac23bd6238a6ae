-- What C hands over of messages to be written: a byte that is no kind or no sub-function is refused before anything else.
use Rattle.std.specs.Prelude.{ℕ, ◌+◌, ◌*◌, ◌^◌, Bool, List}
use Rattle.paper.specs.Answer.{Answer, accepted, refused}
use Rattle.paper.specs.Kind.{Kind, known}
use Rattle.paper.specs.Request.{request, write_request}
use Rattle.paper.specs.Response.{response, write_response}
use Rattle.paper.specs.RoutineControl.{SubFunction, known_sub, write_routine_request, write_routine_response}
use Rattle.file_operation.specs.declared.payload.SizePayload.{SizePayload}
use Rattle.file_operation.specs.declared.payload.FileSizePayload.{FileSizePayload}
use Rattle.routine_control.specs.Request.{routine_request}
use Rattle.routine_control.specs.Response.{routine_response}

-- what is written of a value that is known, else the refusal
abbrev pub where_known : {A : Type 0} → Answer A → (A → Answer (List ℕ)) → Answer (List ℕ)
where_known (accepted a) message = message a
where_known (refused e) message = refused e

-- the number that two halves hold
abbrev pub halves : ℕ → ℕ → ℕ
halves high low = high * 2 ^ 64 + low

-- ---- each size is handed over in two halves
abbrev pub request_sizes : (uncompressedHigh uncompressedLow compressedHigh compressedLow : ℕ) → SizePayload
request_sizes xh xl yh yl = record { file_size_uncompressed = record { high = xh; low = xl }; file_size_compressed = record { high = yh; low = yl } }

abbrev pub response_sizes : (uncompressedHigh uncompressedLow compressedHigh compressedLow : ℕ) → FileSizePayload
response_sizes xh xl yh yl = record { file_size_uncompressed = record { high = xh; low = xl }; file_size_compressed = record { high = yh; low = yl } }

unfoldable pub request_handed : (kind : ℕ) (name : List ℕ) (format uncompressedHigh uncompressedLow compressedHigh compressedLow : ℕ) → Answer (List ℕ)
request_handed kind name f xh xl yh yl = where_known (known kind) (λ (k : Kind). write_request (request k name f (halves xh xl) (halves yh yl)))

unfoldable pub response_handed : (kind : ℕ) (block : List ℕ) (format uncompressedHigh uncompressedLow compressedHigh compressedLow position : ℕ) → Answer (List ℕ)
response_handed kind block f xh xl yh yl p = where_known (known kind) (λ (k : Kind). write_response (response k block f (halves xh xl) (halves yh yl) p))

unfoldable pub routine_request_handed : Bool → ℕ → ℕ → List ℕ → Answer (List ℕ)
routine_request_handed suppress sub identifier r = where_known (known_sub sub) (λ (f : SubFunction). write_routine_request (routine_request suppress f identifier r))

unfoldable pub routine_response_handed : ℕ → ℕ → List ℕ → Answer (List ℕ)
routine_response_handed sub identifier r = where_known (known_sub sub) (λ (f : SubFunction). write_routine_response (routine_response f identifier r))
