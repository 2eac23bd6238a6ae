-- Demand 3 of requests speaks of calls that there are: the bench's row of width 3 is read and rewritten to the row above it, which is read, says the same and is rewritten to itself.
-- Assumes nothing.
use Prim.Native.Nat.{ℕ, ◌≤◌}
use mathlib.Core.Path.{refl, ◌∙◌}
use mathlib.Core.List.{List, [], ◌∷◌}
use native.Mathlib.Nat.{le_refl}
use native.Mathlib.Omega.{arith}
use lib.ListN.{length}
use Rattle.paper.proofs.Bench.{bench_right}
use Rattle.wire.proofs.Unique.{place_of}
use Rattle.file_operation.specs.Calls.{Example}
use Rattle.file_operation.specs.declared.mode.FileOperationMode.TheVariants.{AddFile}
use Rattle.file_operation.proofs.Demand.{example}
use Rattle.file_operation.proofs.Unique.{format_of, sizes_back}
use Rattle.request_file_transfer.specs.Reading.{Placed}
use Rattle.request_file_transfer.specs.Same.{Same}
use Rattle.request_file_transfer.specs.declared.read.RequestFileTransferRequest.{RequestFileTransferRequest}
use Rattle.request_file_transfer.proofs.DemandThree.{ReadRequestCall, RewriteRequestCall, requests-keep}

abbrev pub wide : List ℕ
wide = 0x01 ∷ 0x00 ∷ 0x01 ∷ 0x61 ∷ 0x11 ∷ 0x03 ∷ 0x00 ∷ 0x00 ∷ 0xFF ∷ 0x00 ∷ 0x01 ∷ 0x00 ∷ []

abbrev pub narrow : List ℕ
narrow = 0x01 ∷ 0x00 ∷ 0x01 ∷ 0x61 ∷ 0x11 ∷ 0x02 ∷ 0x00 ∷ 0xFF ∷ 0x01 ∷ 0x00 ∷ []

-- what is read from either
abbrev both : RequestFileTransferRequest
both = record { file_path_and_name = place_of 3 1; size = sizes_back 255 256; kind = AddFile; data_format_identifier = format_of 0x11 }

placed : (s : List ℕ) → 4 ≤ length s → Placed s both (length s)
placed s l = record { begins = refl; ends = l; halves = (omega arith, omega arith); within = le_refl (length s) }

pub requests_example : Example RequestFileTransferRequest ReadRequestCall RewriteRequestCall Same wide narrow
requests_example =
    let (_, (third, (fourth, _))) = bench_right.1 in
    example requests-keep {q = both} {p = both} (record { bytes = omega arith; whole = fourth.0 ∙ third }) (placed wide (omega arith))
    (record { is = fourth.1 }) (omega arith)
    refl (placed narrow (omega arith))
