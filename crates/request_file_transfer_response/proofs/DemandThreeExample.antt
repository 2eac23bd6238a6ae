-- Demand 3 of responses speaks of calls that there are: a ReadFile response of width 3 is read and rewritten to one of width 2, which is read, says the same and is rewritten to itself.
-- Assumes nothing.
use Prim.Native.Nat.{ℕ, ◌≤◌}
use mathlib.Core.Path.{◌≡◌, refl}
use mathlib.Core.List.{List, [], ◌∷◌}
use native.Mathlib.Nat.{le_refl}
use native.Mathlib.Omega.{arith}
use lib.ListN.{length}
use Rattle.paper.specs.Answer.{accepted, ◌leaving◌, ◌>>=◌, give}
use Rattle.paper.specs.Bytes.{of_bytes, to_bytes}
use Rattle.paper.specs.Sizes.{fit, first_fit, width}
use Rattle.paper.specs.Kind.{one_of, read_file, known}
use Rattle.paper.specs.Field.{part, byte, headed, counted, numbers, size_group, with_count, laid, sizes_at}
use Rattle.paper.specs.Rewriting.{rewriting}
use Rattle.paper.specs.Response.{response, read_response, response_at, response_bytes, as_read, good_block_length, write_response, rewrite_response}
use Rattle.wire.proofs.Unique.{place_of}
use Rattle.file_operation.specs.Calls.{Example}
use Rattle.file_operation.specs.declared.mode.FileOperationMode.TheVariants.{ReadFile}
use Rattle.file_operation.proofs.Demand.{example}
use Rattle.file_operation.proofs.Unique.{format_of, file_sizes_back}
use Rattle.request_file_transfer_response.specs.Reading.{Placed}
use Rattle.request_file_transfer_response.specs.Same.{Same}
use Rattle.request_file_transfer_response.specs.declared.read.RequestFileTransferResponse.{RequestFileTransferResponse}
use Rattle.request_file_transfer_response.proofs.DemandThree.{ReadResponseCall, RewriteResponseCall, responses_keep}

abbrev pub wide : List ℕ
wide = 0x04 ∷ 0x00 ∷ 0x11 ∷ 0x00 ∷ 0x03 ∷ 0x00 ∷ 0x00 ∷ 0xFF ∷ 0x00 ∷ 0x01 ∷ 0x00 ∷ []

abbrev pub narrow : List ℕ
narrow = 0x04 ∷ 0x00 ∷ 0x11 ∷ 0x00 ∷ 0x02 ∷ 0x00 ∷ 0xFF ∷ 0x01 ∷ 0x00 ∷ []

on_paper : (read_response wide ≡ accepted (response read_file [] 0x11 255 256 0 leaving [])) × (rewrite_response wide ≡ accepted (narrow leaving []))
unfolding ◌>>=◌ give of_bytes to_bytes fit first_fit width one_of known part byte headed counted numbers size_group with_count laid sizes_at
    rewriting read_response response_at response_bytes as_read good_block_length write_response rewrite_response
on_paper = (refl, refl)

-- what is read from either
abbrev both : RequestFileTransferResponse
both = record {
  kind = ReadFile;
  max_number_of_block_length = place_of 2 0;
  data_format_identifier = format_of 0x11;
  file_size = file_sizes_back 255 256;
  position = record { file_position = 0 };
}

placed : (s : List ℕ) → 2 ≤ length s → Placed s both (length s)
placed s l = record { begins = refl; ends = l; halves = (omega arith, omega arith); within = le_refl (length s) }

pub responses_example : Example RequestFileTransferResponse ReadResponseCall RewriteResponseCall Same wide narrow
responses_example =
    example responses_keep {q = both} {p = both} (record { bytes = omega arith; whole = on_paper.0 }) (placed wide (omega arith))
    (record { is = on_paper.1 }) (omega arith)
    refl (placed narrow (omega arith))
