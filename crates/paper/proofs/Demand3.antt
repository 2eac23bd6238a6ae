-- Demand 3 on the width-3 case of the bench: what it says of one message and of every other that means the same.
-- Assumes nothing.
use mathlib.Core.Path.{◌≡◌, refl}
use Prim.Native.Nat.{ℕ, ◌≤◌}
use mathlib.Core.List.{List, [], ◌∷◌}
use mathlib.Core.Logic.{◌↔◌}
use native.Mathlib.Omega.{arith}
use lib.ListN.{length}
use Rattle.paper.specs.Answer.{◌>>=◌, give, refuse}
use Rattle.paper.specs.Bytes.{of_bytes, to_bytes}
use Rattle.paper.specs.Utf8.{in_range, begins, first_row, char_length, valid_from, valid_up_to, is_utf8}
use Rattle.paper.specs.Sizes.{fit, first_fit, width}
use Rattle.paper.specs.Kind.{one_of, add_file, known}
use Rattle.paper.specs.Field.{part, byte, headed, counted, name, numbers, size_group, with_count, laid, sizes_at}
use Rattle.paper.specs.Rewriting.{Message, rewriting, Rewritten}
use Rattle.paper.specs.Request.{Request, request, read_request, request_at, request_bytes, good_name, write_request, rewrite_request}
use Rattle.paper.proofs.Request.{request_demand_3}

-- AddFile, name 61, sizes 255 and 256: at width 3, and as it is rewritten
abbrev meaning : Request
meaning = request add_file (0x61 ∷ []) 0x11 255 256

abbrev wide : List ℕ
wide = 0x01 ∷ 0x00 ∷ 0x01 ∷ 0x61 ∷ 0x11 ∷ 0x03 ∷ 0x00 ∷ 0x00 ∷ 0xFF ∷ 0x00 ∷ 0x01 ∷ 0x00 ∷ []

abbrev normal : List ℕ
normal = 0x01 ∷ 0x00 ∷ 0x01 ∷ 0x61 ∷ 0x11 ∷ 0x02 ∷ 0x00 ∷ 0xFF ∷ 0x01 ∷ 0x00 ∷ []

-- by computing
wide_means : Message Request read_request wide meaning
unfolding ◌>>=◌ give refuse of_bytes in_range begins first_row char_length valid_from valid_up_to is_utf8 one_of known part byte headed counted name numbers size_group read_request
wide_means = record { bytes = omega arith; whole = refl }

wide_rewritten : Rewritten rewrite_request wide normal
unfolding ◌>>=◌ give refuse of_bytes to_bytes in_range begins first_row char_length valid_from valid_up_to is_utf8 fit first_fit width one_of known part byte headed counted name numbers size_group with_count laid sizes_at rewriting read_request request_at request_bytes good_name write_request rewrite_request
wide_rewritten = record { is = refl }

-- by demand 3: the rewritten message means the same, and rewriting it changes nothing
normal_kept : Message Request read_request normal meaning × Rewritten rewrite_request normal normal
normal_kept = (request_demand_3.kept wide_means wide_rewritten, request_demand_3.settled wide_means wide_rewritten)

-- any other message can be rewritten, to the same bytes exactly if it means the same
others : (t : List ℕ) (m : Request) → Message Request read_request t m → (u : List ℕ) × Rewritten rewrite_request t u × ((m ≡ meaning) ↔ (u ≡ normal))
others t m means = let (u, rewritten) = request_demand_3.always means in (u, rewritten, request_demand_3.same means wide_means rewritten wide_rewritten)

-- if it means the same, it has ten bytes or more, and with ten it is the rewritten message
shortest : (t : List ℕ) → Message Request read_request t meaning → (10 ≤ length t) × (length t ≡ 10 → t ≡ normal)
shortest t means = (request_demand_3.shortest wide_means wide_rewritten means, request_demand_3.no_other wide_means wide_rewritten means)
