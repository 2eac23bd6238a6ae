-- The record of an answer that is right is that of the paper's.
-- Assumes nothing.
use Prim.Native.Nat.{ℕ, ◌^◌, ◌≤◌, ◌<◌}
use mathlib.Core.Path.{◌≡◌, sym, ap, ap₂, ◌∙◌}
use mathlib.Core.List.{List, [], ◌∷◌}
use native.Mathlib.Omega.{arith}
use lib.ListN.{length, drop}
use lib.Arith.{digits_div, digits_mod}
use Rattle.std.specs.Prelude.{Ok, Err}
use Rattle.paper.specs.Answer.{accepted, ◌leaving◌, Reader}
use Rattle.paper.specs.Field.{number, size_group}
use Rattle.wire.specs.Refusals.{row}
use Rattle.wire.specs.Size.{value}
use Rattle.wire.specs.Reading.{Seen, Right}
use Rattle.wire.specs.Place.{bytes_at, CountedPlace}
use Rattle.wire.specs.Group.{OneSizeRight, TwoSizesRight}
use Rattle.wire.specs.Number.{EightRight}
use Rattle.wire.specs.declared.place.Place.{Place}
use Rattle.wire.specs.declared.size.Size.{Size}
use Rattle.wire.specs.declared.group.TwoSizes.{TwoSizes}
use Rattle.wire.proofs.Unique.{tail_back, place_back}
use Rattle.station.specs.Flat.{RecordOf}
use Rattle.parts.specs.Records.{refused_part, part_record, refused_sizes, sizes_record, refused_position, position_record}
use Rattle.parts.specs.Flat.{accepted_part, accepted_sizes, accepted_size, accepted_position}
use Rattle.parts.specs.declared.records.PartRecord.{PartRecord}
use Rattle.parts.specs.declared.records.SizesRecord.{SizesRecord}
use Rattle.parts.specs.declared.records.PositionRecord.{PositionRecord}

-- a name or a block length, after a count in k bytes
pub part_flat : {field : Reader (List ℕ)} (k : ℕ) (s : List ℕ) (a : Seen Place) {r : PartRecord} → Right Place (List ℕ) (bytes_at s) field (CountedPlace k s 0) s 0 a
    → RecordOf (λ x r. r ≡ accepted_part x.0 x.1) (λ e r. r ≡ refused_part (row e)) a r → r ≡ part_record k (length s) (field s)
part_flat k s (Ok (p, tail)) right is =
    let begins : p.start ≡ k = omega (arith, right.place.0) in
    let place = place_back s p begins (omega (arith, right.place.1, right.place.2)) in
    is ∙ sym (ap₂ accepted_part place (tail_back s tail right.place.2)) ∙ ap (part_record k (length s)) right.paper
part_flat k s (Err e) right is = is ∙ ap (part_record k (length s)) right.paper

-- sizes, whose low halves are halves
sizes_flat : (s : List ℕ) (x y : Size) (tail : ℕ) → x.low < 2 ^ 64 → y.low < 2 ^ 64 → tail ≤ length s
    → accepted_sizes x y tail ≡ sizes_record (length s) (accepted ((value x ∷ value y ∷ []) leaving drop tail s))
sizes_flat s x y tail hx hy within = rw (digits_div x.high hx, digits_mod x.high hx, digits_div y.high hy, digits_mod y.high hy, tail_back s tail within)

-- two of them, after a width in k bytes
pub two_sizes_flat : (k : ℕ) (s : List ℕ) (a : Seen TwoSizes) {r : SizesRecord} → TwoSizesRight k s 0 a
    → RecordOf (λ x r. r ≡ accepted_sizes x.0.uncompressed x.0.compressed x.1) (λ e r. r ≡ refused_sizes (row e)) a r → r ≡ sizes_record (length s) (size_group k 2 s)
two_sizes_flat k s (Ok (two, tail)) right is =
    is ∙ sizes_flat s two.uncompressed two.compressed tail right.place.0 right.place.1 right.place.2 ∙ ap (sizes_record (length s)) right.paper
two_sizes_flat k s (Err e) right is = is ∙ ap (sizes_record (length s)) right.paper

-- one of them: the second is 0
pub one_size_flat : (k : ℕ) (s : List ℕ) (a : Seen Size) {r : SizesRecord} → OneSizeRight k s 0 a
    → RecordOf (λ x r. r ≡ accepted_size x.0 x.1) (λ e r. r ≡ refused_sizes (row e)) a r → r ≡ sizes_record (length s) (size_group k 1 s)
one_size_flat k s (Ok (x, tail)) right is =
    is ∙ sizes_flat s x (record { high = 0; low = 0 }) tail right.place.0 (omega arith) right.place.1 ∙ ap (sizes_record (length s)) right.paper
one_size_flat k s (Err e) right is = is ∙ ap (sizes_record (length s)) right.paper

-- a position
pub position_flat : (s : List ℕ) (a : Seen ℕ) {r : PositionRecord} → EightRight s 0 a
    → RecordOf (λ x r. r ≡ accepted_position x.0 x.1) (λ e r. r ≡ refused_position (row e)) a r → r ≡ position_record (length s) (number 8 s)
position_flat s (Ok (p, tail)) right is = is ∙ sym (ap (accepted_position p) (tail_back s tail right.place.1)) ∙ ap (position_record (length s)) right.paper
position_flat s (Err e) right is = is ∙ ap (position_record (length s)) right.paper
