-- A part of a slice as `IsPart` says it, from a part as the borrow checker gives it.
-- Assumes nothing.
use mathlib.Core.Path.{◌≡◌, sym, ap, ◌∙◌}
use Prim.Native.Nat.{ℕ, ◌+◌, ◌-◌, ◌≤◌}
use native.Mathlib.Nat.{add-sub_cancel_left}
use native.Mathlib.Omega.{arith}
use mathlib.Core.List.{List}
use lib.ListN.{length, take, drop, length-drop, drop_of_length-le}
use lib.Seq.{length-take-le, take_all, take-nil, drop-length}
use denote.Ref.{Bor}

-- what `IsPart x start len r` says of an r with this pointer and these bytes
abbrev Said : Bor (List ℕ) → ℕ → ℕ → ℕ × ℕ → List ℕ → Type 0
Said x start len at bytes = (at ≡ (x.ref_ptr.0, x.ref_ptr.1 + length (take start x.now))) × (bytes ≡ take len (drop start x.now))

module _ (x : Bor (List ℕ)) (start len : ℕ) where
  -- where it begins: start bytes on, where x has so many
  begins : start ≤ length x.now → start + x.ref_ptr.1 ≡ x.ref_ptr.1 + length (take start x.now)
  begins h = omega (arith, length-take-le start x.now h)

  begins_past : length x.now ≤ start → length x.now + x.ref_ptr.1 ≡ x.ref_ptr.1 + length (take start x.now)
  begins_past h = omega (arith, ap length (take_all start x.now h))

  pointer : {i j : ℕ} → i ≡ j → ◌≡◌ {A = ℕ × ℕ} (x.ref_ptr.0, i) (x.ref_ptr.0, j)
  pointer e = ap (λ (o : ℕ). (x.ref_ptr.0, o)) e

  -- `&x[start..start + len]`
  pub part-within : start ≤ length x.now → Said x start len (x.ref_ptr.0, start + x.ref_ptr.1) (take (start + len - start) (drop start x.now))
  part-within h = (pointer (begins h), rw add-sub_cancel_left)

  -- `&x[start..]`, where no more than len bytes follow
  pub part_to_end : start ≤ length x.now → length x.now - start ≤ len
      → Said x start len (x.ref_ptr.0, start + x.ref_ptr.1) (take (length x.now - start) (drop start x.now))
  part_to_end h k =
      let rest : length (drop start x.now) ≡ length x.now - start = length-drop start x.now in
      (pointer (begins h), take_all (length x.now - start) (drop start x.now) (omega arith) ∙ sym (take_all len (drop start x.now) (omega arith)))

  -- `&x[x.len()..]`, where x ends before start
  pub part_past : length x.now ≤ start
      → Said x start len (x.ref_ptr.0, length x.now + x.ref_ptr.1) (take (length x.now - length x.now) (drop (length x.now) x.now))
  part_past h =
      (pointer (begins_past h), rw (drop-length x.now, drop_of_length-le x.now h, take-nil len) (take-nil (length x.now - length x.now)))
