-- The bytes of a request: the mode, the name after its count, and what its kind has after the name.
-- Assumes nothing.
use mathlib.Core.Path.{◌≡◌, refl, ap, sym, ◌∙◌}
use Prim.Native.Nat.{ℕ, ◌+◌, ◌≤◌, ◌<◌}
use mathlib.Core.List.{List, [], ◌∷◌, ◌++◌}
use native.Mathlib.Omega.{arith}
use lib.ListN.{length, length-append}
use Rattle.std.specs.Prelude.{Result, Ok, Err}
use Rattle.paper.specs.Answer.{accepted, refused, ◌then◌}
use Rattle.paper.specs.Kind.{mode_of}
use Rattle.paper.specs.Sizes.{width}
use Rattle.paper.specs.Field.{with_count}
use Rattle.paper.specs.Request.{Request, AfterName, format_and_sizes, nothing, format_only, after_name, request_sizes, write_after_name, request_at, request_bytes, good_name, write_request, IsName}
use Rattle.paper.proofs.Request.{good-name}
use Rattle.wire.specs.Refusals.{row}
use Rattle.wire.specs.Writing.{Wrote, Filled, counted_run, sizes_out}
use Rattle.wire.specs.declared.refusal.Refusal.{Refusal}
use Rattle.wire.proofs.FieldBytes.{length_counted, counted-good}
use Rattle.wire.proofs.Over.{rest, back, filled_more, filled_as}
use Rattle.wire.proofs.Writes.{refuses, writes, passed, filled}
use Rattle.file_operation.specs.Mode.{kind_of}
use Rattle.file_operation.specs.Writing.{length_in}
use Rattle.file_operation.proofs.Lengths.{same-refusal, accepted_length, refused_then, length_then}
use Rattle.file_operation.specs.declared.mode.FileOperationMode.{FileOperationMode}
use Rattle.file_operation.specs.declared.payload.SizePayload.{SizePayload}
use Rattle.request_file_transfer.specs.Writing.{request_of, rest_bytes}

-- what `good_name` says: a number, and the name is one of so many bytes
pub named : (name : List ℕ) {n : ℕ} → accepted n ≡ length_in (good_name name) → IsName name × (n ≡ length name)
named name said =
    let (x, passed, long) = accepted_length (good_name name) said in
    let (same, is) = (good-name name x).0 passed in
    (is, long ∙ ap length same)

-- ---- a request, for a format byte
module _ (kind : FileOperationMode) (name : List ℕ) (size : SizePayload) where
  -- what is to be written, and what of it stands after the name
  abbrev pub asked : ℕ → Request
  asked f = request_of kind name f size

  abbrev pub after : ℕ → List ℕ
  after f = rest_bytes (after_name (kind_of kind)) f size

  -- the paper has the same after the name
  rest-is : (f : ℕ) (h : AfterName) → write_after_name (width (request_sizes (asked f))) h (asked f) ≡ rest_bytes h f size
  unfolding sizes_out
  rest-is f format_and_sizes = refl
  rest-is f nothing = refl
  rest-is f format_only = refl

  -- the bytes, field by field
  bytes_are : (f : ℕ) → request_bytes (asked f) ≡ mode_of (kind_of kind) ∷ (with_count 2 name ++ after f)
  unfolding request_bytes request_at
  bytes_are f = rw (rest-is f (after_name (kind_of kind)))

  -- how many they are
  pub length_request : (f : ℕ) → length (request_bytes (asked f)) ≡ 3 + length name + length (after f)
  length_request f = rw (bytes_are f) (omega (arith, length-append (with_count 2 name) (after f), length_counted 2 name))

  any_format : (f : ℕ) (h : AfterName) → length (rest_bytes h f size) ≡ length (rest_bytes h 0 size)
  any_format f format_and_sizes = refl
  any_format f nothing = refl
  any_format f format_only = refl

  -- whatever the format byte, as many stand after the name
  pub as_many : (f : ℕ) → length (after f) ≡ length (after 0)
  as_many f = any_format f (after_name (kind_of kind))

  -- how many bytes the request has, or its refusal: the format byte does not tell
  pub length_is : (f : ℕ) → length_in (write_request (asked f)) ≡ (good_name name then accepted (3 + length name + length (after 0)))
  unfolding write_request
  length_is f = length_then (good_name name) (request_bytes (asked f)) (omega (arith, length_request f, as_many f))

  -- the checks passed: the message is the bytes
  pub good : (f : ℕ) → IsName name → write_request (asked f) ≡ accepted (request_bytes (asked f))
  unfolding write_request
  good f is = rw ((good-name name name).1 (refl, is))

  module _ (f : ℕ) where
    -- `good_name` refused: writing is refused alike
    pub off : {old : List ℕ} (e : Refusal) → refused (row e) ≡ length_in (good_name name) → Wrote (write_request (asked f)) old (Err e) old
    off e said = same-refusal (write_request (asked f)) (refused_then (good_name name) _ said ∙ sym (length_is f))

    -- a good name, and so many bytes
    module _ {n : ℕ} (is : IsName name) (long : n ≡ 3 + length name + length (after 0)) where
      as_long : length (request_bytes (asked f)) ≡ n
      as_long = omega (arith, length_request f, as_many f)

      module _ {old : List ℕ} where
        -- too little room
        pub no_room_lem : length old < n → Wrote (write_request (asked f)) old (Err (Refusal.NoRoom n (length old))) old
        no_room_lem h = passed (good f is) (refuses n as_long h)

        -- each field in the room that begins where the previous one ended
        pub laid_out_lem : {x y z : List ℕ} {p q : Result ℕ Refusal} {h : AfterName} → n ≤ length old → h ≡ after_name (kind_of kind)
            → Wrote (accepted (mode_of (kind_of kind) ∷ [])) old p x → Wrote (counted_run 2 65535 name) (rest 1 x) q y → Filled (rest_bytes h f size) (rest (3 + length name) (back 1 x y)) z
            → Wrote (write_request (asked f)) old (Ok n) (back (3 + length name) (back 1 x y) z)
        laid_out_lem room table first second third =
            passed (good f is)
            (writes n as_long room
            (filled_as (sym (bytes_are f))
            (filled_more (3 + length name) (filled_more 1 (filled refl first) (filled (counted-good 2 name is.short) second) refl) (rw table at third) (omega (arith, length_counted 2 name)))))
