-- Responses by the row of their kind: the message, how many bytes it has, and what the answer about that number says of it.
-- Assumes nothing.
use mathlib.Core.Path.{◌≡◌, refl, sym, ap, ◌∙◌}
use Prim.Native.Nat.{ℕ, ◌+◌, ◌≤◌, ◌<◌}
use mathlib.Core.List.{List, [], ◌∷◌, ◌++◌, append_assoc}
use native.Mathlib.Omega.{arith}
use lib.ListN.{length, length-append}
use Rattle.std.specs.Prelude.{Result, Ok, Err}
use Rattle.paper.specs.Answer.{Answer, accepted, refused, ◌then◌}
use Rattle.paper.specs.Kind.{mode_of}
use Rattle.paper.specs.Field.{with_count}
use Rattle.paper.specs.Response.{AfterFormat, nothing, two_sizes, one_size, one_position, AfterMode, ended, block_and_format, after_mode, as_read, response_at, response_bytes, good_block_length, write_response}
use Rattle.paper.proofs.Bytes.{length_to_bytes}
use Rattle.paper.proofs.Response.{good-block-length}
use Rattle.wire.specs.Refusals.{row}
use Rattle.wire.specs.Writing.{Wrote, Filled, counted_run, sizes_out}
use Rattle.wire.specs.declared.refusal.Refusal.{Refusal}
use Rattle.wire.proofs.Over.{rest, back, filled_more, filled_as}
use Rattle.wire.proofs.Writes.{writes, passed, filled}
use Rattle.wire.proofs.FieldBytes.{counted-good, length_counted}
use Rattle.file_operation.specs.Mode.{kind_of}
use Rattle.file_operation.specs.Writing.{length_in}
use Rattle.file_operation.proofs.Lengths.{same-refusal, same_number, accepted_length, length_then, accepted_then}
use Rattle.file_operation.specs.declared.mode.FileOperationMode.{FileOperationMode}
use Rattle.file_operation.specs.declared.mode.FileOperationMode.TheVariants.{AddFile, DeleteFile, ReplaceFile, ReadFile, ReadDir, ResumeFile}
use Rattle.file_operation.specs.declared.payload.FileSizePayload.{FileSizePayload}
use Rattle.request_file_transfer_response.specs.Writing.{response_of, more_bytes}

-- the message of a row
abbrev pub laid_out : AfterMode → ℕ → List ℕ → ℕ → FileSizePayload → ℕ → Answer (List ℕ)
laid_out ended mode b f x p = accepted (mode ∷ [])
laid_out (block_and_format h) mode b f x p = good_block_length b then accepted (mode ∷ (with_count 1 b ++ (f ∷ more_bytes h x p)))

-- a response is the message of its kind's row
pub by_row : (kind : FileOperationMode) (b : List ℕ) (f : ℕ) (x : FileSizePayload) (p : ℕ)
    → write_response (response_of kind b f x p) ≡ laid_out (after_mode (kind_of kind)) (mode_of (kind_of kind)) b f x p
unfolding write_response good_block_length as_read response_bytes response_at sizes_out
by_row AddFile b f x p = refl
by_row DeleteFile b f x p = refl
by_row ReplaceFile b f x p = refl
by_row ReadFile b f x p = refl
by_row ReadDir b f x p = refl
by_row ResumeFile b f x p = refl

-- how many bytes the message of a row has, or its refusal: neither the format byte nor the position tells
abbrev pub length_at : AfterMode → List ℕ → FileSizePayload → Answer ℕ
length_at ended b x = accepted 1
length_at (block_and_format h) b x = good_block_length b then accepted (3 + length b + length (more_bytes h x 0))

-- what stands after the format byte is as long at every position
length_more : (h : AfterFormat) (x : FileSizePayload) (p : ℕ) → length (more_bytes h x p) ≡ length (more_bytes h x 0)
length_more nothing x p = refl
length_more two_sizes x p = refl
length_more one_size x p = refl
length_more one_position x p = length_to_bytes 8 p ∙ sym (length_to_bytes 8 0)

-- the length of a row's message
length_row : (h : AfterMode) (mode : ℕ) (b : List ℕ) (f : ℕ) (x : FileSizePayload) (p : ℕ) → length_in (laid_out h mode b f x p) ≡ length_at h b x
length_row ended mode b f x p = refl
length_row (block_and_format h) mode b f x p =
    length_then (good_block_length b) _ (omega (arith, length-append (with_count 1 b) (f ∷ more_bytes h x p), length_counted 1 b, length_more h x p))

-- how many bytes a response has
pub length-by-row : (kind : FileOperationMode) (b : List ℕ) (f : ℕ) (x : FileSizePayload) (p : ℕ) → length_in (write_response (response_of kind b f x p)) ≡ length_at (after_mode (kind_of kind)) b x
length-by-row kind b f x p = ap length_in (by_row kind b f x p) ∙ length_row (after_mode (kind_of kind)) (mode_of (kind_of kind)) b f x p

-- what `good_block_length` says: a number, and the block length has so many bytes, no more than 255
pub short : (b : List ℕ) {n : ℕ} → accepted n ≡ length_in (good_block_length b) → (length b ≤ 255) × (n ≡ length b)
short b said =
    let (x, passed, long) = accepted_length (good_block_length b) said in
    let (same, is) = (good-block-length b x).0 passed in
    (is, long ∙ ap length same)

-- ---- what the answer about a response's length says of the response
module _ (kind : FileOperationMode) (b : List ℕ) (x : FileSizePayload) where
  -- the response whose length `needed` answers
  abbrev pub bare : Answer (List ℕ)
  bare = write_response (response_of kind b 0 x 0)

  module _ {n : ℕ} (said : accepted n ≡ length_in bare) {h : AfterFormat} (listed : block_and_format h ≡ after_mode (kind_of kind)) where
    -- a number says that the block length is short enough, and counts all fields, where the kind has them
    counts : (length b ≤ 255) × (n ≡ 3 + length b + length (more_bytes h x 0))
    counts =
        let (y, passed, long) = accepted_then (good_block_length b) (3 + length b + length (more_bytes h x 0)) (said ∙ length-by-row kind b 0 x 0 ∙ rw (← listed)) in
        (((good-block-length b y).0 passed).1, long)

    -- so there is room up to the format byte
    pub block_room : 3 + length b ≤ n
    block_room = omega (arith, counts.1)

  module _ (f p : ℕ) where
    -- the response
    abbrev pub whole : Answer (List ℕ)
    whole = write_response (response_of kind b f x p)

    -- it is as long as that one, or refused alike
    as_long : length_in bare ≡ length_in whole
    as_long = length-by-row kind b 0 x 0 ∙ sym (length-by-row kind b f x p)

    module _ {old : List ℕ} where
      -- a refusal of `needed` is the response's
      pub too_long_lem : (e : Refusal) → refused (row e) ≡ length_in bare → Wrote whole old (Err e) old
      too_long_lem e said = same-refusal whole (said ∙ as_long)

      module _ {n : ℕ} (said : accepted n ≡ length_in bare) where
        -- too little room
        pub no_room_lem : length old < n → Wrote whole old (Err (Refusal.NoRoom n (length old))) old
        no_room_lem h = same_number whole (said ∙ as_long) h

        -- room for the bytes that the response consists of
        written_out : {bytes new : List ℕ} → whole ≡ accepted bytes → n ≤ length old → Filled bytes old new → Wrote whole old (Ok n) new
        written_out is room new = passed is (writes _ (cc (said, as_long, ap length_in is)) room new)

        -- the mode, where the kind has nothing else
        pub mode_alone : {r : Result ℕ Refusal} {new : List ℕ} → ended ≡ after_mode (kind_of kind) → n ≤ length old
            → Wrote (accepted (mode_of (kind_of kind) ∷ [])) old r new → Wrote whole old (Ok n) new
        mode_alone listed room first = written_out (by_row kind b f x p ∙ rw (← listed)) room (filled refl first)

        -- else each field, in the room that begins where the previous one ended
        pub each-field : {r s t : Result ℕ Refusal} {u v w z : List ℕ} {h : AfterFormat} → block_and_format h ≡ after_mode (kind_of kind) → n ≤ length old
            → Wrote (accepted (mode_of (kind_of kind) ∷ [])) old r u
            → Wrote (counted_run 1 255 b) (rest 1 u) s v
            → Wrote (accepted (f ∷ [])) (rest (2 + length b) (back 1 u v)) t w
            → Filled (more_bytes h x p) (rest (2 + length b + 1) (back (2 + length b) (back 1 u v) w)) z
            → Wrote whole old (Ok n) (back (2 + length b + 1) (back (2 + length b) (back 1 u v) w) z)
        each-field {h = h} listed room first second third fourth =
            let ok = (counts said listed).0 in
            written_out (by_row kind b f x p ∙ rw (← listed, (good-block-length b b).1 (refl, ok))) room
            (filled_as (append_assoc (mode_of (kind_of kind) ∷ with_count 1 b) (f ∷ []) (more_bytes h x p))
            (filled_more _
            (filled_more _ (filled_more 1 (filled refl first) (filled (counted-good 1 b ok) second) refl) (filled refl third) (omega (arith, length_counted 1 b)))
            fourth (omega (arith, length-append (with_count 1 b) (f ∷ []), length_counted 1 b))))
