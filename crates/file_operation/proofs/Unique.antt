-- No second answer meets the contract of a function of this crate; and what the crates above cite for that: kinds, formats and sizes come back from the paper's.
-- Assumes nothing.
use Prim.Native.Nat.{ℕ, ◌^◌, ◌<◌}
use mathlib.Core.Path.{◌≡◌, refl, sym, ap, ap₂, ◌∙◌}
use mathlib.Core.List.{List}
use native.Mathlib.Nat.{div-add-mod'}
use contract.Lifetimes.{Lfts}
use denote.Ref.{Bor}
use denote.Triple.Clauses.{AtExit}
use borrow.Fn.Kinds.{Dens, ended_of}
use Rattle.std.specs.Prelude.{Result, Ok, Err}
use Rattle.paper.specs.Answer.{Answer, accepted, refused}
use Rattle.paper.specs.Kind.{Kind, add_file, delete_file, replace_file, read_file, read_dir, resume_file}
use Rattle.wire.specs.Size.{value}
use Rattle.wire.specs.declared.place.Place.{Place}
use Rattle.wire.specs.declared.refusal.Refusal.{Refusal}
use Rattle.wire.specs.declared.size.Size.{Size}
use Rattle.wire.proofs.Halves.{size_of, size_back}
use Rattle.wire.proofs.Refusals.{refusal_back, refusal-back}
use Rattle.wire.proofs.Unique.{Determined}
use Rattle.wire.proofs.UniqueHeld.{Alike, alike}
use Rattle.file_operation.specs.Mode.{kind_of, mode_said}
use Rattle.file_operation.specs.Part.{part_said}
use Rattle.file_operation.specs.declared.mode.FileOperationMode.{FileOperationMode}
use Rattle.file_operation.specs.declared.mode.FileOperationMode.TheVariants.{AddFile, DeleteFile, ReplaceFile, ReadFile, ReadDir, ResumeFile}
use Rattle.file_operation.specs.declared.payload.DataFormatIdentifier.{DataFormatIdentifier}
use Rattle.file_operation.specs.declared.payload.SizePayload.{SizePayload}
use Rattle.file_operation.specs.declared.payload.FileSizePayload.{FileSizePayload}
use Rattle.file_operation.proofs.mode.FileOperationModeTryFromU8.try_from.Kinds as mode-try-from-kinds
use Rattle.file_operation.proofs.mode.FileOperationModeTryFromU8.try_from.Reads as mode-try-from
use Rattle.file_operation.proofs.mode.U8FromFileOperationMode.from.Kinds as byte-of-mode-kinds
use Rattle.file_operation.proofs.mode.U8FromFileOperationMode.from.Reads as byte-of-mode
use Rattle.file_operation.proofs.mode.FileOperationMode.from_byte.Kinds as mode-from-byte-kinds
use Rattle.file_operation.proofs.mode.FileOperationMode.from_byte.Reads as mode-from-byte
use Rattle.file_operation.proofs.mode.FileOperationMode.value.Kinds as mode-value-kinds
use Rattle.file_operation.proofs.mode.FileOperationMode.value.Reads as mode-value
use Rattle.file_operation.proofs.payload.DataFormatIdentifierFromU8.from.Kinds as format-from-kinds
use Rattle.file_operation.proofs.payload.DataFormatIdentifierFromU8.from.Reads as format-from
use Rattle.file_operation.proofs.payload.U8FromDataFormatIdentifier.from.Kinds as byte-of-format-kinds
use Rattle.file_operation.proofs.payload.U8FromDataFormatIdentifier.from.Reads as byte-of-format
use Rattle.file_operation.proofs.payload.DataFormatIdentifier.from_byte.Kinds as format-from-byte-kinds
use Rattle.file_operation.proofs.payload.DataFormatIdentifier.from_byte.Reads as format-from-byte
use Rattle.file_operation.proofs.payload.DataFormatIdentifier.value.Kinds as format-value-kinds
use Rattle.file_operation.proofs.payload.DataFormatIdentifier.value.Reads as format-value
use Rattle.file_operation.proofs.part.or_empty.Kinds as or-empty-kinds
use Rattle.file_operation.proofs.part.or_empty.Reads as or-empty
use Rattle.file_operation.proofs.part.kept_after.Kinds as kept-after-kinds
use Rattle.file_operation.proofs.part.kept_after.Reads as kept-after
use Rattle.file_operation.proofs.rewrite.beside_tail.Kinds as beside-tail-kinds
use Rattle.file_operation.proofs.rewrite.beside_tail.Reads as beside-tail

-- ---- kinds
-- the code's kind for the paper's
abbrev pub kind_back : Kind → FileOperationMode
kind_back add_file = AddFile
kind_back delete_file = DeleteFile
kind_back replace_file = ReplaceFile
kind_back read_file = ReadFile
kind_back read_dir = ReadDir
kind_back resume_file = ResumeFile

-- a kind comes back from the paper's
pub kind-back : (k : FileOperationMode) → kind_back (kind_of k) ≡ k
kind-back AddFile = refl
kind-back DeleteFile = refl
kind-back ReplaceFile = refl
kind-back ReadFile = refl
kind-back ReadDir = refl
kind-back ResumeFile = refl

-- and the paper's from the code's
pub kind-again : (k : Kind) → kind_of (kind_back k) ≡ k
kind-again add_file = refl
kind-again delete_file = refl
kind-again replace_file = refl
kind-again read_file = refl
kind-again read_dir = refl
kind-again resume_file = refl

-- the answer that the paper's stands for
abbrev mode_back : Answer Kind → Result FileOperationMode Refusal
mode_back (accepted k) = Ok (kind_back k)
mode_back (refused e) = Err (refusal_back e)

-- an answer comes back from what it says
mode-back : (r : Result FileOperationMode Refusal) → mode_back (mode_said r) ≡ r
mode-back (Ok k) = ap Ok (kind-back k)
mode-back (Err e) = ap Err (refusal-back e)

-- the kind of a mode byte, or the refusal
pub mode_try_from_determined : Determined 0 mode-try-from-kinds.ps mode-try-from-kinds.r mode-try-from.Post
mode_try_from_determined κs a x y r₁ r₂ p q = sym (mode-back r₁) ∙ ap mode_back (p ∙ sym q) ∙ mode-back r₂

pub mode_from_byte_determined : Determined 0 mode-from-byte-kinds.ps mode-from-byte-kinds.r mode-from-byte.Post
mode_from_byte_determined = mode_try_from_determined

-- the mode byte of a kind
pub byte_of_mode_determined : Determined 0 byte-of-mode-kinds.ps byte-of-mode-kinds.r byte-of-mode.Post
byte_of_mode_determined κs a x y r₁ r₂ p q = p ∙ sym q

pub mode_value_determined : Determined 0 mode-value-kinds.ps mode-value-kinds.r mode-value.Post
mode_value_determined = byte_of_mode_determined

-- ---- formats
-- the format that a byte stands for
abbrev pub format_of : ℕ → DataFormatIdentifier
format_of b = record { 0 = b }

-- a format comes back from its byte
pub format_back : (x : DataFormatIdentifier) → format_of x.0 ≡ x
format_back x = refl

-- the format of a byte
pub format_from_determined : Determined 0 format-from-kinds.ps format-from-kinds.r format-from.Post
format_from_determined κs a x y r₁ r₂ p q = ap format_of (p ∙ sym q)

pub format_from_byte_determined : Determined 0 format-from-byte-kinds.ps format-from-byte-kinds.r format-from-byte.Post
format_from_byte_determined = format_from_determined

-- the byte of a format
pub byte_of_format_determined : Determined 0 byte-of-format-kinds.ps byte-of-format-kinds.r byte-of-format.Post
byte_of_format_determined κs a x y r₁ r₂ p q = p ∙ sym q

pub format_value_determined : Determined 0 format-value-kinds.ps format-value-kinds.r format-value.Post
format_value_determined = byte_of_format_determined

-- ---- payloads of two sizes
-- a number comes back from its size
pub size-again : (n : ℕ) → value (size_of n) ≡ n
size-again n = div-add-mod' n (2 ^ 64)

-- the payload of a request, of two sizes
abbrev pub sizes_of : Size → Size → SizePayload
sizes_of u c = record { file_size_uncompressed = u; file_size_compressed = c }

-- the payload of a request, of two numbers
abbrev pub sizes_back : ℕ → ℕ → SizePayload
sizes_back u c = sizes_of (size_of u) (size_of c)

-- it comes back from its numbers
pub sizes-back : (x : SizePayload) → x.file_size_uncompressed.low < 2 ^ 64 → x.file_size_compressed.low < 2 ^ 64
    → sizes_back (value x.file_size_uncompressed) (value x.file_size_compressed) ≡ x
sizes-back x h k = ap₂ sizes_of (size_back x.file_size_uncompressed h) (size_back x.file_size_compressed k)

-- the payload of a response, of two sizes
abbrev pub file_sizes_of : Size → Size → FileSizePayload
file_sizes_of u c = record { file_size_uncompressed = u; file_size_compressed = c }

-- the payload of a response, of two numbers
abbrev pub file_sizes_back : ℕ → ℕ → FileSizePayload
file_sizes_back u c = file_sizes_of (size_of u) (size_of c)

-- it comes back from its numbers
pub file-sizes-back : (x : FileSizePayload) → x.file_size_uncompressed.low < 2 ^ 64 → x.file_size_compressed.low < 2 ^ 64
    → file_sizes_back (value x.file_size_uncompressed) (value x.file_size_compressed) ≡ x
file-sizes-back x h k = ap₂ file_sizes_of (size_back x.file_size_uncompressed h) (size_back x.file_size_compressed k)

-- ---- parts
-- the answer that the paper's stands for
abbrev pub part_back : Answer Place → Result Place Refusal
part_back (accepted p) = Ok p
part_back (refused e) = Err (refusal_back e)

-- an answer comes back from what it says
pub part-back : (r : Result Place Refusal) → part_back (part_said r) ≡ r
part-back (Ok p) = refl
part-back (Err e) = ap Err (refusal-back e)

-- the place in an answer
pub or_empty_determined : Determined 0 or-empty-kinds.ps or-empty-kinds.r or-empty.Post
or_empty_determined κs a x y r₁ r₂ p q = p ∙ sym q

-- what stays of bytes after their check
pub kept_after_determined : (κs : Lfts 1) (a : Dens κs kept-after-kinds.ps) (x y : AtExit (ended_of 1 kept-after-kinds.ps kept-after-kinds.r) κs) (r₁ r₂ : Bor (List ℕ))
    → kept-after.Post κs a r₁ x → kept-after.Post κs a r₂ y → Alike r₁ r₂
kept_after_determined κs a x y r₁ r₂ p q = alike r₁ r₂ p q

-- ---- rewriting
-- the writer's answer with the tail beside it
pub beside_tail_determined : Determined 0 beside-tail-kinds.ps beside-tail-kinds.r beside-tail.Post
beside_tail_determined κs a x y r₁ r₂ p q = p ∙ sym q
