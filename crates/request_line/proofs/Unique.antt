-- No second line meets the contract of `line_of`, and no second text, nor other final contents of the buffer, those of `put_text` and `line_text`.
-- Assumes nothing.
use mathlib.Core.Path.{◌≡◌, refl, sym, ap, ◌∙◌}
use Prim.Native.Nat.{ℕ}
use contract.Lifetimes.{Lfts}
use denote.Triple.Clauses.{AtExit}
use borrow.Fn.Kinds.{ended_of}
use borrow.Fn.World.{ArgsD}
use Rattle.std.specs.Prelude.{Option, Some, None}
use Rattle.paper.specs.ReadingProgram as paper
use Rattle.paper.specs.ReadingProgram.{dash, shown, too_long, good, bad}
use Rattle.wire.proofs.Refusals.{refusal_back, refusal-back}
use Rattle.wire.proofs.Unique.{Determined}
use Rattle.wire.proofs.UniqueWriting.{WritesOnce}
use Rattle.request_line.specs.Line.{shown_of, line_said}
use Rattle.request_line.specs.declared.line.Accepted.{Accepted}
use Rattle.request_line.specs.declared.line.Line.{Line}
use Rattle.request_line.proofs.line.line_of.Kinds as line-of-kinds
use Rattle.request_line.proofs.line.line_of.Reads as Line-of
use Rattle.request_line.proofs.text.put_text.Kinds as put-text-kinds
use Rattle.request_line.proofs.text.put_text.Reads as put-text-reads
use Rattle.request_line.specs.contracts.text.line_text as line-text
use Rattle.request_line.proofs.text.line_text.Kinds as line-text-kinds
use Rattle.request_line.proofs.text.line_text.Reads as line-text-reads

-- what the paper's format stands for
abbrev shown_back : paper.Shown → Option ℕ
shown_back dash = None
shown_back (shown b) = Some b

-- it comes back
shown-back : (x : Option ℕ) → shown_back (shown_of x) ≡ x
shown-back None = refl
shown-back (Some b) = refl

-- the line that the paper's stands for
abbrev said : ℕ → ℕ → Option ℕ → ℕ → ℕ → Accepted
said kind name format normal left = record { kind = kind; name = name; format = format; normal = normal; left = left }

abbrev line_back : paper.Line → Line
line_back too_long = Line.TooLong
line_back (good kind name format normal left) = Line.Accepted (said kind name (shown_back format) normal left)
line_back (bad e) = Line.Refused (refusal_back e)

-- it comes back
line-back : (r : Line) → line_back (line_said r) ≡ r
line-back Line.TooLong = refl
line-back (Line.Accepted a) = ap (λ (x : Option ℕ). Line.Accepted (said a.kind a.name x a.normal a.left)) (shown-back a.format)
line-back (Line.Refused e) = ap Line.Refused (refusal-back e)

-- the input settles the line
pub line_of_determined : Determined 1 line-of-kinds.ps line-of-kinds.r Line-of.Post
line_of_determined κs a x y r₁ r₂ p q = sym (line-back r₁) ∙ ap line_back (p ∙ sym q) ∙ line-back r₂

-- the line settles the number of bytes, and what the buffer, the second parameter, holds at the exit
pub put_text_determined : WritesOnce 1 put-text-kinds.ps put-text-kinds.r (λ κs x. x.1.0) put-text-reads.Post
put_text_determined κs a x y r s p q = (p.0 ∙ sym q.0, p.1.0 ∙ sym q.1.0)

-- the input settles both
pub line_text_determined : (κs : Lfts 2) (a : ArgsD line-text.signature κs) (x y : AtExit (ended_of 2 line-text-kinds.ps line-text-kinds.r) κs) (r s : ℕ)
    → line-text-reads.Post κs a r x → line-text-reads.Post κs a s y → (r ≡ s) × (x.1.0.now ≡ y.1.0.now)
line_text_determined κs a x y r s p q = (p.0 ∙ sym q.0, p.1.0 ∙ sym q.1.0)
