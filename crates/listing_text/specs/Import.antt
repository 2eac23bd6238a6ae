-- What the answers about the argument and about what is written say, in the paper's terms.
use Rattle.std.specs.Prelude.{◌≡◌, ℕ, Bool, true, false, List, length, Option, Some, None}
use Rattle.io.specs.Counts.{IsPrefixLen}
use Rattle.paper.specs.Answer.{over}
use Rattle.paper.specs.ListingProgram as paper
use Rattle.paper.specs.ListingProgram.{to_output, to_error, is_mask, mask_in}
use Rattle.ascii_text.specs.Text.{Put}
use Rattle.dtc.specs.declared.status.Mask.{Mask}
use Rattle.dtc.specs.declared.status.Status.{Status}
use Rattle.listing_text.specs.declared.import.Printed.{Printed}

-- the word is this mask; or it is none
abbrev pub MaskRight : List ℕ → Option (Mask Status) → Type 0
MaskRight w (Some m) = (is_mask w ≡ true) × (m.bits ≡ mask_in w)
MaskRight w None = is_mask w ≡ false

-- where it goes, and the bytes
abbrev pub is_output : paper.Printed → Bool
is_output (to_output s) = true
is_output (to_error t) = false

abbrev pub bytes_in : paper.Printed → List ℕ
bytes_in (to_output s) = s
bytes_in (to_error t) = t

-- the same of the answer: where it goes, and how many bytes
abbrev pub goes_to_output : Printed → Bool
goes_to_output (Printed.ToOutput n) = true
goes_to_output (Printed.ToError n) = false

abbrev pub count_of : Printed → ℕ
count_of (Printed.ToOutput n) = n
count_of (Printed.ToError n) = n

-- what a caller that lends room enough needs: the stream is right, and the bytes stand at the start of the room, at most 16,387
pub record PutPrinted (p : paper.Printed) (r : Printed) (old new : List ℕ) : Type 0 where
  pub stream : goes_to_output r ≡ is_output p
  pub put : Put (bytes_in p) (count_of r) 16387 old new

-- all of it, in room enough
pub record Prints (p : paper.Printed) (r : Printed) (old new : List ℕ) : Type 0 where
  pub stream : goes_to_output r ≡ is_output p
  pub count : count_of r ≡ length (bytes_in p)
  pub contents : new ≡ over (bytes_in p) old
  pub counts : IsPrefixLen (count_of r) new
