-- Which calls there are that kept their contract: those with the answers that the contract has, whatever else the call was given.
-- Assumes nothing.
use Prim.Native.Nat.{ℕ}
use mathlib.Core.Path.{refl}
use mathlib.Core.List.{List, []}
use mathlib.Core.Logic.{◌↔◌}
use contract.Lifetimes.{Lfts}
use denote.Ref.{Bor, MutBor}
use Rattle.wire.specs.Reading.{Seen}
use Rattle.file_operation.specs.Calls.{OneSlice, TwoSlices, ReadCall, RewriteCall}

-- a slice, wherever it is, that holds these bytes
abbrev pub slice : List ℕ → Bor (List ℕ)
slice s = record { ref_ptr = (0, 0); now = s }

-- a buffer, wherever it is, that holds these bytes
abbrev pub buffer : List ℕ → MutBor (List ℕ)
buffer s = record { ref_ptr = (0, 0); ghost_name = 0; now = s }

-- there is a reading call with some answer exactly if the contract has that answer of the message, whatever else the call was given
pub read_calls : {Q : Type 0} {Post : Lfts 1 → OneSlice → Seen Q → OneSlice → Type 0} (Promise : List ℕ → Seen Q → Type 0)
    → ((κs : Lfts 1) (a : OneSlice) (r : Seen Q) (x : OneSlice) → Post κs a r x ↔ Promise a.0.now r) → (s : List ℕ) (x : Seen Q) → ReadCall Post s x ↔ Promise s x
read_calls Promise post s x = (
  (λ c. rw (← c.lent) ((post _ _ _ _).0 c.met)),
  (λ h. record { lifetimes = ([], tt); args = (slice s, tt); exit = (slice s, tt); lent = refl; met = (post _ _ _ _).1 h }),
)

-- and a rewriting call likewise
pub rewrite_calls : {Post : Lfts 2 → TwoSlices → Seen ℕ → TwoSlices → Type 0} (Promise : List ℕ → List ℕ → Seen ℕ → List ℕ → Type 0)
    → ((κs : Lfts 2) (a : TwoSlices) (r : Seen ℕ) (x : TwoSlices) → Post κs a r x ↔ Promise a.0.now a.1.0.now r x.1.0.now)
    → (s room after : List ℕ) (r : Seen ℕ) → RewriteCall Post s room r after ↔ Promise s room r after
rewrite_calls Promise post s room after r = (
  (λ c. rw (← c.lent, ← c.before, ← c.left) ((post _ _ _ _).0 c.met)),
  (λ h. record { lifetimes = ([], ([], tt)); args = (slice s, (buffer room, tt)); exit = (slice s, (buffer after, tt)); lent = refl; before = refl; left = refl; met = (post _ _ _ _).1 h }),
)
