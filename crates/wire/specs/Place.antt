-- Parts of a message.
use Rattle.std.specs.Prelude.{◌≡◌, ℕ, ◌+◌, ◌≤◌, List, length, take, drop}
use Rattle.std.specs.Borrow.{Bor}
use Rattle.paper.specs.Field.{counted}
use Rattle.wire.specs.Reading.{Seen, Right}
use Rattle.wire.specs.declared.place.Place.{Place}

-- the bytes of s at a place
abbrev pub bytes_at : List ℕ → Place → List ℕ
bytes_at s p = take p.len (drop p.start s)

-- the place begins right after its count, and the next field where it ends, within the message
abbrev pub CountedPlace : ℕ → List ℕ → ℕ → Place → ℕ → Type 0
CountedPlace k s at p next = (p.start ≡ at + k) × (p.start + p.len ≡ next) × (next ≤ length s)

abbrev pub CountedRight : ℕ → List ℕ → ℕ → Seen Place → Type 0
CountedRight k s at r = Right Place (List ℕ) (bytes_at s) (counted k) (CountedPlace k s at) s at r

-- r is that very part of s: it points into s, as many bytes after its start as s has before the part, and its bytes are the part's
abbrev pub IsPart : Bor (List ℕ) → ℕ → ℕ → Bor (List ℕ) → Type 0
IsPart s start len r = (r.ref_ptr ≡ (s.ref_ptr.0, s.ref_ptr.1 + length (take start s.now))) × (r.now ≡ take len (drop start s.now))
