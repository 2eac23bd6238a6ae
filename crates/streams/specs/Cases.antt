-- What is printed of the files that arguments name, and what is told of those that can't be opened.
use Rattle.std.specs.Prelude.{◌≡◌, ℕ, Option, List}
use Rattle.std.specs.Io.KnownBytes.{Appends, Consumes}
use Rattle.streams.specs.Told.{Tells}

-- what was written behind the old bytes is what is printed of a file of this name with the bytes that were read
abbrev pub Shows : (List ℕ → List ℕ → List ℕ → Type 0) → List ℕ → (left left₂ old new : Option (List ℕ)) → Type 0
Shows prints path left left₂ old new = (read text : List ℕ) × Consumes left left₂ read × Appends old new text × prints path read text

-- one file: it was printed, and nothing told; or it couldn't be opened, and that was told, and nothing printed
pub data One (prints : List ℕ → List ℕ → List ℕ → Type 0) (out out₂ told told₂ : Option (List ℕ)) : Type 0 where
  opened : (path read text : List ℕ) → Appends out out₂ text → prints path read text → told₂ ≡ told → One prints out out₂ told told₂
  missing : (path : List ℕ) → out₂ ≡ out → Tells told told₂ path → One prints out out₂ told told₂

-- some files, one after the other
pub data Each (prints : List ℕ → List ℕ → List ℕ → Type 0) (out told : Option (List ℕ)) : Option (List ℕ) → Option (List ℕ) → Type 0 where
  none : Each prints out told out told
  then : {out₁ told₁ out₂ told₂ : Option (List ℕ)} → Each prints out told out₁ told₁ → One prints out₁ out₂ told₁ told₂ → Each prints out told out₂ told₂
