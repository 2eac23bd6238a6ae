-- Choosing by a test: what the definitions of this folder use where a document says "if", "and" or "or".
use Rattle.std.specs.Prelude.{Bool, true, false}

-- the first where the test passes, else the second
abbrev pub pick : {A : Type 0} → Bool → A → A → A
pick true a b = a
pick false a b = b

-- both tests pass
abbrev pub both : Bool → Bool → Bool
both true b = b
both false b = false

-- one of the tests passes
abbrev pub either : Bool → Bool → Bool
either true b = true
either false b = b
