-- Document 02, request 02, "Say where the name goes bad": what refusal 2 carries for a name that is not UTF-8, and who passes it up.
use Rattle.std.specs.Prelude.{ℕ, ◌≤◌, ◌<◌, ◌≡◌, List, ◌∷◌, ◌↔◌, length}
use Rattle.paper.specs.Answer.{Answer, accepted, refused, wrong_format, ◌leaving◌}
use Rattle.paper.specs.Bytes.{Bytes}
use Rattle.paper.specs.Utf8.{Utf8, Longest}
use Rattle.paper.specs.Field.{counted, name}
use Rattle.paper.specs.Request.{Request, read_request, good_name, write_request, rewrite_request}
use Rattle.paper.specs.Desk.{desk_check}

-- the name n is not UTF-8, and r is the length of its longest beginning that is
pub record GoesBad (n : List ℕ) (r : ℕ) : Type 0 where
  pub bad : Utf8 n → ⊥
  pub longest : Longest n r

-- an answer about the name n is refusal 2 with r exactly if n goes bad after r bytes
abbrev pub SaysWhere : {A : Type 0} → List ℕ → Answer A → Type 0
SaysWhere n answer = (r : ℕ) → (answer ≡ refused (wrong_format r)) ↔ GoesBad n r

-- the message s has the name n: all of it is there, after the mode and its length in two bytes
pub record HasName (s n : List ℕ) : Type 0 where
  pub mode : ℕ
  pub after : List ℕ
  pub tail : List ℕ
  pub is : s ≡ mode ∷ after
  pub named : counted 2 after ≡ accepted (n leaving tail)

-- the request, sentence by sentence (that the Rust is compared on the number alone is said in docs/DIFFERENCES.md)
pub record SaidWhere : Type 0 where
  -- refusal 2 for a name that is not UTF-8 carries the length of the longest valid beginning: in the field, and in the check of a name to be written
  pub field : (s : List ℕ) {n t : List ℕ} → counted 2 s ≡ accepted (n leaving t) → SaysWhere n (name s)
  pub check : (n : List ℕ) → length n ≤ 65535 → SaysWhere n (good_name n)
  -- reader, writer and desk check all pass it up, and the rewriter too
  pub reader : {s n : List ℕ} → HasName s n → SaysWhere n (read_request s)
  pub writer : (m : Request) → length m.name ≤ 65535 → SaysWhere m.name (write_request m)
  pub desk : {s n : List ℕ} → HasName s n → SaysWhere n (desk_check s)
  pub rewriter : {s n : List ℕ} → HasName s n → Bytes s → SaysWhere n (rewrite_request s)
  -- over-long names still carry 0, UTF-8 or not
  pub over_long : (m : Request) → 65535 < length m.name → write_request m ≡ refused (wrong_format 0)
