-- Every record that a public maker makes holds a name: UTF-8, and at most 65,535 bytes; and that of a request holds the name that was read. Said of the makers' contracts, as the check reads them.
-- Assumes nothing.
use mathlib.Core.Path.{◌≡◌, refl, ap, ◌∙◌}
use Prim.Native.Nat.{ℕ}
use mathlib.Core.List.{List, []}
use native.Mathlib.Omega.{arith}
use Rattle.std.specs.Prelude.{Result, Ok, Err, IfOk}
use Rattle.wire.specs.declared.refusal.Refusal.{Refusal}
use Rattle.request_file_transfer.specs.declared.name_payload.NamePayload.{NamePayload}
use denote.Ref.{Bor}
use Rattle.paper.specs.Answer.{Answer, accepted, refused, Read, ◌leaving◌}
use Rattle.paper.specs.Bytes.{Bytes}
use Rattle.paper.specs.Utf8.{none}
use Rattle.paper.specs.Request.{Request, read_request, good_name, IsName}
use Rattle.paper.proofs.Request.{good-name, request-name}
use Rattle.wire.specs.Place.{bytes_at}
use Rattle.wire.proofs.UniqueHeld.{Says, says}
use Rattle.file_operation.specs.Part.{or_empty, or_none}
use Rattle.request_file_transfer.specs.Name.{place_in, HoldsGood}
use Rattle.request_file_transfer.specs.contracts.name_payload.NamePayload.of_request as of-request
use Rattle.request_file_transfer.specs.contracts.name_payload.NamePayload.new as new
use Rattle.request_file_transfer.specs.contracts.name_payload.NamePayloadTryFromRefSliceU8.try_from as try-from

-- no bytes are a name
empty_name : IsName []
empty_name = record { utf8 = none; short = omega arith }

-- ---- of a slice
-- what the checks of a name hand on, or nothing
kept-is-name : (n : List ℕ) (x : Answer (List ℕ)) → good_name n ≡ x → IsName (or_none x)
kept-is-name n (accepted x) e = let (same, is) = (good-name n x).0 e in rw same is
kept-is-name n (refused r) e = empty_name

pub new_named : Says new.ended (λ M 𝓤 𝓛. new.clauses 𝓛) (λ κs a r. IsName r.file_path_and_name.now)
new_named M 𝓤 𝓛 mem run κs a g x r = says 𝓤 (λ is. rw is.1 (kept-is-name a.0.now (good_name a.0.now) refl))

-- what a conversion hands on
held-is-name : (name : Bor (List ℕ)) (r : Result NamePayload Refusal) → HoldsGood name r → IfOk r (λ (x : NamePayload). IsName x.file_path_and_name.now)
held-is-name name (Ok x) h = rw (ap (λ (b : Bor (List ℕ)). b.now) h.0) ((good-name name.now name.now).0 h.1).1
held-is-name name (Err e) h = tt

pub try_from_named : Says try-from.ended (λ M 𝓤 𝓛. try-from.clauses 𝓛) (λ κs a r. IfOk r (λ (x : NamePayload). IsName x.file_path_and_name.now))
try_from_named M 𝓤 𝓛 mem run κs a g x r = says 𝓤 (λ is. held-is-name a.0 r is)

-- ---- of a request, whose elements are bytes, as those of every slice of `u8` are
-- what stands in it where the answer says
abbrev at : List ℕ → Answer (Read Request) → List ℕ
at s x = bytes_at s (or_empty (place_in x))

part-is-name : (s : List ℕ) (x : Answer (Read Request)) → Bytes s → read_request s ≡ x → IsName (at s x)
part-is-name s (accepted (m leaving t)) bytes e = let (is, there) = request-name s bytes e in rw there is
part-is-name s (refused r) bytes e = empty_name

pub of_request_named : Says of-request.ended (λ M 𝓤 𝓛. of-request.clauses 𝓛) (λ κs a r. Bytes a.0.now → IsName r.file_path_and_name.now)
of_request_named M 𝓤 𝓛 mem run κs a g x r = says 𝓤 (λ is bytes. rw is.1 (part-is-name a.0.now (read_request a.0.now) bytes refl))

-- of one that is accepted
pub of_request_holds : Says of-request.ended (λ M 𝓤 𝓛. of-request.clauses 𝓛)
    (λ κs a r. (m : Request) (t : List ℕ) → Bytes a.0.now → read_request a.0.now ≡ accepted (m leaving t) → r.file_path_and_name.now ≡ m.name)
of_request_holds M 𝓤 𝓛 mem run κs a g x r = says 𝓤 (λ is m t bytes e. is.1 ∙ ap (at a.0.now) e ∙ (request-name a.0.now bytes e).1)
