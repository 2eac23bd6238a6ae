-- The reasons that the calls of this crate tell are the true ones, beside the calls that read: what `why_request` and `read_request` promise of requests, and
-- `why_response` and `read_response` of responses, taken together.
-- Assumes nothing.
use Prim.Native.Nat.{ℕ, ◌-◌}
use mathlib.Core.Path.{◌≡◌, refl, sym, ap, ◌∙◌}
use mathlib.Core.List.{List}
use contract.Lifetimes.{Lfts}
use Rattle.paper.specs.Answer as paper
use Rattle.paper.specs.Answer.{accepted, refused, Read, Reader}
use Rattle.paper.specs.Reason.{Check, first_failed, request_checks, request_judged, response_checks, response_judged, TrueReason}
use Rattle.paper.proofs.Choice.{never}
use Rattle.paper.proofs.Reason.{request-reason, response-reason, same-refusal}
use Rattle.wire.specs.Refusals.{row}
use Rattle.std.specs.Prelude.{Ok, Err}
use Rattle.wire.specs.Reading.{Seen, said}
use Rattle.wire.specs.declared.refusal.Refusal.{Refusal}
use Rattle.wire.proofs.Refusals.{refusal_once}
use Rattle.file_operation.specs.Calls.{OneSlice}
use Rattle.request_file_transfer.specs.Reading as request-meant
use Rattle.request_file_transfer.specs.declared.read.RequestFileTransferRequest.{RequestFileTransferRequest}
use Rattle.request_file_transfer.proofs.DemandThree.{ReadRequestCall, requests-keep}
use Rattle.request_file_transfer_response.specs.Reading as response-meant
use Rattle.request_file_transfer_response.specs.declared.read.RequestFileTransferResponse.{RequestFileTransferResponse}
use Rattle.request_file_transfer_response.proofs.DemandThree.{ReadResponseCall, responses_keep}
use Rattle.reason.specs.Reason.{fault_said, Why, why_said}
use Rattle.reason.specs.Calls.{AskCall, TrueReasons}
use Rattle.reason.proofs.Unique.{answer_once}
use Rattle.reason.proofs.request.why_request.Reads as why-request
use Rattle.reason.proofs.response.why_response.Reads as why-response

-- what a call that asks why promised of its message
told : {Post : Lfts 1 → OneSlice → Why → OneSlice → Type 0} (checks : List Check)
    → ((κs : Lfts 1) (a : OneSlice) (r : Why) (x : OneSlice) → Post κs a r x → why_said r ≡ first_failed checks a.0.now)
    → (s : List ℕ) (r : Why) → AskCall Post s r → why_said r ≡ first_failed checks s
told checks post s r c = post _ _ _ _ c.met ∙ ap (first_failed checks) c.lent

-- an answer that the paper refuses is that refusal
refused-is : {Q M : Type 0} (meaning : Q → M) (s : List ℕ) (y : Seen Q) (e : Refusal) → said meaning s y ≡ refused (row e) → y ≡ Err e
refused-is meaning s (Ok (q, tail)) e h = absurd (never (sym h))
refused-is meaning s (Err i) e h = let same : row i ≡ row e = cc in ap Err (refusal_once same)

-- one that it accepts was found
found-is : {Q M : Type 0} (meaning : Q → M) (s : List ℕ) (y : Seen Q) {v : Read M} → said meaning s y ≡ accepted v → (q : Q) × (tail : ℕ) × (y ≡ Ok (q, tail))
found-is meaning s (Ok (q, tail)) h = (q, tail, refl)
found-is meaning s (Err i) h = absurd (never h)

-- calls of a reader and of one that asks why, each of which keeps to the paper
module _ {Q M : Type 0} (meaning : List ℕ → Q → M) {read : Reader M} {checks : List Check} {end : paper.Refusal → List ℕ → ℕ}
    {Reads : List ℕ → Seen Q → Type 0} {Asks : List ℕ → Why → Type 0} (true-reason : TrueReason M read checks end)
    (reads : (s : List ℕ) (y : Seen Q) → Reads s y → said (meaning s) s y ≡ read s)
    (asks : (s : List ℕ) (r : Why) → Asks s r → why_said r ≡ first_failed checks s) where
  pub calls_true_reasons : TrueReasons Q Reads Asks checks end
  calls_true_reasons = record {
    refuses = λ {s} {x} {y} a c. refused-is (meaning s) s y x.refusal (reads s y c ∙ (true-reason.refuses s (row x.refusal)).1 (fault_said x.fault, x.offset, sym (asks s _ a)));
    accepts = λ {s} {y} a c. let (m, t, e) = (true-reason.accepts s).1 (sym (asks s _ a)) in found-is (meaning s) s y (reads s y c ∙ e);
    passes = λ {s} a. (true-reason.passes s).0 (sym (asks s _ a));
    reason = λ {s} {x} a. true-reason.reason s _ _ _ (sym (asks s _ a));
    lasts = λ {s} {t} {x} {r} a n l e b. answer_once (asks t r b ∙ true-reason.lasts s t _ _ _ (sym (asks s _ a)) n l e);
    read_alike = λ {s} {t} {x} {y} a n l e c.
        refused-is (meaning t) t y x.refusal
        (reads t y c ∙ same-refusal true-reason s t (row x.refusal) ((true-reason.refuses s (row x.refusal)).1 (fault_said x.fault, x.offset, sym (asks s _ a))) n l e);
    filled = λ s more {x} a is l b. true-reason.filled s more _ _ _ b (ap (λ (e : Refusal). (row e).number) is) (l ∙ sym (ap (λ (e : Refusal). (row e).first - (row e).second) is));
    further = λ s more {x} {y} a is l c b d.
        true-reason.further s more _ _ _ _ _ _ b (ap (λ (e : Refusal). (row e).number) is) (l ∙ sym (ap (λ (e : Refusal). (row e).first - (row e).second) is)) d;
  }

-- the calls of `why_request` and of `why_response` that kept their contracts
abbrev pub WhyRequestCall : List ℕ → Why → Type 0
WhyRequestCall = AskCall why-request.Post

abbrev pub WhyResponseCall : List ℕ → Why → Type 0
WhyResponseCall = AskCall why-response.Post

pub requests_true_reasons : TrueReasons RequestFileTransferRequest ReadRequestCall WhyRequestCall request_checks request_judged
requests_true_reasons = calls_true_reasons request-meant.meant request-reason (λ s y c. ((requests-keep.reads s y).0 c).paper) (told request_checks (λ κs a r x p. p))

pub responses_true_reasons : TrueReasons RequestFileTransferResponse ReadResponseCall WhyResponseCall response_checks response_judged
responses_true_reasons = calls_true_reasons response-meant.meant response-reason (λ s y c. ((responses_keep.reads s y).0 c).paper) (told response_checks (λ κs a r x p. p))
