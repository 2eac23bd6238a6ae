-- What is to hold of tables holds of the calls of this crate: of what `count_records` answers, and of what `judge_records` and `tally` answer, taken together.
-- Assumes nothing.
use mathlib.Core.Path.{◌≡◌, refl, sym, ap, ◌∙◌}
use Prim.Native.Nat.{ℕ}
use mathlib.Core.List.{List, [], ◌∷◌}
use denote.Ref.{Bor}
use lib.ListN.{replicate}
use Rattle.std.specs.Prelude.{Result, Ok, Err}
use Rattle.paper.specs.Answer.{Answer, accepted, refused}
use Rattle.paper.specs.Utf8.{in_range}
use Rattle.paper.specs.Tally.{entries, records, in_ranges, all_good, count, table, tallied, table_of, verdict, TablesRight}
use Rattle.paper.proofs.Choice.{never}
use Rattle.paper.proofs.Tally.{tables_right}
use Rattle.wire.specs.Refusals.{row}
use Rattle.tally.specs.Judged.{judged}
use Rattle.tally.specs.Calls.{Call, Told, together, Answered}
use Rattle.wire.specs.declared.refusal.Refusal.{Refusal}
use Rattle.tally.proofs.count_records.Reads as count-records
use Rattle.tally.proofs.judge_records.Reads as judge-records
use Rattle.tally.proofs.tally.Reads as tally

-- the calls of `count_records` that kept its contract: the programs and the door count by these
abbrev pub CountCall : List ℕ → Result (List (List ℕ)) Refusal → Type 0
CountCall = Call count-records.Post

told : (s : List ℕ) (a : Answer (List (List ℕ))) → Told CountCall s a → a ≡ tallied s
told s a h = h.says ∙ h.counting.met ∙ ap tallied h.counting.lent

pub count_tables_right : TablesRight (Told CountCall)
count_tables_right = tables_right (Told CountCall) told

-- the calls of `judge_records` and of `tally` that kept their contracts
abbrev pub JudgeCall : List ℕ → Result (Unit {0}) Refusal → Type 0
JudgeCall = Call judge-records.Post

abbrev pub TallyCall : List ℕ → List (List ℕ) → Type 0
TallyCall = Call tally.Post

-- a verdict and a table that are the paper's are together the paper's answer
whole-answer : (x : Answer (List (List ℕ))) (v : Result (Unit {0}) Refusal) {t : List (List ℕ)} → judged v ≡ verdict x → t ≡ table_of x → together v t ≡ x
whole-answer (accepted u) (Ok v) h e = ap accepted e
whole-answer (accepted u) (Err r) h e = absurd (never h)
whole-answer (refused r) (Ok v) h e = absurd (never (sym h))
whole-answer (refused r) (Err q) h e = let same : row q ≡ r = cc in ap refused same

answered : (s : List ℕ) (a : Answer (List (List ℕ))) → Answered JudgeCall TallyCall s a → a ≡ tallied s
answered s a h =
    let judging = h.judging in
    let counting = h.counting in
    h.says ∙ whole-answer (tallied s) h.verdict (judging.met ∙ ap (λ (u : List ℕ). verdict (tallied u)) judging.lent) (counting.met ∙ ap (λ (u : List ℕ). table_of (tallied u)) counting.lent)

pub calls_tables_right : TablesRight (Answered JudgeCall TallyCall)
calls_tables_right = tables_right (Answered JudgeCall TallyCall) answered

-- and there are such calls: here of a sheet with one record, refused with 6 in January
abbrev sheet : List ℕ
sheet = 1 ∷ 7 ∷ 0 ∷ 6 ∷ 0x00 ∷ 0x01 ∷ 0xE2 ∷ 0x40 ∷ []

abbrev january : List (List ℕ)
january = (0 ∷ 0 ∷ 0 ∷ 0 ∷ 0 ∷ 0 ∷ 1 ∷ 0 ∷ 0 ∷ 0 ∷ []) ∷ replicate 11 (replicate 10 0)

abbrev lent : Bor (List ℕ)
lent = record { ref_ptr = (0, 0); now = sheet }

pub example : Answered JudgeCall TallyCall sheet (accepted january)
unfolding in_range entries records in_ranges all_good count table tallied
example = record {
  verdict = Ok tt;
  table = january;
  judging = record { lifetimes = ([], tt); args = (lent, tt); exit = (lent, tt); lent = refl; met = refl };
  counting = record { lifetimes = ([], tt); args = (lent, tt); exit = (lent, tt); lent = refl; met = refl };
  says = refl;
}

pub count_example : Told CountCall sheet (accepted january)
unfolding in_range entries records in_ranges all_good count table tallied
count_example = record {
  result = Ok january;
  counting = record { lifetimes = ([], tt); args = (lent, tt); exit = (lent, tt); lent = refl; met = refl };
  says = refl;
}
