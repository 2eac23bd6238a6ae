-- What reading a listing answers, case by case, and where its records stand: what the returns of the readers cite.
-- Assumes nothing.
use mathlib.Core.Path.{◌≡◌, refl, sym}
use Prim.Native.Nat.{ℕ, zero, suc, ◌-◌, ◌/◌, ◌%◌, ◌≤◌, ◌<◌}
use mathlib.Core.Bool.{Bool, true, false}
use mathlib.Core.List.{List, [], ◌∷◌}
use mathlib.Core.Option.{none, some}
use native.Mathlib.Omega.{arith}
use native.Mathlib.Nat.{le_of_suc-le-suc}
use lib.ListN.{length, get_or, get_elem?, drop}
use borrow.Author.Tests.{lt-leb, le-leb, eq-eqb, ne_eqb}
use Rattle.paper.specs.Choice.{both}
use Rattle.paper.specs.Answer.{accepted, refused, too_short, unknown_service, too_many, cut}
use Rattle.paper.specs.Listing as paper
use Rattle.paper.specs.Listing.{sub_function_byte, record_size, listing, answer_byte, read_listing}
use Rattle.paper.proofs.Listing.{no_cut, length_records, record_there}
use Rattle.std.specs.Prelude.{Result, Ok, Err, Some}
use Rattle.std.specs.Result.{result_ok}
use Rattle.wire.specs.declared.refusal.Refusal.{Refusal}
use Rattle.listing.specs.Listing.{Held, records_of, record_here}
use Rattle.listing.specs.Records.{listing_of, read_said}
use Rattle.listing.specs.declared.records.Records.{Records}

-- ---- the answers of reading
both_false : (x : Bool) → both x false ≡ false
both_false true = refl
both_false false = refl

module _ (f : paper.SubFunction) (s : List ℕ) where
  pub short : length s < 3 → refused (too_short 3 (length s)) ≡ read_listing f s
  unfolding read_listing
  short h = rw (lt-leb _ _ h)

  module _ (long : 3 ≤ length s) where
    pub wrong_answer : (get_or s 0 0 ≡ answer_byte → ⊥) → refused (unknown_service 0) ≡ read_listing f s
    unfolding read_listing
    wrong_answer e = rw (le-leb _ _ long, ne_eqb _ _ e)

    pub wrong_sub : (get_or s 1 0 ≡ sub_function_byte f → ⊥) → refused (unknown_service 0) ≡ read_listing f s
    unfolding read_listing
    wrong_sub e = rw (le-leb _ _ long, ne_eqb _ _ e, both_false _)

    module _ (a : get_or s 0 0 ≡ answer_byte) (b : get_or s 1 0 ≡ sub_function_byte f) (n : ℕ) (whole : n ≡ (length s - 3) / record_size f) where
      pub too_many_lem : 4096 < n → refused too_many ≡ read_listing f s
      unfolding read_listing
      too_many_lem h = rw (le-leb _ _ long, eq-eqb _ _ a, eq-eqb _ _ b, lt-leb _ _ (rw whole at h))

      module _ (few : n ≤ 4096) where
        pub cut_off : ((length s - 3) % record_size f ≡ 0 → ⊥) → refused cut ≡ read_listing f s
        unfolding read_listing
        cut_off e = rw (le-leb _ _ long, eq-eqb _ _ a, eq-eqb _ _ b, le-leb _ _ (rw whole at few), ne_eqb _ _ e)

        module _ (filled : (length s - 3) % record_size f ≡ 0) where
          pub good : accepted (listing f (get_or s 2 0) (records_of f n s)) ≡ read_listing f s
          unfolding read_listing
          good = rw (le-leb _ _ long, eq-eqb _ _ a, eq-eqb _ _ b, ← whole, le-leb _ _ few, eq-eqb _ _ filled)

          pub held : Held f n s
          held = record { few = few; long = omega (arith, rw (← whole) at (no_cut f (length s - 3) filled)) }

-- ---- the records of a listing, by place
-- a list has nothing past its end
nothing : {A : Type 0} (xs : List A) (k : ℕ) → length xs ≤ k → get_elem? xs k ≡ none
nothing [] zero h = refl
nothing [] (suc k) h = refl
nothing (x ∷ xs) zero h = absurd (omega arith)
nothing (x ∷ xs) (suc k) h = nothing xs k (le_of_suc-le-suc h)

module _ (f : paper.SubFunction) (n : ℕ) (s : List ℕ) (k : ℕ) where
  pub past : n ≤ k → none ≡ get_elem? (records_of f n s) k
  past l = sym (nothing (records_of f n s) k (omega (arith, length_records f n (drop 3 s))))

  pub here : k < n → some (record_here f s k) ≡ get_elem? (records_of f n s) k
  here l = sym (record_there f n k (drop 3 s) l)

-- what a reader that answered says
pub read_ok : (r : Result Records Refusal) {x : Records} → result_ok r ≡ Some x → read_said r ≡ accepted (listing_of x)
read_ok (Ok y) e = cc
read_ok (Err y) e = cc
