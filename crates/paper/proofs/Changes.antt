-- Document 02, Req 11: the list of changes is what the places say, and no other list is; its bytes; and what the call answers. Over lists of records, so that no sub-function is named.
-- Assumes nothing.
use mathlib.Core.Path.{◌≡◌, refl, sym, ap, ap₂, ◌∙◌}
use Prim.Native.Nat.{ℕ, suc, ◌+◌, ◌*◌, ◌-◌, ◌%◌, ◌≤◌, ◌<◌}
use mathlib.Core.Bool.{Bool, true, false, true≢false, beq}
use mathlib.Core.List.{List, [], ◌∷◌, ◌++◌, append_assoc, append-nil}
use mathlib.Core.Logic.{◌↔◌, ◌⊎◌, inl, inr}
use mathlib.Core.Option.{some}
use native.Mathlib.Nat.{zero-add, add-zero, add-suc, suc-add}
use native.Mathlib.Omega.{arith}
use lib.ListN.{length, get_or, get_elem?, take, drop, length-append, take-append-drop}
use lib.Dec.{leb, eqb}
use borrow.Author.Tests.{eqb-true, eqb-false, eq-eqb, ne_eqb}
use Rattle.paper.specs.Choice.{pick, both}
use Rattle.paper.specs.Answer.{Refusal, too_short, too_many, unknown_service, repeated, Answer, accepted, refused, check, written}
use Rattle.paper.specs.Answer.{cut as cutOff}
use Rattle.paper.specs.TroubleCode.{TroubleCode}
use Rattle.paper.specs.Listing.{SubFunction, sub_function_byte, Listed, record_size, Listing, listing, answer_byte, records_in, whole_records, read_listing, Found, find, First, NoneHas}
use Rattle.paper.specs.Changes.{Entry, gone, differs, added, entry_bytes, entries_bytes, entry_in, same_record, of_first, of_second, entries_of, changes, NoRepeats, Due, is_gone, is_other, is_new, Lists, first_repeated, FirstRepeat, without_repeats, read_for_changes, compared}
use Rattle.paper.proofs.Choice.{both_true, never, check_passed}
use Rattle.paper.proofs.ListingIndex.{finds_first}
use Rattle.paper.proofs.InOrder.{there_below, take_there, Ranked, Within, same_ranked, Run, ended, none, here, run_append, run_all, run_only, run_ordered}
use Rattle.paper.proofs.Repeats.{none_there, one_place, one_record, repeated_le, repeats-none, repeats-first}

-- ---- records of one code: the same exactly if they are equal
bool_same : (a b : Bool) → beq a b ≡ true → a ≡ b
bool_same true true e = refl
bool_same true false e = sym e
bool_same false true e = e
bool_same false false e = refl

beq_self : (b : Bool) → beq b b ≡ true
beq_self true = refl
beq_self false = refl

abbrev listed_with : Bool → ℕ → ℕ → TroubleCode → ℕ → Listed
listed_with k s u c st = record { known = k; severity = s; functional_unit = u; code = c; status = st }

same-is : (r q : Listed) → r.code ≡ q.code → same_record r q ≡ true → r ≡ q
unfolding same_record
same-is r q c e =
    let (st, e₁) = both_true (eqb r.status q.status) _ e in
    let (known, e₂) = both_true (beq r.known q.known) _ e₁ in
    let (sev, unit) = both_true (eqb r.severity q.severity) _ e₂ in
    ap₂ (λ (k : Bool) (s : ℕ). listed_with k s r.functional_unit r.code r.status) (bool_same _ _ known) (eqb-true _ _ sev)
    ∙ ap₂ (λ (u : ℕ) (d : TroubleCode). listed_with q.known q.severity u d r.status) (eqb-true _ _ unit) c
    ∙ ap (listed_with q.known q.severity q.functional_unit q.code) (eqb-true _ _ st)

same_self : (r : Listed) → same_record r r ≡ true
unfolding same_record
same_self r = rw (eq-eqb r.status r.status refl, beq_self r.known, eq-eqb r.severity r.severity refl, eq-eqb r.functional_unit r.functional_unit refl)

pub same-record : (r q : Listed) → r.code ≡ q.code → (same_record r q ≡ true) ↔ (r ≡ q)
same-record r q c = (same-is r q c, λ e. rw e (same_self q))

-- ---- what is due of one record
-- the code of an entry
abbrev pub code_in : Entry → TroubleCode
code_in (gone c old) = c
code_in (differs c old new) = c
code_in (added c new) = c

module _ (first second : List Listed) where
  -- of a record of the first listing whose code the second doesn't have: that it is gone
  due_gone : {k : ℕ} (r : Listed) → get_elem? first k ≡ some r → NoneHas r.code second → (e : Entry) → Due first second k e → e ≡ gone r.code r.status
  due_gone r at h e (is_gone k {r = x} p n) = let same : x ≡ r = cc in rw same
  due_gone r at h e (is_other k j {r = x} {q} p w c d) = let same : x ≡ r = cc in absurd (h j q w (rw same at (sym c)))
  due_gone r at h e (is_new j w n) = absurd (omega (arith, there_below first _ at))

  -- of one whose code the second has: only that it differs, and only where it does
  due_other : NoRepeats second → {k : ℕ} (r q : Listed) (j : ℕ) → get_elem? first k ≡ some r → get_elem? second j ≡ some q → q.code ≡ r.code
      → (e : Entry) → Due first second k e → (e ≡ differs r.code r.status q.status) × (r ≡ q → ⊥)
  due_other once r q j at w c e (is_gone k {r = x} p n) = let same : x ≡ r = cc in absurd (n j q w (rw same c))
  due_other once r q j at w c e (is_other k i {r = x} {q = y} p v d ne) =
      let same : x ≡ r = cc in
      let also : y ≡ q = one_record second once i j v w (sym d ∙ ap Listed.code same ∙ sym c) in
      (rw (same, also), rw (same, also) at ne)
  due_other once r q j at w c e (is_new i v n) = absurd (omega (arith, there_below first _ at))

  -- of one of the second listing, at its rank behind the first: that it is new, and only where the first doesn't have its code
  due_new : {n : ℕ} (j : ℕ) (q : Listed) → get_elem? second j ≡ some q → n ≡ length first + j → (e : Entry) → Due first second n e → (e ≡ added q.code q.status) × NoneHas q.code first
  due_new j q at b e (is_gone k p n) = absurd (omega (arith, there_below first k p))
  due_new j q at b e (is_other k i p v d ne) = absurd (omega (arith, there_below first k p))
  due_new j q at b e (is_new i {q = y} v n) =
      let here : i ≡ j = omega arith in
      let v : get_elem? second j ≡ some y = rw (← here) v in
      let same : y ≡ q = cc in
      (rw same, rw same at n)

  -- ---- the list of the definition, rank by rank
  abbrev D : ℕ → Entry → Type 0
  D = Due first second

  first_turn : NoRepeats second → (k b : ℕ) (es : List Entry) (r : Listed) → get_elem? first k ≡ some r → Run D (suc k) b es → Run D k b (of_first r (find 0 r.code second) ++ es)
  first_turn once k b es r at rest = by (find 0 r.code second) refl
    where
      there : (x : Found) → First r.code second x → (t : Bool) → same_record r x.«record» ≡ t → Run D k b (pick t [] (differs r.code r.status x.«record».status ∷ []) ++ es)
      there x f true s = none (λ e d. (due_other once r x.«record» x.place at f.stands f.has e d).1 ((same-record r x.«record» (sym f.has)).0 s)) rest
      there x f false s =
          here (is_other k x.place at f.stands (sym f.has) (λ e. true≢false (sym ((same-record r x.«record» (sym f.has)).1 e) ∙ s)))
          (λ e d. (due_other once r x.«record» x.place at f.stands f.has e d).0)
          rest

      by : (a : Answer Found) → find 0 r.code second ≡ a → Run D k b (of_first r a ++ es)
      by (refused e) f = here (is_gone k at (none_there r.code second f)) (due_gone r at (none_there r.code second f)) rest
      by (accepted x) f = there x ((finds_first r.code second x).0 f) (same_record r x.«record») refl

  second_turn : (j b : ℕ) (es : List Entry) (q : Listed) → get_elem? second j ≡ some q → Run D (suc (length first + j)) b es → Run D (length first + j) b (of_second q (find 0 q.code first) ++ es)
  second_turn j b es q at rest = by (find 0 q.code first) refl
    where
      by : (a : Answer Found) → find 0 q.code first ≡ a → Run D (length first + j) b (of_second q a ++ es)
      by (refused e) f = here (is_new j at (none_there q.code first f)) (λ e d. (due_new j q at refl e d).0) rest
      by (accepted x) f =
          let g = (finds_first q.code first x).0 f in
          none (λ e d. (due_new j q at refl e d).1 x.place x.«record» g.stands g.has) rest

  -- one half of it: records from place j on, each at its rank
  half : (of : Listed → Answer Found → List Entry) (other all : List Listed) (rank : ℕ → ℕ) → ((j : ℕ) → rank (suc j) ≡ suc (rank j))
      → ((j b : ℕ) (es : List Entry) (r : Listed) → get_elem? all j ≡ some r → Run D (suc (rank j)) b es → Run D (rank j) b (of r (find 0 r.code other) ++ es))
      → (rs : List Listed) (j : ℕ) → ((i : ℕ) → get_elem? all (j + i) ≡ get_elem? rs i) → Run D (rank j) (rank (j + length rs)) (entries_of of other rs)
  unfolding entries_of
  half of other all rank next turn [] j h = rw (add-zero j) ended
  half of other all rank next turn (r ∷ rs) j h =
      let now : get_elem? all j ≡ some r = rw (add-zero j) at (h 0) in
      let rest = half of other all rank next turn rs (suc j) (λ i. ap (get_elem? all) (suc-add j i ∙ sym (add-suc j i)) ∙ h (suc i)) in
      rw (add-suc j (length rs)) (turn j _ _ r now (rw (suc-add j (length rs), next j) at rest))

  changes_run : NoRepeats second → Run D 0 (length first + length second) (changes first second)
  unfolding changes
  changes_run once =
      let one = half of_first second first (λ j. j) (λ j. refl) (first_turn once) first 0 (λ i. ap (get_elem? first) (zero-add i)) in
      let two = half of_second first second (λ j. length first + j) (add-suc (length first)) second_turn second 0 (λ i. ap (get_elem? second) (zero-add i)) in
      run_append D (rw (zero-add (length first)) at one) (rw (zero-add (length second), add-zero (length first)) at two)

  -- ---- what is due of one code has one rank
  -- at rank k the first listing has a record of the code
  abbrev OfFirst : ℕ → TroubleCode → Type 0
  OfFirst k c = (r : Listed) × (get_elem? first k ≡ some r) × (r.code ≡ c)

  -- or the second has, and the first has none
  abbrev OfSecond : ℕ → TroubleCode → Type 0
  OfSecond k c = (j : ℕ) × (q : Listed) × (k ≡ length first + j) × (get_elem? second j ≡ some q) × (q.code ≡ c) × NoneHas c first

  due_of : {k : ℕ} {e : Entry} → Due first second k e → OfFirst k (code_in e) ⊎ OfSecond k (code_in e)
  due_of (is_gone k {r} p n) = inl (r, p, refl)
  due_of (is_other k j {r} p w c d) = inl (r, p, refl)
  due_of (is_new j {q} w n) = inr (j, q, refl, w, refl, n)

  module _ (once : NoRepeats first) (also : NoRepeats second) where
    one_rank : (c : TroubleCode) (k l : ℕ) → OfFirst k c ⊎ OfSecond k c → OfFirst l c ⊎ OfSecond l c → k ≡ l
    one_rank c k l (inl (r, p, a)) (inl (q, w, b)) = one_place first once k l p w (a ∙ sym b)
    one_rank c k l (inl (r, p, a)) (inr (j, q, e, w, b, n)) = absurd (n k r p a)
    one_rank c k l (inr (j, q, e, w, b, n)) (inl (r, p, a)) = absurd (n l r p a)
    one_rank c k l (inr (i, r, d, p, a, m)) (inr (j, q, e, w, b, n)) = omega (arith, one_place second also i j p w (a ∙ sym b))

    -- the list of the definition is what the places say
    changes-listed : Lists first second (changes first second)
    changes-listed = record {
      all = λ d. run_all D (changes_run also) (omega arith) (below d) d;
      only = λ i h. let (k, l, d) = run_only D (changes_run also) i h in (k, d);
      ordered = run_ordered D (λ e k l p q. one_rank (code_in e) k l (due_of p) (due_of q)) (changes_run also);
    }
      where
        below : {k : ℕ} {e : Entry} → Due first second k e → k < length first + length second
        below (is_gone k p n) = omega (arith, there_below first k p)
        below (is_other k j p w c d) = omega (arith, there_below first k p)
        below (is_new j w n) = omega (arith, there_below second j w)

  -- no two lists are
  lists_once : (ds es : List Entry) → Lists first second ds → Lists first second es → ds ≡ es
  lists_once ds es p q = same_ranked D ds es (ranked p) (ranked q) (within p q) (within q p)
    where
      ranked : {xs : List Entry} → Lists first second xs → Ranked D xs
      ranked l = record { has = λ i e. l.only i e; ordered = λ i j h d e. l.ordered i j h d e }

      within : {xs ys : List Entry} → Lists first second xs → Lists first second ys → Within D xs ys
      within l m = record { stands = λ i e. let (k, d) = l.only i e in m.all d }

-- ---- the list
-- it is what the places say, and no other list is
pub lists_changes : (first second : List Listed) → NoRepeats first → NoRepeats second → (es : List Entry) → Lists first second es ↔ (es ≡ changes first second)
lists_changes first second once also es =
    (λ l. lists_once first second es (changes first second) l (changes-listed first second once also), λ e. rw e (changes-listed first second once also))

-- nothing stands in it twice
pub nothing_twice : (first second : List Listed) (es : List Entry) → Lists first second es → (i j : ℕ) {e : Entry} → i < j → get_elem? es i ≡ some e → get_elem? es j ≡ some e → ⊥
nothing_twice first second es l i j h p q = let (k, a) = l.only i p in let less = l.ordered i j h p q a a in omega arith

-- and no code does
pub no_code_twice : (first second : List Listed) → NoRepeats first → NoRepeats second → (es : List Entry) → Lists first second es
    → (i j : ℕ) {d e : Entry} → i < j → get_elem? es i ≡ some d → get_elem? es j ≡ some e → code_in d ≡ code_in e → ⊥
no_code_twice first second once also es l i j {d} {e} h p q s =
    let (k, a) = l.only i p in
    let (m, b) = l.only j q in
    let less = l.ordered i j h p q a b in
    omega (arith, one_rank first second once also (code_in e) k m (rw s at (due_of first second a)) (due_of first second b))

-- ---- the entries' bytes
pub length_entries : (es : List Entry) → length (entries_bytes es) ≡ 6 * length es
unfolding entries_bytes
length_entries [] = refl
length_entries (gone c old ∷ es) = omega (arith, length_entries es)
length_entries (differs c old new ∷ es) = omega (arith, length_entries es)
length_entries (added c new ∷ es) = omega (arith, length_entries es)

pub entries_append : (ds es : List Entry) → entries_bytes (ds ++ es) ≡ entries_bytes ds ++ entries_bytes es
unfolding entries_bytes
entries_append [] es = refl
entries_append (d ∷ ds) es = ap (λ (t : List ℕ). entry_bytes d ++ t) (entries_append ds es) ∙ sym (append_assoc (entry_bytes d) (entries_bytes ds) (entries_bytes es))

-- an entry is found again
pub entry_back : (e : Entry) (t : List ℕ) → entry_in (entry_bytes e ++ t) ≡ e
entry_back (gone c old) t = refl
entry_back (differs c old new) t = refl
entry_back (added c new) t = refl

pub drop_entry : (e : Entry) (t : List ℕ) → drop 6 (entry_bytes e ++ t) ≡ t
drop_entry (gone c old) t = refl
drop_entry (differs c old new) t = refl
drop_entry (added c new) t = refl

-- two lists of the same bytes are the same list
pub entries-told : (ds es : List Entry) → entries_bytes ds ≡ entries_bytes es → ds ≡ es
unfolding entries_bytes
entries-told [] [] h = refl
entries-told [] (e ∷ es) h = absurd (omega (arith, ap length h, length_entries (e ∷ es)))
entries-told (d ∷ ds) [] h = absurd (omega (arith, ap length h, length_entries (d ∷ ds)))
entries-told (d ∷ ds) (e ∷ es) h =
    ap₂ (λ (x : Entry) (xs : List Entry). x ∷ xs) (sym (entry_back d (entries_bytes ds)) ∙ ap entry_in h ∙ entry_back e (entries_bytes es))
    (entries-told ds es (sym (drop_entry d (entries_bytes ds)) ∙ ap (drop 6) h ∙ drop_entry e (entries_bytes es)))

-- ---- the entries of some records
module _ (of : Listed → Answer Found → List Entry) (other : List Listed) where
  of_append : (rs qs : List Listed) → entries_of of other (rs ++ qs) ≡ entries_of of other rs ++ entries_of of other qs
  unfolding entries_of
  of_append [] qs = refl
  of_append (r ∷ rs) qs = ap (λ (es : List Entry). of r (find 0 r.code other) ++ es) (of_append rs qs) ∙ sym (append_assoc (of r (find 0 r.code other)) (entries_of of other rs) (entries_of of other qs))

  -- of one more
  pub of_more : (rs : List Listed) (k : ℕ) {r : Listed} → get_elem? rs k ≡ some r → entries_of of other (take (suc k) rs) ≡ entries_of of other (take k rs) ++ of r (find 0 r.code other)
  unfolding entries_of
  of_more rs k {r} at = rw (take_there rs k at) (of_append (take k rs) (r ∷ []) ∙ ap (λ (es : List Entry). entries_of of other (take k rs) ++ es) (append-nil _))

  -- of the first k no more than of all
  pub of_fewer : (rs : List Listed) (k : ℕ) → length (entries_of of other (take k rs)) ≤ length (entries_of of other rs)
  of_fewer rs k = omega (arith, ap length (ap (entries_of of other) (sym (take-append-drop k rs)) ∙ of_append (take k rs) (drop k rs)), length-append (entries_of of other (take k rs)) (entries_of of other (drop k rs)))

  -- at most one of each
  pub of_few : ((r : Listed) (a : Answer Found) → length (of r a) ≤ 1) → (rs : List Listed) → length (entries_of of other rs) ≤ length rs
  unfolding entries_of
  of_few one [] = omega arith
  of_few one (r ∷ rs) = omega (arith, length-append (of r (find 0 r.code other)) (entries_of of other rs), one r (find 0 r.code other), of_few one rs)

pub one-of-first : (r : Listed) (a : Answer Found) → length (of_first r a) ≤ 1
one-of-first r (refused e) = omega arith
one-of-first r (accepted x) = by (same_record r x.«record»)
  where
    by : (t : Bool) → length (pick t [] (differs r.code r.status x.«record».status ∷ [])) ≤ 1
    by true = omega arith
    by false = omega arith

pub one-of-second : (q : Listed) (a : Answer Found) → length (of_second q a) ≤ 1
one-of-second q (refused e) = omega arith
one-of-second q (accepted x) = omega arith

-- ---- the call
-- a refusal of another number comes from behind a check
passes_on : {A : Type 0} (r e : Refusal) → (r.number ≡ e.number → ⊥) → (ok : Bool) (a : Answer A) → (a ≡ refused e → ⊥) → check ok r a ≡ refused e → ⊥
passes_on r e d true a n h = n h
passes_on r e d false a n h = let same : r ≡ e = cc in d (ap Refusal.number same)

module _ (f : SubFunction) (s : List ℕ) where
  -- reading alone never answers 17
  not_17 : (k : ℕ) → read_listing f s ≡ refused (repeated k) → ⊥
  unfolding read_listing
  not_17 k =
      let e = repeated k in
      passes_on (too_short 3 (length s)) e (λ q. omega arith) (leb 3 (length s)) _
      (passes_on (unknown_service 0) e (λ q. omega arith) (both (eqb (get_or s 0 0) answer_byte) (eqb (get_or s 1 0) (sub_function_byte f))) _
      (passes_on too_many e (λ q. omega arith) (leb (whole_records f s) 4096) _
      (passes_on cutOff e (λ q. omega arith) (eqb ((length s - 3) % record_size f) 0) _
      (never_refused (listing f (get_or s 2 0) (records_in f (whole_records f s) (drop 3 s)))))))
    where
      never_refused : (l : Listing) → accepted l ≡ refused (repeated k) → ⊥
      never_refused l q = never (sym q)

  pub read-refused : {e : Refusal} → read_listing f s ≡ refused e → read_for_changes f s ≡ refused e
  unfolding read_for_changes
  read-refused h = rw h

  module _ {l : Listing} (read : read_listing f s ≡ accepted l) where
    pub read-repeated : first_repeated l.records < length l.records → read_for_changes f s ≡ refused (repeated (first_repeated l.records))
    unfolding read_for_changes
    read-repeated h = let ne : first_repeated l.records ≡ length l.records → ⊥ = λ e. omega arith in rw (read, ne_eqb _ _ ne)

    pub read_once : first_repeated l.records ≡ length l.records → read_for_changes f s ≡ accepted l
    unfolding read_for_changes
    read_once h = rw (read, eq-eqb _ _ h)

  -- accepted exactly if it is read and no code stands twice
  pub accepted_once : (l : Listing) → (read_for_changes f s ≡ accepted l) ↔ ((read_listing f s ≡ accepted l) × NoRepeats l.records)
  unfolding read_for_changes
  accepted_once l = (by (read_listing f s) refl, λ (read, once). read_once read ((repeats-none l.records).1 once))
    where
      by : (a : Answer Listing) → read_listing f s ≡ a → without_repeats a ≡ accepted l → (read_listing f s ≡ accepted l) × NoRepeats l.records
      by (refused e) read h = absurd (never h)
      by (accepted x) read h =
          let (once, is) = check_passed (eqb (first_repeated x.records) (length x.records)) _ (accepted x) h in
          let same : x ≡ l = cc in
          (read ∙ is, rw same at ((repeats-none x.records).0 (eqb-true _ _ once)))

  -- 17 exactly if it is read and a code stands twice, with the place of the first record whose code stood before it
  pub refused_17 : (k : ℕ) → (read_for_changes f s ≡ refused (repeated k)) ↔ ((l : Listing) × (read_listing f s ≡ accepted l) × FirstRepeat l.records k)
  unfolding read_for_changes
  refused_17 k = (by (read_listing f s) refl, back)
    where
      by : (a : Answer Listing) → read_listing f s ≡ a → without_repeats a ≡ refused (repeated k) → (l : Listing) × (read_listing f s ≡ accepted l) × FirstRepeat l.records k
      by (refused e) read h = absurd (not_17 k (read ∙ h))
      by (accepted x) read h = told (eqb (first_repeated x.records) (length x.records)) refl h
        where
          told : (t : Bool) → eqb (first_repeated x.records) (length x.records) ≡ t → check t (repeated (first_repeated x.records)) (accepted x) ≡ refused (repeated k)
              → (l : Listing) × (read_listing f s ≡ accepted l) × FirstRepeat l.records k
          told true t q = absurd (never (sym q))
          told false t q =
              let same : repeated (first_repeated x.records) ≡ repeated k = cc in
              let is : first_repeated x.records ≡ k = ap Refusal.first same in
              let some : first_repeated x.records ≡ length x.records → ⊥ = eqb-false _ _ t in
              (x, read, (repeats-first x.records k).0 (is, omega (arith, repeated_le [] x.records)))

      back : (l : Listing) × (read_listing f s ≡ accepted l) × FirstRepeat l.records k → read_for_changes f s ≡ refused (repeated k)
      back (l, read, first) = let (is, small) = (repeats-first l.records k).1 first in read-repeated read (omega arith) ∙ ap (λ (j : ℕ). refused (repeated j)) is

-- the first listing is refused, whatever the second is
module _ (f g : SubFunction) (s t room : List ℕ) where
  pub first-refused : {e : Refusal} → read_for_changes f s ≡ refused e → compared f s g t room ≡ record { which = 1; filled = record { answer = refused e; contents = room } }
  unfolding compared
  first-refused h = rw h

  module _ {x : Listing} (first : read_for_changes f s ≡ accepted x) where
    -- the first is good, and the second is refused
    pub second-refused : {e : Refusal} → read_for_changes g t ≡ refused e → compared f s g t room ≡ record { which = 2; filled = record { answer = refused e; contents = room } }
    unfolding compared
    second-refused h = rw (first, h)

    -- both are good: what is written is the list that the places say
    pub both-good : {y : Listing} → read_for_changes g t ≡ accepted y → compared f s g t room ≡ record { which = 0; filled = written (accepted (entries_bytes (changes x.records y.records))) room }
    unfolding compared
    both-good h = rw (first, h)

    pub both-listed : {y : Listing} → read_for_changes g t ≡ accepted y
        → (es : List Entry) × Lists x.records y.records es × (compared f s g t room ≡ record { which = 0; filled = written (accepted (entries_bytes es)) room })
    both-listed {y} h =
        (changes x.records y.records, changes-listed x.records y.records ((accepted_once f s x).0 first).1 ((accepted_once g t y).0 h).1, both-good h)
