-- Demand 3 in terms of calls: it holds of every reader and rewriter that keep to the paper's, where the paper's keep demand 3; and the paper's messages are examples of it.
-- Assumes nothing.
use Prim.Native.Nat.{ℕ, ◌≤◌, ◌<◌}
use mathlib.Core.Path.{◌≡◌, refl, sym, ap, subst, ◌∙◌}
use mathlib.Core.List.{List, []}
use mathlib.Core.Bool.{Bool, true, false}
use mathlib.Core.Logic.Iff
use mathlib.Core.Logic.{◌↔◌}
use native.Mathlib.Nat.{le_refl}
use native.Mathlib.Omega.{arith}
use borrow.Author.Tests.{leb-true, le-leb}
use lib.Dec.{leb}
use lib.ListN.{length, take, drop, length-drop}
use lib.Seq.{drop-length, take_at}
use Rattle.std.specs.Prelude.{Ok, Err}
use Rattle.paper.specs.Answer.{accepted, Reader, ◌leaving◌, over}
use Rattle.paper.specs.Rewriting.{Message, Rewritten}
use Rattle.paper.specs.Rewriting as on-paper
use Rattle.paper.proofs.Choice.{never}
use Rattle.wire.specs.Reading.{Seen, Right}
use Rattle.file_operation.specs.Rewriting.{Rewrote}
use Rattle.file_operation.specs.Calls.{Whole, Became, Demand3, Example}
use Rattle.file_operation.proofs.UniqueRewriting.{rewrote_once}

-- the calls that read and rewrite one sort of message keep to the paper: there is a call with some answer exactly if that is the paper's answer
pub record Keeps {A Q : Type 0} (read : Reader A) (rewrite : Reader (List ℕ)) (meant : List ℕ → Q → A) (Place : List ℕ → Q → ℕ → Type 0)
    (Reads : List ℕ → Seen Q → Type 0) (Rewrites : List ℕ → List ℕ → Seen ℕ → List ℕ → Type 0) (Same : List ℕ → Q → List ℕ → Q → Type 0) : Type 0 where
  pub paper : on-paper.Demand3 A read rewrite
  pub within : (s : List ℕ) (q : Q) (n : ℕ) → Place s q n → n ≤ length s
  pub reads : (s : List ℕ) (x : Seen Q) → Reads s x ↔ Right Q A (meant s) read (Place s) s 0 x
  pub rewrites : (s old new : List ℕ) (r : Seen ℕ) → Rewrites s old r new ↔ Rewrote rewrite s old r new
  pub same : (s t : List ℕ) (q p : Q) (n m : ℕ) → Place s q n → Place t p m → Same s q t p ↔ (meant s q ≡ meant t p)

-- the bytes that were written stand at the front
front_of : (u old : List ℕ) {new : List ℕ} → new ≡ over u old → take (length u) new ≡ u
unfolding over
front_of u old e = rw e (take_at u (drop (length u) old) (length u) refl)

module _ {rewrite : Reader (List ℕ)} {s u old : List ℕ} (e : Rewritten rewrite s u) where
  -- where there is room, this is right
  right_in_room : length u ≤ length old → Rewrote rewrite s old (Ok (length u, length s)) (over u old)
  right_in_room l =
      let room : leb (length u) (length old) ≡ true = le-leb _ _ l in
      record { answer = rw (e.is, room, drop-length s); place = le_refl (length s); contents = rw (e.is, room) }

  -- so it is what was answered and written
  into_room : {r : Seen ℕ} {new : List ℕ} → Rewrote rewrite s old r new → length u ≤ length old → (r ≡ Ok (length u, length s)) × (take (length u) new ≡ u)
  into_room h l = let (a, b) = rewrote_once h (right_in_room l) in (a, front_of u old b)

  -- where bytes were written, there was room
  had_room : {n tail : ℕ} {new : List ℕ} → Rewrote rewrite s old (Ok (n, tail)) new → length u ≤ length old
  had_room h = by (leb (length u) (length old)) refl
    where
      by : (b : Bool) → leb (length u) (length old) ≡ b → length u ≤ length old
      by true p = leb-true _ _ p
      by false p = absurd (never (sym (rw (e.is, p) at h.answer)))

module _ {A Q : Type 0} {read : Reader A} {rewrite : Reader (List ℕ)} {meant : List ℕ → Q → A} {Place : List ℕ → Q → ℕ → Type 0}
    {Reads : List ℕ → Seen Q → Type 0} {Rewrites : List ℕ → List ℕ → Seen ℕ → List ℕ → Type 0} {Same : List ℕ → Q → List ℕ → Q → Type 0}
    (keeps : Keeps read rewrite meant Place Reads Rewrites Same) where
  -- what was read is the paper's answer
  right : {s : List ℕ} {x : Seen Q} → Reads s x → Right Q A (meant s) read (Place s) s 0 x
  right {s} {x} h = (keeps.reads s x).0 h

  -- what was read whole is a message
  pub message : {s : List ℕ} {q : Q} → Whole Q Reads s q → Message A read s (meant s q)
  message w = record { bytes = w.bytes; whole = rw drop-length at (sym (right w.read).paper) }

  -- two that were read whole say the same exactly if they mean the same
  alike : {s t : List ℕ} {q p : Q} → Whole Q Reads s q → Whole Q Reads t p → Same s q t p ↔ (meant s q ≡ meant t p)
  alike {s} {t} {q} {p} w x = keeps.same s t q p (length s) (length t) (right w.read).place (right x.read).place

  -- so the second is a message with the meaning of the first
  message_too : {s t : List ℕ} {q p : Q} → Whole Q Reads s q → Whole Q Reads t p → Same s q t p → Message A read t (meant s q)
  message_too {t = t} w x e = subst (Message A read t) (sym ((alike w x).0 e)) (message x)

  -- what a call wrote of a message is the paper's rewriting
  pub rewritten : {s u : List ℕ} {a : A} → Message A read s a → Became Rewrites s u → Rewritten rewrite s u
  rewritten {s} {u} m b =
      let (v, e) = keeps.paper.always m in
      let h = (keeps.rewrites _ _ _ _).0 b.rewrote in
      let (r, f) = into_room e h (had_room e h) in
      let l : length u ≡ length v = cc in
      subst (Rewritten rewrite s) (sym f ∙ ap (λ (n : ℕ). take n b.after) (sym l) ∙ b.front) e

  -- whoever reads a message with the meaning of what was read accepts it whole, and it says the same
  read_of : {s u : List ℕ} {q : Q} {n : ℕ} → Place s q n → Message A read u (meant s q) → (x : Seen Q) → Right Q A (meant u) read (Place u) u 0 x
      → (p : Q) × (x ≡ Ok (p, length u)) × Same s q u p
  read_of h m (Err e) k = absurd (never (k.paper ∙ m.whole))
  read_of {s} {u} {q} h m (Ok (p, n)) k =
      let e : accepted (meant u p leaving drop n u) ≡ accepted (meant s q leaving []) = k.paper ∙ m.whole in
      let none : drop n u ≡ [] = cc in
      let means : meant s q ≡ meant u p = cc in
      let end : n ≡ length u = omega (arith, length-drop n u, ap length none, keeps.within _ _ _ k.place) in
      (p, ap (λ (k : ℕ). Ok (p, k)) end, (keeps.same _ _ _ _ _ _ h k.place).1 means)

  -- demand 3, of the calls
  pub calls_demand_3 : Demand3 Q Reads Rewrites Same
  calls_demand_3 = record {
    always = λ {s} {room} {after} w l h.
        let (u, e) = keeps.paper.always (message w) in
        let short : length u ≤ length s = keeps.paper.shortest (message w) e (message w) in
        let (is, front) = into_room e ((keeps.rewrites _ _ _ _).0 h) (omega arith) in
        (u, record { room = room; after = after; tail = length s; rewrote = subst (λ (x : Seen ℕ). Rewrites s room x after) is h; front = front }, is);
    same = λ w x b c. Iff.trans (alike w x) (keeps.paper.same (message w) (message x) (rewritten (message w) b) (rewritten (message x) c));
    kept = λ {x = x} w b h. read_of (right w.read).place (keeps.paper.kept (message w) (rewritten (message w) b)) x (right h);
    settled = λ {u = u} {v} w b c.
        let m = message w in
        let e = rewritten m b in
        let twice : rewrite u ≡ accepted (u leaving []) = (keeps.paper.settled m e).is in
        let once : rewrite u ≡ accepted (v leaving []) = (rewritten (keeps.paper.kept m e) c).is in
        cc;
    shortest = λ w b x e. keeps.paper.shortest (message w) (rewritten (message w) b) (message_too w x e);
    no_other = λ w b x e. keeps.paper.no_other (message w) (rewritten (message w) b) (message_too w x e);
  }

  -- ---- there are such calls
  -- one that reads a message of the paper whole
  reads_whole : {s : List ℕ} {q : Q} → Message A read s (meant s q) → Place s q (length s) → Whole Q Reads s q
  reads_whole {s} {q} m h = record { bytes = m.bytes; read = (keeps.reads s (Ok (q, length s))).1 (record { paper = rw drop-length (sym m.whole); place = h }) }

  -- and one that rewrites it, into a room just long enough
  rewrites_it : {s u : List ℕ} → Rewritten rewrite s u → Became Rewrites s u
  rewrites_it {s} {u} e = record {
    room = u;
    after = over u u;
    tail = length s;
    rewrote = (keeps.rewrites s u (over u u) (Ok (length u, length s))).1 (right_in_room e (le_refl (length u)));
    front = front_of u u refl;
  }

  -- a message that can be written shorter is an example
  pub example : {s u : List ℕ} {q p : Q} → Message A read s (meant s q) → Place s q (length s) → Rewritten rewrite s u → length u < length s
      → meant s q ≡ meant u p → Place u p (length u) → Example Q Reads Rewrites Same s u
  example {s} {u} {q} {p} m h e l means k = record {
    first = q;
    second = p;
    read = reads_whole m h;
    became = rewrites_it e;
    shorter = l;
    reread = reads_whole (subst (Message A read u) means (keeps.paper.kept m e)) k;
    same = (keeps.same s u q p (length s) (length u) h k).1 means;
    settled = rewrites_it (keeps.paper.settled m e);
  }

-- demand 3 promises it of a room that is just as long as the message, too
pub same-length-is-room : {Q : Type 0} {Reads : List ℕ → Seen Q → Type 0} {Rewrites : List ℕ → List ℕ → Seen ℕ → List ℕ → Type 0} {Same : List ℕ → Q → List ℕ → Q → Type 0}
    → Demand3 Q Reads Rewrites Same → {s room after : List ℕ} {q : Q} {r : Seen ℕ} → Whole Q Reads s q → length s ≡ length room → Rewrites s room r after
    → (u : List ℕ) × Became Rewrites s u × (r ≡ Ok (length u, length s))
same-length-is-room d w e h = d.always w (omega arith) h
