-- Laws of the tables of what stands of each transaction: how they are filled, and what they say of the history.
-- Assumes nothing.
use Prim.Native.Nat.{ℕ, zero, suc, ◌+◌, ◌≤◌, ◌<◌}
use native.Mathlib.Nat.{le_refl, le_step}
use native.Mathlib.Numerals.{add-one}
use native.Mathlib.Omega.{arith}
use mathlib.Core.Path.{◌≡◌, refl, sym, ap, ◌∙◌}
use mathlib.Core.Bool.{Bool, true, false, cond}
use mathlib.Core.List.{List}
use lib.Dec.{eqb, ltb}
use lib.ListN.{length, get_or, take, set, replicate, length-set, get_or-replicate, length-replicate}
use lib.Seq.{get_or-set_same, get_or-set_other, take-suc, take-length}
use borrow.Author.Tests.{eqb-true, eqb-false, lt-ltb, le-ltb}
use Rattle.std.specs.Prelude.{Option, Some, None, is_some}
use Rattle.events.specs.declared.event.Event.{Event}
use Rattle.lists.specs.Lists.{◌and◌, ◌or◌, any}
use Rattle.events.specs.Events.{event_at, no_event, is_begin, is_end, is_commit, is_abort, asks_commit, by, has}
use Rattle.lists.proofs.ListLaws.{or-false}
use Rattle.events.proofs.StateLaws.{has-snoc}
use Rattle.opacity.specs.Transactions.{Status, committed, aborted, pending, live, status, precedes}
use Rattle.opacity.proofs.Snoc.{precedes-more}
use Rattle.links.specs.declared.tables.Rank.{Rank}
use Rattle.links.specs.declared.tables.Rank.TheVariants.{Live, Pending, Aborted, Committed}
use Rattle.links.specs.declared.tables.Transaction.{Transaction}
use Rattle.links.specs.Tables.{last_one, first_one, rank, rank_of, further, blank, noted, rank_noted, slot, Slots, AllTabled, Ranked, earlier, past}

-- ---- filling

module _ {A : Type 0} (d : A) (note : Event → ℕ → A → A) (h : List Event) where
  pub slots-start : Slots d note h 0 (replicate 64 d)
  unfolding slot
  slots-start = record { size = length-replicate {A = A} 64 d; holds = λ t l. get_or-replicate 64 t d d l }

  pub slot-here : (t i : ℕ) → eqb (event_at h i).transaction t ≡ true
      → slot d note h t (suc i) ≡ note (event_at h i) i (slot d note h t i)
  unfolding slot
  slot-here t i e = rw e

  pub slot-other : (t i : ℕ) → eqb (event_at h i).transaction t ≡ false → slot d note h t (suc i) ≡ slot d note h t i
  unfolding slot
  slot-other t i e = rw e

  -- the event and its transaction are handed over as the code read them
  pub slots-more : (i : ℕ) {table : List A} {t : ℕ} {v : A} → t ≡ (event_at h i).transaction → t < 64
      → v ≡ note (event_at h i) i (get_or table t d) → Slots d note h i table → Slots d note h (i + 1) (set table t v)
  slots-more i {table} {t} {v} at b q w =
      record { size = length-set table t v ∙ w.size; holds = λ u l. rw (add-one i) (go u l (eqb (event_at h i).transaction u) refl) }
    where
      go : (u : ℕ) → u < 64 → (c : Bool) → eqb (event_at h i).transaction u ≡ c → get_or (set table t v) u d ≡ slot d note h u (suc i)
      go u l true e =
          let k : u ≡ t = sym (at ∙ eqb-true _ _ e) in
          let s : v ≡ note (event_at h i) i (slot d note h u i) =
          q ∙ ap (note (event_at h i) i) (ap (λ (x : ℕ). get_or table x d) (sym k) ∙ w.holds u l) in
          (ap (λ (x : ℕ). get_or (set table t v) x d) k ∙ get_or-set_same table t v d (rw w.size b)) ∙ (s ∙ sym (slot-here u i e))
      go u l false e = get_or-set_other table t u v d (λ k. eqb-false _ _ e (sym at ∙ sym k)) ∙ (w.holds u l ∙ sym (slot-other u i e))

-- ---- what they say

-- what stands of a transaction after m events
abbrev pub standing : List Event → ℕ → ℕ → Transaction
standing h t m = slot blank noted h t m

-- one thing of it, after an event more
pub standing-more : {B : Type 0} (f : Transaction → B) (h : List Event) (t m : ℕ)
    → f (standing h t (suc m)) ≡ cond (eqb (event_at h m).transaction t) (f (noted (event_at h m) m (standing h t m))) (f (standing h t m))
unfolding slot
standing-more {B} f h t m = go (eqb (event_at h m).transaction t)
  where
    go : (b : Bool) → f (cond b (noted (event_at h m) m (standing h t m)) (standing h t m))
        ≡ cond b (f (noted (event_at h m) m (standing h t m))) (f (standing h t m))
    go true = refl
    go false = refl

first-le : (x : Option ℕ) (m : ℕ) (a d : Bool) → past x ≤ m → past (cond a (first_one d m x) x) ≤ suc m
unfolding first_one
first-le x m false d l = le_step l
first-le None m true true l = omega arith
first-le None m true false l = omega arith
first-le (Some k) m true d l = le_step l

pub last-le : (x : Option ℕ) (m : ℕ) (a d : Bool) → past x ≤ m → past (cond a (last_one d m x) x) ≤ suc m
unfolding last_one
last-le x m true true l = omega arith
last-le x m true false l = le_step l
last-le x m false d l = le_step l

first-has : (x : Option ℕ) (m : ℕ) (a d : Bool) → (is_some x or (a and d)) ≡ is_some (cond a (first_one d m x) x)
unfolding first_one ◌and◌ ◌or◌
first-has None m false d = refl
first-has None m true true = refl
first-has None m true false = refl
first-has (Some k) m false d = refl
first-has (Some k) m true d = refl

-- the end x and the begin y after event m
earlier_more : (x y : Option ℕ) (m : ℕ) (a d b s : Bool) → past x ≤ m → past y ≤ m
    → (earlier x y or (is_some x and (b and s))) ≡ earlier (cond a (first_one d m x) x) (cond b (last_one s m y) y)
unfolding first_one last_one earlier ◌and◌ ◌or◌
earlier_more None y m a d b s lx ly = go a d y b s ly
  where
    -- what ends at event m did not end before what has begun by then
    late : (z : Option ℕ) (v w : Bool) → past z ≤ m → false ≡ earlier (Some m) (cond v (cond w (Some m) z) z)
    late z true true l = sym (le-ltb m m (le_refl m))
    late None true false l = refl
    late None false w l = refl
    late (Some k) true false l = sym (le-ltb m k (omega arith))
    late (Some k) false w l = sym (le-ltb m k (omega arith))

    go : (u v : Bool) (z : Option ℕ) (w r : Bool) → past z ≤ m
        → (earlier None z or (false and (w and r))) ≡ earlier (cond u (cond v (Some m) None) None) (cond w (cond r (Some m) z) z)
    go true true z w r l = late z w r l
    go true false z w r l = refl
    go false v z w r l = refl
earlier_more (Some e) y m a d b s lx ly = go a y b s
  where
    begun : (z : Option ℕ) → (earlier (Some e) z or true) ≡ ltb e m
    begun None = sym (lt-ltb e m (omega arith))
    begun (Some k) = any_true (ltb e k) ∙ sym (lt-ltb e m (omega arith))
      where
        any_true : (c : Bool) → (c or true) ≡ true
        any_true true = refl
        any_true false = refl

    kept : (u w r : Bool) (z : Option ℕ) → (w and r) ≡ false → (earlier (Some e) z or (w and r)) ≡ earlier (Some e) z
    kept u w r z n = rw (n, or-false)

    go : (u : Bool) (z : Option ℕ) (w r : Bool)
        → (earlier (Some e) z or (w and r)) ≡ earlier (cond u (Some e) (Some e)) (cond w (cond r (Some m) z) z)
    go true z true true = begun z
    go false z true true = begun z
    go true z true false = or-false (earlier (Some e) z)
    go false z true false = or-false (earlier (Some e) z)
    go true z false r = or-false (earlier (Some e) z)
    go false z false r = or-false (earlier (Some e) z)

module _ (h : List Event) where
  end-le : (t m : ℕ) → past (standing h t m).ended ≤ m
  unfolding slot
  end-le t zero = le_refl 0
  end-le t (suc m) =
      rw (standing-more (λ (x : Transaction). x.ended) h t m)
      (first-le (standing h t m).ended m (eqb (event_at h m).transaction t) (is_end (event_at h m)) (end-le t m))

  begin-le : (t m : ℕ) → past (standing h t m).began ≤ m
  unfolding slot
  begin-le t zero = le_refl 0
  begin-le t (suc m) =
      rw (standing-more (λ (x : Transaction). x.began) h t m)
      (last-le (standing h t m).began m (eqb (event_at h m).transaction t) (is_begin (event_at h m)) (begin-le t m))

  end-has : (t m : ℕ) → m ≤ length h → has is_end t (take m h) ≡ is_some (standing h t m).ended
  unfolding slot by has any
  end-has t zero l = refl
  end-has t (suc m) l =
      ap (has is_end t) (take-suc h m no_event l)
      ∙ (has-snoc is_end (take m h) (event_at h m) t
      ∙ (ap (λ (b : Bool). b or by is_end t (event_at h m)) (end-has t m (omega arith))
      ∙ (first-has (standing h t m).ended m (eqb (event_at h m).transaction t) (is_end (event_at h m))
      ∙ ap is_some (sym (standing-more (λ (x : Transaction). x.ended) h t m)))))

  -- t ended before u began, by the tables
  precedes-slots : (t u m : ℕ) → m ≤ length h → precedes (take m h) t u ≡ earlier (standing h t m).ended (standing h u m).began
  unfolding slot by precedes earlier
  precedes-slots t u zero l = refl
  precedes-slots t u (suc m) l =
      ap (λ (g : List Event). precedes g t u) (take-suc h m no_event l)
      ∙ (precedes-more (take m h) (event_at h m) t u
      ∙ (ap (λ (b : Bool). b or (has is_end t (take m h) and by is_begin u (event_at h m))) (precedes-slots t u m (omega arith))
      ∙ (ap (λ (b : Bool). earlier (standing h t m).ended (standing h u m).began or (b and by is_begin u (event_at h m))) (end-has t m (omega arith))
      ∙ (earlier_more (standing h t m).ended (standing h u m).began m (eqb (event_at h m).transaction t)
      (is_end (event_at h m)) (eqb (event_at h m).transaction u) (is_begin (event_at h m)) (end-le t m) (begin-le u m)
      ∙ (λ i. earlier (sym (standing-more (λ (x : Transaction). x.ended) h t m) i) (sym (standing-more (λ (x : Transaction). x.began) h u m) i))))))

  pub precedes-table : (t u : ℕ) → precedes h t u ≡ earlier (standing h t (length h)).ended (standing h u (length h)).began
  precedes-table t u = ap (λ (g : List Event). precedes g t u) (sym (take-length h)) ∙ precedes-slots t u (length h) (le_refl _)

-- ranks

rank-max : (a b c x y z : Bool) → rank (a or x) (b or y) (c or z) ≡ further (rank a b c) (rank x y z)
unfolding rank ◌or◌
rank-max true b c true y z = refl
rank-max true b c false true z = refl
rank-max true b c false false true = refl
rank-max true b c false false false = refl
rank-max false true c true y z = refl
rank-max false true c false true z = refl
rank-max false true c false false true = refl
rank-max false true c false false false = refl
rank-max false false true true y z = refl
rank-max false false true false true z = refl
rank-max false false true false false true = refl
rank-max false false true false false false = refl
rank-max false false false true y z = refl
rank-max false false false false true z = refl
rank-max false false false false false true = refl
rank-max false false false false false false = refl

rank-more : (a b c x y z k : Bool) → rank (a or (k and x)) (b or (k and y)) (c or (k and z)) ≡ cond k (further (rank a b c) (rank x y z)) (rank a b c)
unfolding ◌and◌
rank-more a b c x y z true = rank-max a b c x y z
rank-more a b c x y z false = rw (or-false a, or-false b, or-false c)

-- the rank of a status
abbrev pub status_rank : Status → Rank
status_rank committed = Committed
status_rank aborted = Aborted
status_rank pending = Pending
status_rank live = Live

rank-status : (a b c : Bool) → status_rank (cond a committed (cond b aborted (cond c pending live))) ≡ rank a b c
unfolding rank
rank-status true b c = refl
rank-status false true c = refl
rank-status false false true = refl
rank-status false false false = refl

module _ (h : List Event) (t : ℕ) where
  ranked : (m : ℕ) → m ≤ length h → (standing h t m).rank ≡ rank (has is_commit t (take m h)) (has is_abort t (take m h)) (has asks_commit t (take m h))
  unfolding slot rank_of has any rank by
  ranked zero l = refl
  ranked (suc m) l =
      standing-more (λ (x : Transaction). x.rank) h t m
      ∙ ap (λ (x : Rank). cond (eqb (event_at h m).transaction t) (further x (rank_of (event_at h m))) x) (ranked m (omega arith))
      ∙ sym (rw (take-suc h m no_event l) (rw (has-snoc is_commit (take m h) (event_at h m) t, has-snoc is_abort (take m h) (event_at h m) t, has-snoc asks_commit (take m h) (event_at h m) t)
      (rank-more (has is_commit t (take m h)) (has is_abort t (take m h)) (has asks_commit t (take m h))
      (is_commit (event_at h m)) (is_abort (event_at h m)) (asks_commit (event_at h m)) (eqb (event_at h m).transaction t))))

  pub status-slot : (m : ℕ) → m ≤ length h → (standing h t m).rank ≡ status_rank (status (take m h) t)
  unfolding status
  status-slot m l = ranked m l ∙ sym (rank-status (has is_commit t (take m h)) (has is_abort t (take m h)) (has asks_commit t (take m h)))

  pub status-table : (standing h t (length h)).rank ≡ status_rank (status h t)
  status-table = status-slot (length h) (le_refl _) ∙ ap (λ (g : List Event). status_rank (status g t)) (take-length h)

  -- how far it has come, where that alone is noted
  rank-alone : (m : ℕ) → slot Live rank_noted h t m ≡ (standing h t m).rank
  unfolding slot
  rank-alone zero = refl
  rank-alone (suc m) =
      ap (λ (x : Rank). cond (eqb (event_at h m).transaction t) (further x (rank_of (event_at h m))) x) (rank-alone m)
      ∙ sym (standing-more (λ (x : Transaction). x.rank) h t m)

-- ---- the tables of a whole history

pub rank-told : {h : List Event} {ranks : List Rank} → Ranked h ranks → (t : ℕ) → t < 64 → get_or ranks t Live ≡ status_rank (status h t)
rank-told {h} y t l = y.holds t l ∙ (rank-alone h t (length h) ∙ status-table h t)

module _ {h : List Event} {tables : List Transaction} (y : AllTabled h tables) where
  pub its-rank : (t : ℕ) → t < 64 → (get_or tables t blank).rank ≡ status_rank (status h t)
  its-rank t l = ap (λ (x : Transaction). x.rank) (y.holds t l) ∙ status-table h t

  pub its-order : (t u : ℕ) → t < 64 → u < 64 → earlier (get_or tables t blank).ended (get_or tables u blank).began ≡ precedes h t u
  its-order t u l m = (λ i. earlier (y.holds t l i).ended (y.holds u m i).began) ∙ sym (precedes-table h t u)
