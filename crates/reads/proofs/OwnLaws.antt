-- The last write of each transaction to each register, event by event, and what it says of a read.
-- Assumes nothing.
use Prim.Native.Nat.{ℕ, zero, suc, ◌+◌, ◌≤◌, ◌<◌}
use native.Mathlib.Nat.{not-suc-le-zero}
use native.Mathlib.Numerals.{add-one}
use native.Mathlib.Omega.{arith}
use mathlib.Core.Path.{◌≡◌, refl, sym, ap, ◌∙◌, subst}
use mathlib.Core.Logic.{⊎_elim}
use mathlib.Core.Bool.{Bool, true, false, not, cond}
use mathlib.Core.List.{List, []}
use mathlib.Core.Option.{none, some}
use lib.Dec.{eqb}
use mir.Val.{bool_byte}
use lib.ListN.{length, take, get_or, set, replicate, length-set, length-replicate, get_or-replicate}
use lib.Seq.{take-suc, get_or-set_same, get_or-set_other}
use borrow.Author.Tests.{eqb-true, eqb-false, ne_eqb}
use Rattle.lists.specs.Lists.{◌and◌, ◌implies◌, is_none, or_else, keep, latest, range}
use Rattle.lists.proofs.ListLaws.{and-false-l, and_false_r, eqb-self, latest-snoc, below-cases}
use Rattle.events.specs.declared.event.Event.{Event}
use Rattle.events.specs.Events.{no_event, event_at, is_read, is_write, by, begins}
use Rattle.events.specs.Questions.{readable}
use Rattle.opacity.specs.Transactions.{last_write, own_write, is_own_read, is_store_read, store_reads, is_value, own_right}
use Rattle.opacity.specs.Counts.{one}
use Rattle.events.proofs.RegisterLaws.{register-low}
use Rattle.opacity.proofs.Bounds.{transaction-known, transaction-low}
use Rattle.opacity.proofs.HowMany.{how-many-more, how-many-low}
use Rattle.reads.specs.Own.{last_at, noted, noted_at, reads_store, value_before, OwnWrites}

blank : (n r : ℕ) → ◌≡◌ {A = ℕ} (get_or (replicate n 0) r 0) 0
blank zero r = refl
blank (suc n) zero = refl
blank (suc n) (suc r) = blank n r

-- a table of rows of noughts
none-noted : (n t r : ℕ) → last_at (replicate n (replicate 32 0)) t r ≡ 0
none-noted zero t r = refl
none-noted (suc n) zero r = blank 32 r
none-noted (suc n) (suc t) r = none-noted n t r

-- an event of one of the first b transactions and of a register
pub record Low (b : ℕ) (e : Event) : Type 0 where
  pub transaction : e.transaction < b
  pub register : e.register < 32

-- every event has a slot among those of the transactions begun, of which there are at most 64
pub low : (h : List Event) → readable h ≡ true → (i : ℕ) → i < length h → Low (begins h) (event_at h i)
low h r i l = record { transaction = transaction-known h r i l; register = register-low h r i l }

pub low-64 : (h : List Event) → readable h ≡ true → (i : ℕ) → i < length h → Low 64 (event_at h i)
low-64 h r i l = record { transaction = transaction-low h r i l; register = register-low h r i l }

-- the last write with one event more
write-more : (h : List Event) (i : ℕ) → i < length h → (t r : ℕ)
    → last_write (take (i + 1) h) t r
    ≡ or_else (cond (by is_write t (event_at h i) and eqb (event_at h i).register r) (some (event_at h i).value) none) (last_write (take i h) t r)
unfolding last_write
write-more h i l t r = rw (add-one i, take-suc h i no_event l, latest-snoc)

-- the value behind what the table has after the event
value-noted : (h : List Event) (i x : ℕ) → value_before h (noted_at (event_at h i) i x) ≡ cond (is_write (event_at h i)) (some (event_at h i).value) (value_before h x)
value-noted h i x = go (is_write (event_at h i))
  where
    go : (b : Bool) → value_before h (cond b (i + 1) x) ≡ cond b (some (event_at h i).value) (value_before h x)
    go true = rw (add-one i)
    go false = refl

noted-low : (e : Event) (i x : ℕ) → x ≤ i → noted_at e i x ≤ i + 1
noted-low e i x l = go (is_write e)
  where
    go : (b : Bool) → cond b (i + 1) x ≤ i + 1
    go true = omega arith
    go false = omega arith

-- the table of last writes as the events before i leave it
pub record Lasts (h : List Event) (b : ℕ) (rows : List (List ℕ)) (i : ℕ) : Type 0 where
  pub inside : i ≤ length h
  pub room : b ≤ length rows
  pub wide : (t : ℕ) → t < b → length (get_or rows t []) ≡ 32
  pub early : (t r : ℕ) → last_at rows t r ≤ i
  pub holds : (t r : ℕ) → t < b → r < 32 → value_before h (last_at rows t r) ≡ last_write (take i h) t r

-- no event is noted in a table of noughts with rows for the transactions
pub lasts-first : (h : List Event) (b n : ℕ) → b ≤ n → Lasts h b (replicate n (replicate 32 0)) 0
unfolding last_write latest
lasts-first h b n l =
    record {
      inside = omega arith;
      room = omega (arith, length-replicate {A = List ℕ} n (replicate 32 0));
      wide = λ t m. ap length (get_or-replicate n t (replicate 32 0) [] (omega arith)) ∙ length-replicate {A = ℕ} 32 0;
      early = λ t r. omega (arith, none-noted n t r);
      holds = λ t r lt lr. rw (none-noted n t r);
    }

module _ (h : List Event) (b : ℕ) (rows : List (List ℕ)) (i : ℕ) (w : Lasts h b rows i) (l : i < length h)
    (low : Low b (event_at h i)) where
  abbrev T : ℕ
  T = (event_at h i).transaction

  abbrev R : ℕ
  R = (event_at h i).register

  abbrev row : List ℕ
  row = get_or rows T []

  abbrev v : ℕ
  v = noted_at (event_at h i) i (last_at rows T R)

  abbrev after : List (List ℕ)
  after = noted rows (event_at h i) i

  inside-table : T < length rows
  inside-table = omega (arith, low.transaction, w.room)

  inside-row : R < length row
  inside-row = omega (arith, low.register, w.wide T low.transaction)

  new-row : get_or after T [] ≡ set row R v
  new-row = get_or-set_same rows T (set row R v) [] inside-table

  old-row : (t : ℕ) → (t ≡ T → ⊥) → get_or after t [] ≡ get_or rows t []
  old-row t n = get_or-set_other rows T t (set row R v) [] n

  here : last_at after T R ≡ v
  here = ap (λ (x : List ℕ). get_or x R 0) new-row ∙ get_or-set_same row R v 0 inside-row

  other-register : (r : ℕ) → (r ≡ R → ⊥) → last_at after T r ≡ last_at rows T r
  other-register r n = ap (λ (x : List ℕ). get_or x r 0) new-row ∙ get_or-set_other row R r v 0 n

  other : (t r : ℕ) → (t ≡ T → ⊥) → last_at after t r ≡ last_at rows t r
  other t r n = ap (λ (x : List ℕ). get_or x r 0) (old-row t n)

  wide-more : (t : ℕ) → t < b → length (get_or after t []) ≡ 32
  wide-more t m = go (eqb t T) refl
    where
      go : (x : Bool) → eqb t T ≡ x → length (get_or after t []) ≡ 32
      go true e =
          let q : t ≡ T = eqb-true t T e in
          ap (λ (u : ℕ). length (get_or after u [])) q ∙ (ap length new-row ∙ (length-set row R v ∙ w.wide T low.transaction))
      go false e = ap length (old-row t (eqb-false t T e)) ∙ w.wide t m

  -- what stands at a register of a transaction after the event: the event's, or what stood there
  after-at : (P : ℕ → ℕ → ℕ → Type 0) → P T R v → ((t r : ℕ) → ((t ≡ T) × (r ≡ R) → ⊥) → P t r (last_at rows t r))
      → (t r : ℕ) → P t r (last_at after t r)
  after-at P new old t r = go (eqb t T) refl (eqb r R) refl
    where
      go : (x : Bool) → eqb t T ≡ x → (y : Bool) → eqb r R ≡ y → P t r (last_at after t r)
      go false p y q =
          let n : t ≡ T → ⊥ = eqb-false t T p in
          subst (P t r) (sym (other t r n)) (old t r (λ z. n z.0))
      go true p false q =
          let n : r ≡ R → ⊥ = eqb-false r R q in
          subst (λ (u : ℕ). P u r (last_at after u r)) (sym (eqb-true t T p))
          (subst (P T r) (sym (other-register r n)) (old T r (λ z. n z.1)))
      go true p true q =
          subst (λ (u : ℕ). P u r (last_at after u r)) (sym (eqb-true t T p))
          (subst (λ (y : ℕ). P T y (last_at after T y)) (sym (eqb-true r R q)) (subst (P T R) (sym here) new))

  -- the last write where the event stands is its own, if it writes, and elsewhere as before
  write-here : value_before h v ≡ last_write (take (i + 1) h) T R
  unfolding by ◌and◌
  write-here =
      value-noted h i (last_at rows T R)
      ∙ (ap (cond (is_write (event_at h i)) (some (event_at h i).value)) (w.holds T R low.transaction low.register)
      ∙ (plain (is_write (event_at h i)) ∙ sym (write-more h i l T R)))
    where
      plain : (b : Bool) → cond b (some (event_at h i).value) (last_write (take i h) T R)
          ≡ or_else (cond ((eqb T T and b) and eqb R R) (some (event_at h i).value) none) (last_write (take i h) T R)
      plain true = rw (eqb-self T, eqb-self R)
      plain false = rw (eqb-self T)

  write-elsewhere : (t r : ℕ) → ((t ≡ T) × (r ≡ R) → ⊥) → last_write (take i h) t r ≡ last_write (take (i + 1) h) t r
  unfolding by
  write-elsewhere t r n =
      sym (write-more h i l t r
      ∙ ap (λ (b : Bool). or_else (cond b (some (event_at h i).value) none) (last_write (take i h) t r)) none-here)
    where
      none-here : (by is_write t (event_at h i) and eqb R r) ≡ false
      none-here = go (eqb T t) refl (eqb R r) refl
        where
          go : (x : Bool) → eqb T t ≡ x → (y : Bool) → eqb R r ≡ y → (by is_write t (event_at h i) and eqb R r) ≡ false
          go false p y q = and-false-l _ (eqb R r) (and-false-l (eqb T t) (is_write (event_at h i)) p)
          go true p false q = and_false_r _ (eqb R r) q
          go true p true q = absurd (n (sym (eqb-true T t p), sym (eqb-true R r q)))

  pub lasts-more : Lasts h b after (i + 1)
  lasts-more =
      record {
        inside = omega arith;
        room = omega (arith, length-set rows T (set row R v), w.room);
        wide = wide-more;
        early = after-at (λ t r x. x ≤ i + 1) (noted-low (event_at h i) i (last_at rows T R) (w.early T R))
            (λ t r n. omega (arith, w.early t r));
        holds = after-at (λ t r x. t < b → r < 32 → value_before h x ≡ last_write (take (i + 1) h) t r)
            (λ lt lr. write-here) (λ t r n lt lr. w.holds t r lt lr ∙ write-elsewhere t r n);
      }

-- own writes of the events before i
pub record Owned (h : List Event) (own : List ℕ) (i : ℕ) : Type 0 where
  pub earlier : (j : ℕ) → j < i → get_or own j 0 ≤ j
  pub holds : (j : ℕ) → j < i → value_before h (get_or own j 0) ≡ own_write h j

pub owned-none : (h : List Event) (own : List ℕ) → Owned h own 0
owned-none h own = record { earlier = λ j l. absurd (not-suc-le-zero l); holds = λ j l. absurd (not-suc-le-zero l) }

-- what stands in the table at the event's register is its own write
module _ (h : List Event) (b : ℕ) (rows : List (List ℕ)) (i : ℕ) (w : Lasts h b rows i) (low : Low b (event_at h i)) (x : ℕ)
    (found : x ≡ last_at rows (event_at h i).transaction (event_at h i).register) where
  found_early : x ≤ i
  found_early = omega (arith, w.early (event_at h i).transaction (event_at h i).register)

  found-own : value_before h x ≡ own_write h i
  unfolding own_write
  found-own = ap (value_before h) found ∙ w.holds _ _ low.transaction low.register

  pub owned-more : (own : List ℕ) → i < length own → Owned h own i → Owned h (set own i x) (i + 1)
  owned-more own room o =
      record {
        earlier = λ j m.
            ⊎_elim
            (λ e. subst (λ (m : ℕ). get_or (set own i x) m 0 ≤ m) (sym e) (rw (get_or-set_same own i x 0 room) found_early))
            (λ n. rw (old j n) (o.earlier j n))
            (below-cases (rw add-one at m));
        holds = λ j m.
            ⊎_elim
            (λ e.
            subst (λ (m : ℕ). value_before h (get_or (set own i x) m 0) ≡ own_write h m) (sym e)
            (ap (value_before h) (get_or-set_same own i x 0 room) ∙ found-own))
            (λ n. rw (old j n) (o.holds j n))
            (below-cases (rw add-one at m));
      }
    where
      old : (j : ℕ) → j < i → get_or (set own i x) j 0 ≡ get_or own j 0
      old j n = get_or-set_other own i j x 0 (λ z. omega arith)

  -- and so it says whether the event reads the store
  pub its-read : is_store_read h i ≡ reads_store (event_at h i) x
  unfolding is_store_read own_write ◌and◌
  its-read = go x found-own
    where
      plain : (q : Bool) → (q and true) ≡ q
      plain true = refl
      plain false = refl

      go : (y : ℕ) → value_before h y ≡ own_write h i → (is_read (event_at h i) and is_none (own_write h i)) ≡ reads_store (event_at h i) y
      go zero v = rw (← v) (plain (is_read (event_at h i)))
      go (suc j) v = rw (← v, ne_eqb (suc j) 0 (λ z. omega arith)) (and_false_r (is_read (event_at h i)) false refl)

pub owned-done : (h : List Event) (own : List ℕ) (i : ℕ) → length h ≤ length own → length h ≤ i → Owned h own i → OwnWrites h own
owned-done h own i m l w = record { room = m; earlier = λ j m. w.earlier j (omega arith); holds = λ j m. w.holds j (omega arith) }

-- ---- what it says of a read

module _ (h : List Event) (own : List ℕ) (o : OwnWrites h own) (i : ℕ) (l : i < length h) where
  none_before : (x : ℕ) → value_before h x ≡ own_write h i → x ≡ 0 → is_none (own_write h i) ≡ true
  none_before x v z = ap is_none (sym v) ∙ ap (λ (y : ℕ). is_none (value_before h y)) z

  some-before : (x : ℕ) → value_before h x ≡ own_write h i → (x ≡ 0 → ⊥) → is_none (own_write h i) ≡ false
  some-before zero v n = absurd (n refl)
  some-before (suc x) v n = ap is_none (sym v)

  pub no_own : get_or own i 0 ≡ 0 → is_store_read h i ≡ is_read (event_at h i)
  unfolding is_store_read ◌and◌
  no_own z = ap (λ (b : Bool). is_read (event_at h i) and b) (none_before (get_or own i 0) (o.holds i l) z) ∙ plain (is_read (event_at h i))
    where
      plain : (b : Bool) → (b and true) ≡ b
      plain true = refl
      plain false = refl

  pub some-own : (get_or own i 0 ≡ 0 → ⊥) → is_store_read h i ≡ false
  unfolding is_store_read
  some-own n = and_false_r (is_read (event_at h i)) _ (some-before (get_or own i 0) (o.holds i l) n)

  pub store-read : is_store_read h i ≡ reads_store (event_at h i) (get_or own i 0)
  store-read = go (eqb (get_or own i 0) 0) refl
    where
      go : (b : Bool) → eqb (get_or own i 0) 0 ≡ b → is_store_read h i ≡ cond b (is_read (event_at h i)) false
      go true e = no_own (eqb-true _ 0 e)
      go false e = some-own (eqb-false _ 0 e)

  -- rule C: without an own write nothing is asked, nor of what is no read
  pub right-none : get_or own i 0 ≡ 0 → own_right h i ≡ true
  unfolding own_right is_own_read ◌implies◌
  right-none z =
      let f : (is_read (event_at h i) and not (is_none (own_write h i))) ≡ false =
      and_false_r (is_read (event_at h i)) _ (ap not (none_before (get_or own i 0) (o.holds i l) z)) in
      ap (λ (b : Bool). b implies is_value (event_at h i).value (own_write h i)) f

  pub right-other : is_read (event_at h i) ≡ false → own_right h i ≡ true
  unfolding own_right is_own_read ◌implies◌
  right-other r = ap (λ (b : Bool). b implies is_value (event_at h i).value (own_write h i)) (and-false-l _ (not (is_none (own_write h i))) r)

  -- and an own read must return what was written
  pub right-own : (j : ℕ) → get_or own i 0 ≡ suc j → is_read (event_at h i) ≡ true → own_right h i ≡ eqb (event_at h i).value (event_at h j).value
  unfolding own_right is_own_read ◌implies◌ ◌and◌
  right-own j e r =
      let v : own_write h i ≡ some (event_at h j).value = sym (o.holds i l) ∙ ap (value_before h) e in
      rw (r, v)

-- ---- how many there are

pub one-byte : (b : Bool) → bool_byte b ≡ one b
one-byte true = refl
one-byte false = refl

pub one-low : (b : Bool) → one b ≤ 1
one-low true = omega arith
one-low false = omega arith

pub reads_more : (h : List Event) (i : ℕ)
    → length (keep (is_store_read h) (range (i + 1))) ≡ length (keep (is_store_read h) (range i)) + one (is_store_read h i)
reads_more h i = how-many-more (is_store_read h) i

pub reads-few : (h : List Event) (i : ℕ) → length (keep (is_store_read h) (range i)) ≤ i
reads-few h i = how-many-low (is_store_read h) i

pub reads_all : (h : List Event) (i : ℕ) → i ≡ length h → length (keep (is_store_read h) (range i)) ≡ length (store_reads h)
unfolding store_reads
reads_all h i e = rw e
