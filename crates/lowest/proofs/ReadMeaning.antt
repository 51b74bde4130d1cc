-- What the table says of reads: it holds what each store read returns, and the set of contradictory transactions has those with a read that is
-- wrong wherever they are placed.
-- Assumes nothing.
use mathlib.Core.Path.{◌≡◌, refl, sym, ap, ap₂, ◌∙◌}
use mathlib.Core.Logic.{◌⊎◌, inl, inr, ⊎_elim}
use Prim.Native.Nat.{ℕ, zero, suc, ◌+◌, ◌≤◌, ◌<◌}
use native.Mathlib.Nat.{le_of_lt, lt-suc_self, le_step, not-suc-le-zero}
use native.Mathlib.Omega.{arith}
use mathlib.Core.Bool.{Bool, true, false, not, cond, true≢false, false≢true}
use mathlib.Core.List.{List, []}
use mathlib.Core.Option.{Option, none, some}
use lib.ListN.{length}
use lib.Dec.{eqb}
use borrow.Author.Tests.{eqb-true, eqb-false, eq-eqb, ne_eqb}
use Rattle.lists.specs.Lists.{◌and◌, ◌implies◌, is_none}
use Rattle.events.specs.declared.event.Event.{Event}
use Rattle.events.specs.Events.{event_at, is_read}
use Rattle.opacity.specs.Transactions.{own_write, is_own_read, is_store_read, own_right, is_value}
use Rattle.lists.proofs.ListLaws.{and_l, and_r, below-cases}
use Rattle.lists.specs.Bits.{bit_at}
use Rattle.places.specs.Facts.{required_of, written_of}
use Rattle.places.specs.Places.{plus}
use Rattle.lists.proofs.BitLaws.{bit-none}
use Rattle.tables.specs.declared.Tables.{Tables}
use Rattle.tables.specs.Tables.{Tabled, clashes, expected, contradicts, reads_store, next, empty, go_through, tables_of}
use Rattle.tables.proofs.PutLaws.{required-next}
use Rattle.lowest.proofs.Meaning.{Good, tab, tab-suc, has_room, shaped, bit-joined, written-holds, fact-zero}

no-clash : (old v : ℕ) → clashes old v ≡ false → (old ≡ 0 → ⊥) → old ≡ v
unfolding clashes ◌and◌
no-clash old v q z = go (eqb old 0) refl (eqb old v) refl q
  where
    go : (a : Bool) → eqb old 0 ≡ a → (b : Bool) → eqb old v ≡ b → (not a and not b) ≡ false → old ≡ v
    go true e b f k = absurd (z (eqb-true old 0 e))
    go false e true f k = eqb-true old v f
    go false e false f k = absurd (true≢false k)

a-clash : (old v : ℕ) → clashes old v ≡ true → (old ≡ 0 → ⊥) × (old ≡ v → ⊥)
unfolding clashes ◌and◌
a-clash old v q = go (eqb old 0) refl (eqb old v) refl q
  where
    go : (a : Bool) → eqb old 0 ≡ a → (b : Bool) → eqb old v ≡ b → (not a and not b) ≡ true → (old ≡ 0 → ⊥) × (old ≡ v → ⊥)
    go true e b f k = absurd (false≢true k)
    go false e true f k = absurd (false≢true k)
    go false e false f k = (eqb-false old 0 e, eqb-false old v f)

-- a store read of r by t below n that returns v, as the table holds it
pub record Wanted (h : List Event) (n t r v : ℕ) : Type 0 where
  pub event : ℕ
  pub inside : event < n
  pub store : is_store_read h event ≡ true
  pub transaction : (event_at h event).transaction ≡ t
  pub register : (event_at h event).register ≡ r
  pub value : v ≡ (event_at h event).value + 1

-- a read of t below n is wrong wherever t is placed
pub data Bad (h : List Event) (n t : ℕ) : Type 0 where
  wrong : (i : ℕ) → i < n → (event_at h i).transaction ≡ t → own_right h i ≡ false → Bad h n t
  apart : (i j : ℕ) → i < n → j < n → is_store_read h i ≡ true → is_store_read h j ≡ true → (event_at h i).transaction ≡ t → (event_at h j).transaction ≡ t
      → (event_at h i).register ≡ (event_at h j).register → ((event_at h i).value ≡ (event_at h j).value → ⊥) → Bad h n t

-- what the facts f and the set of contradictory transactions say of the reads below n
pub record Reads (h : List Event) (n : ℕ) (f : List (List ℕ)) (set : ℕ) : Type 0 where
  pub each : (i : ℕ) → i < n → bit_at (event_at h i).transaction set ≡ 0 → is_store_read h i ≡ true
      → required_of f (event_at h i).transaction (event_at h i).register ≡ (event_at h i).value + 1
  pub own : (i : ℕ) → i < n → bit_at (event_at h i).transaction set ≡ 0 → own_right h i ≡ true
  pub some_read : (t r : ℕ) → t < 10 → r < 32 → (required_of f t r ≡ 0) ⊎ Wanted h n t r (required_of f t r)
  pub bad : (t : ℕ) → bit_at t set ≡ 1 → Bad h n t

bad_more : (h : List Event) (n t : ℕ) → Bad h n t → Bad h (suc n) t
bad_more h n t (wrong i l p q) = wrong i (le_step l) p q
bad_more h n t (apart i j l k a b c d e g) = apart i j (le_step l) (le_step k) a b c d e g

wanted-more : (h : List Event) (n t r v : ℕ) → Wanted h n t r v → Wanted h (suc n) t r v
wanted-more h n t r v w =
    record { event = w.event; inside = le_step w.inside; store = w.store; transaction = w.transaction; register = w.register; value = w.value }

-- ---- event n, as the facts of the events before it have it

module _ (h : List Event) (n : ℕ) (f : List (List ℕ)) (held : written_of f (event_at h n).transaction (event_at h n).register ≡ plus (own_write h n)) where
  pub store_same : reads_store f (event_at h n) ≡ is_store_read h n
  unfolding reads_store is_store_read
  store_same = ap (λ (b : Bool). is_read (event_at h n) and b) (ap (λ (x : ℕ). eqb x 0) held ∙ go (own_write h n))
    where
      go : (o : Option ℕ) → eqb (plus o) 0 ≡ is_none o
      go none = refl
      go (some v) = ne_eqb (v + 1) 0 (λ m. omega arith)

  expected-own : (v : ℕ) → own_write h n ≡ some v → expected f (event_at h n) ≡ v + 1
  unfolding expected
  expected-own v o =
      let z : written_of f (event_at h n).transaction (event_at h n).register ≡ v + 1 = held ∙ ap plus o in
      let x : eqb (v + 1) 0 ≡ false = ne_eqb (v + 1) 0 (λ m. omega arith) in
      rw (z, x)

  expected-store : own_write h n ≡ none → expected f (event_at h n) ≡ required_of f (event_at h n).transaction (event_at h n).register
  unfolding expected
  expected-store o = let z : written_of f (event_at h n).transaction (event_at h n).register ≡ 0 = held ∙ ap plus o in rw z

  a_read : is_read (event_at h n) ≡ true → contradicts f (event_at h n) ≡ clashes (expected f (event_at h n)) ((event_at h n).value + 1)
  unfolding contradicts ◌and◌
  a_read q = rw q

  -- it does not contradict: an own read is right, and a store read returns what is required
  right-own : contradicts f (event_at h n) ≡ false → own_right h n ≡ true
  unfolding own_right is_own_read ◌and◌ ◌implies◌
  right-own c = go (is_read (event_at h n)) refl (own_write h n) refl
    where
      go : (r : Bool) → is_read (event_at h n) ≡ r → (o : Option ℕ) → own_write h n ≡ o → ((r and not (is_none o)) implies is_value (event_at h n).value o) ≡ true
      go false q o w = refl
      go true q none w = refl
      go true q (some v) w =
          let k : clashes (v + 1) ((event_at h n).value + 1) ≡ false = ap (λ (x : ℕ). clashes x ((event_at h n).value + 1)) (sym (expected-own v w)) ∙ sym (a_read q) ∙ c in
          eq-eqb (event_at h n).value v (omega (arith, no-clash (v + 1) ((event_at h n).value + 1) k (λ z. omega arith)))

  no_own : is_store_read h n ≡ true → own_write h n ≡ none
  unfolding is_store_read
  no_own s = go (own_write h n) (and_r _ _ s)
    where
      go : (o : Option ℕ) → is_none o ≡ true → o ≡ none
      go none t = refl
      go (some v) t = absurd (false≢true t)

  right-store : is_store_read h n ≡ true → contradicts f (event_at h n) ≡ false
      → (required_of f (event_at h n).transaction (event_at h n).register ≡ 0 → ⊥)
      → required_of f (event_at h n).transaction (event_at h n).register ≡ (event_at h n).value + 1
  unfolding is_store_read
  right-store s c z =
      let k : clashes (required_of f (event_at h n).transaction (event_at h n).register) ((event_at h n).value + 1) ≡ false =
      ap (λ (x : ℕ). clashes x ((event_at h n).value + 1)) (sym (expected-store (no_own s))) ∙ sym (a_read (and_l _ _ s)) ∙ c in
      no-clash _ _ k z

  -- it does: an own read is wrong, or a store read returns another value than one before it
  contradicted : (set : ℕ) → Reads h n f set → (event_at h n).transaction < 10 → (event_at h n).register < 32 → contradicts f (event_at h n) ≡ true → Bad h (suc n) (event_at h n).transaction
  unfolding contradicts is_store_read own_right is_own_read ◌and◌ ◌implies◌
  contradicted set rs lt lr c = go (is_read (event_at h n)) refl (own_write h n) refl
    where
      go : (r : Bool) → is_read (event_at h n) ≡ r → (o : Option ℕ) → own_write h n ≡ o → Bad h (suc n) (event_at h n).transaction
      go false q o w = absurd (false≢true (rw q at c))
      go true q (some v) w =
          let k : clashes (v + 1) ((event_at h n).value + 1) ≡ true = ap (λ (x : ℕ). clashes x ((event_at h n).value + 1)) (sym (expected-own v w)) ∙ sym (a_read q) ∙ c in
          wrong n (lt-suc_self n) refl (rw (q, w) (ne_eqb (event_at h n).value v (λ e. (a-clash (v + 1) ((event_at h n).value + 1) k).1 (omega arith))))
      go true q none w =
          let k : clashes (required_of f (event_at h n).transaction (event_at h n).register) ((event_at h n).value + 1) ≡ true =
          ap (λ (x : ℕ). clashes x ((event_at h n).value + 1)) (sym (expected-store w)) ∙ sym (a_read q) ∙ c in
          ⊎_elim (λ z. absurd ((a-clash _ _ k).0 z))
          (λ x. apart x.event n (le_step x.inside) (lt-suc_self n) x.store (rw (q, w)) x.transaction refl x.register (λ e. (a-clash _ _ k).1 (x.value ∙ ap (λ (m : ℕ). m + 1) e)))
          (rs.some_read (event_at h n).transaction (event_at h n).register lt lr)

-- ---- one event more

module _ (h : List Event) (n : ℕ) (f F : List (List ℕ)) (set S : ℕ) (room : (i : ℕ) → i < suc n → Tabled (event_at h i))
    (held : written_of f (event_at h n).transaction (event_at h n).register ≡ plus (own_write h n)) (rs : Reads h n f set)
    (req : (u q : ℕ) → q < 32 → required_of F u q
    ≡ cond ((eqb (event_at h n).transaction u and is_store_read h n) and eqb (event_at h n).register q) ((event_at h n).value + 1) (required_of f u q))
    (bit : (x : ℕ) → bit_at x S ≡ cond (eqb (event_at h n).transaction x and contradicts f (event_at h n)) 1 (bit_at x set)) where
  -- one that is not contradictory was not, and event n does not make it so
  cleared : (x : ℕ) → bit_at x S ≡ 0 → (bit_at x set ≡ 0) × ((event_at h n).transaction ≡ x → contradicts f (event_at h n) ≡ false)
  unfolding ◌and◌
  cleared x z = go (eqb (event_at h n).transaction x) refl (contradicts f (event_at h n)) refl (sym (bit x) ∙ z)
    where
      go : (d : Bool) → eqb (event_at h n).transaction x ≡ d → (c : Bool) → contradicts f (event_at h n) ≡ c → cond (d and c) 1 (bit_at x set) ≡ 0
          → (bit_at x set ≡ 0) × ((event_at h n).transaction ≡ x → contradicts f (event_at h n) ≡ false)
      go true p true q k = absurd (omega arith)
      go true p false q k = (k, λ m. q)
      go false p c q k = (k, λ m. absurd (eqb-false _ _ p m))

  each-here : is_store_read h n ≡ true → required_of F (event_at h n).transaction (event_at h n).register ≡ (event_at h n).value + 1
  unfolding ◌and◌
  each-here s =
      let a : eqb (event_at h n).transaction (event_at h n).transaction ≡ true = eq-eqb (event_at h n).transaction _ refl in
      let b : eqb (event_at h n).register (event_at h n).register ≡ true = eq-eqb (event_at h n).register _ refl in
      req (event_at h n).transaction (event_at h n).register (room n (lt-suc_self n)).register ∙ (rw (a, s, b))

  each-before : (i : ℕ) → i < n → bit_at (event_at h i).transaction S ≡ 0 → is_store_read h i ≡ true
      → required_of F (event_at h i).transaction (event_at h i).register ≡ (event_at h i).value + 1
  unfolding ◌and◌
  each-before i l z s =
      req (event_at h i).transaction (event_at h i).register (room i (le_step l)).register
      ∙ go (eqb (event_at h n).transaction (event_at h i).transaction) refl (is_store_read h n) refl (eqb (event_at h n).register (event_at h i).register) refl
    where
      known : required_of f (event_at h i).transaction (event_at h i).register ≡ (event_at h i).value + 1
      known = rs.each i l (cleared _ z).0 s

      go : (a : Bool) → eqb (event_at h n).transaction (event_at h i).transaction ≡ a → (b : Bool) → is_store_read h n ≡ b
          → (c : Bool) → eqb (event_at h n).register (event_at h i).register ≡ c
          → cond ((a and b) and c) ((event_at h n).value + 1) (required_of f (event_at h i).transaction (event_at h i).register) ≡ (event_at h i).value + 1
      go true p true q true r =
          let same : required_of f (event_at h n).transaction (event_at h n).register ≡ (event_at h i).value + 1 =
          ap₂ (λ (x y : ℕ). required_of f x y) (eqb-true _ _ p) (eqb-true _ _ r) ∙ known in
          sym (right-store h n f held q ((cleared _ z).1 (eqb-true _ _ p)) (λ k. omega arith)) ∙ same
      go true p true q false r = known
      go true p false q c r = known
      go false p b q c r = known

  wanted : (t r : ℕ) → t < 10 → r < 32 → (required_of F t r ≡ 0) ⊎ Wanted h (suc n) t r (required_of F t r)
  unfolding ◌and◌
  wanted t r lt lr = go (eqb (event_at h n).transaction t) refl (is_store_read h n) refl (eqb (event_at h n).register r) refl (req t r lr)
    where
      before : required_of F t r ≡ required_of f t r → (required_of F t r ≡ 0) ⊎ Wanted h (suc n) t r (required_of F t r)
      before k = ⊎_elim (λ z. inl (k ∙ z)) (λ x. inr (rw k (wanted-more h n t r _ x))) (rs.some_read t r lt lr)

      go : (a : Bool) → eqb (event_at h n).transaction t ≡ a → (b : Bool) → is_store_read h n ≡ b → (c : Bool) → eqb (event_at h n).register r ≡ c
          → required_of F t r ≡ cond ((a and b) and c) ((event_at h n).value + 1) (required_of f t r) → (required_of F t r ≡ 0) ⊎ Wanted h (suc n) t r (required_of F t r)
      go true p true q true s k =
          inr (record { event = n; inside = lt-suc_self n; store = q; transaction = eqb-true _ _ p; register = eqb-true _ _ s; value = k })
      go true p true q false s k = before k
      go true p false q c s k = before k
      go false p b q c s k = before k

  bad-now : (t : ℕ) → bit_at t S ≡ 1 → Bad h (suc n) t
  unfolding ◌and◌
  bad-now t z = go (eqb (event_at h n).transaction t) refl (contradicts f (event_at h n)) refl (sym (bit t) ∙ z)
    where
      its : Tabled (event_at h n)
      its = room n (lt-suc_self n)

      go : (a : Bool) → eqb (event_at h n).transaction t ≡ a → (b : Bool) → contradicts f (event_at h n) ≡ b → cond (a and b) 1 (bit_at t set) ≡ 1 → Bad h (suc n) t
      go true p true q k =
          let w : Bad h (suc n) (event_at h n).transaction = contradicted h n f held set rs its.transaction its.register q in
          let s : (event_at h n).transaction ≡ t = eqb-true _ _ p in
          rw s at w
      go true p false q k = bad_more h n t (rs.bad t k)
      go false p b q k = bad_more h n t (rs.bad t k)

  pub reads_more : Reads h (suc n) F S
  reads_more =
      record {
        each = λ i l z s. ⊎_elim (λ e. rw e (each-here (rw e at s))) (λ m. each-before i m z s) (below-cases l);
        own = λ i l z. ⊎_elim (λ e. rw e (right-own h n f held ((cleared _ z).1 (ap (λ (k : ℕ). (event_at h k).transaction) (sym e))))) (λ m. rs.own i m (cleared _ z).0) (below-cases l);
        some_read = wanted;
        bad = bad-now;
      }

module _ (h : List Event) (good : Good h) where
  -- what the table has of the writes of event n's transaction to its register
  pub own_held : (n : ℕ) → n < length h → written_of (tab h good n).facts (event_at h n).transaction (event_at h n).register ≡ plus (own_write h n)
  unfolding own_write
  own_held n l = written-holds h good n (le_of_lt l) (event_at h n).transaction (event_at h n).register (good n l).transaction (good n l).register

  reads_none : Reads h 0 (tables_of []).facts (tables_of []).contradictory
  unfolding tables_of go_through empty
  reads_none =
      record {
        each = λ i m z s. absurd (not-suc-le-zero m);
        own = λ i m z. absurd (not-suc-le-zero m);
        some_read = λ t r lt lr. inl (fact-zero t (3 + r) (omega arith) (omega arith));
        bad = λ t z. absurd (omega (arith, bit-none t));
      }

  pub reads-hold : (n : ℕ) → n ≤ length h → Reads h n (tab h good n).facts (tab h good n).contradictory
  unfolding next
  reads-hold zero l = reads_none
  reads-hold (suc n) l =
      rw (tab-suc h good n l)
      (reads_more h n s.facts _ s.contradictory _ (λ i m. has_room h good i (omega arith)) (own_held n l) (reads-hold n (le_of_lt l)) req
      (bit-joined s.contradictory (contradicts s.facts e) e.transaction))
    where
      s : Tables
      s = tab h good n

      e : Event
      e = event_at h n

      req : (u q : ℕ) → q < 32 → required_of (next s e).facts u q ≡ cond ((eqb e.transaction u and is_store_read h n) and eqb e.register q) (e.value + 1) (required_of s.facts u q)
      req u q k =
          required-next s.ended s.facts (shaped h good n (le_of_lt l)) e (has_room h good n l) u q k
          ∙ ap (λ (b : Bool). cond ((eqb e.transaction u and b) and eqb e.register q) (e.value + 1) (required_of s.facts u q)) (store_same h n s.facts (own_held n l))
