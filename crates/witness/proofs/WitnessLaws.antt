-- Laws of the witness: what the code computes of it is what the definitions say, and where it is kept it justifies one event more.
-- Assumes nothing.
use Rattle.std.specs.Prelude.{Option as Answer, Some, None}
use mathlib.Core.Path.{◌≡◌, refl, sym, ap, ap₂, ◌∙◌}
use Prim.Native.Nat.{ℕ, ◌+◌, ◌*◌, ◌-◌, ◌/◌, ◌%◌, ◌^◌, ◌≤◌, ◌<◌}
use native.Mathlib.Nat.{le_of_lt}
use native.Mathlib.Numerals.{add-one}
use native.Mathlib.Omega.{arith}
use mathlib.Core.Bool.{Bool, true, false, not, cond, false≢true}
use mathlib.Core.List.{List, [], ◌∷◌, ◌++◌}
use mathlib.Core.Option.{Option, none, some, get_or}
use lib.Dec.{eqb, ltb}
use lib.ListN.{length, take}
use lib.Pow.{pow-add, pow_mono}
use borrow.Author.Tests.{eq-eqb, ne_eqb, ltb-true, lt-ltb}
use Rattle.lists.specs.Lists.{◌or◌, ◌implies◌, all}
use Rattle.events.specs.declared.event.Event.{Event}
use Rattle.events.specs.Events.{event_at, is_begin, is_read, is_commit, is_abort, is_end, begins}
use Rattle.event_log.specs.Starts.{start_of}
use Rattle.lists.proofs.ListLaws.{and_l, and_r, and_i, nor-l, nor-r, all-weaken}
use Rattle.events.proofs.EventLaws.{begins-snoc, begins-same}
use Rattle.events.proofs.QuestionLaws as asking
use Rattle.opacity.specs.Transactions.{last_write}
use Rattle.opacity.specs.Justification.{Place, is_of, before, outcome, contents, is_order, Justified}
use Rattle.opacity.specs.Lowest.{place}
use Rattle.opacity.specs.Marking.{outcome_number}
use Rattle.opacity.specs.Carry.{seen, carries, carried}
use Rattle.opacity.proofs.Carry.{carried-justified}
use Rattle.places.specs.Facts.{written_of}
use Rattle.places.specs.Places.{codes_of, coded, decode, plus, writes_in}
use Rattle.places.specs.Tree.{Completion, Answers}
use Rattle.places.proofs.StateLaws.{one_more}
use Rattle.places.proofs.LookupLaws.{held, decode-snoc}
use Rattle.tables.specs.Tables.{Tabled, tables_of}
use Rattle.lowest.specs.Order.{Judged}
use Rattle.tables.proofs.TableLaws.{take_more}
use Rattle.lowest.proofs.GoodHistory.{good, tabled}
use Rattle.lowest.proofs.LookupLink.{last-held, contents-held}
use Rattle.lowest.proofs.JudgedLaws.{judged-prefix}
use Rattle.witness.specs.Witness.{code_of, carried_code, kept, Carryable, Judges}

-- ---- what a transaction reads

module _ (start : ℕ → ℕ) (w : List (List ℕ)) (J : List Place) (t r : ℕ) where
  pub seen-own : (v : ℕ) → v ≡ written_of w t r → (v ≡ 0 → ⊥) → v - 1 ≡ seen start (writes_in w) J t r
  unfolding seen
  seen-own v e f = go (last_write (writes_in w) t r) (e ∙ sym (held t r w))
    where
      go : (o : Option ℕ) → v ≡ plus o → v - 1 ≡ get_or o (contents start (writes_in w) (before t J) r)
      go none k = absurd (f k)
      go (some y) k = omega arith

  pub seen-store : written_of w t r ≡ 0 → contents start (writes_in w) (before t J) r ≡ seen start (writes_in w) J t r
  unfolding seen
  seen-store e = go (last_write (writes_in w) t r) (held t r w ∙ e)
    where
      go : (o : Option ℕ) → plus o ≡ 0 → contents start (writes_in w) (before t J) r ≡ get_or o (contents start (writes_in w) (before t J) r)
      go none k = refl
      go (some y) k = absurd (omega arith)

-- ---- what an event leaves of the witness

module _ (starts : List ℕ) (w : List (List ℕ)) (n order : ℕ) (e : Event) where
  -- one that begins reads what its register holds after the order
  module _ (b : is_begin e ≡ true) (code : ℕ) (its : code ≡ code_of e) where
    pub kept-lone-read : is_read e ≡ true → (v x : ℕ) → v ≡ contents (start_of starts) (writes_in w) (decode (codes_of n order)) e.register → x ≡ e.value
        → cond (eqb v x) (Some (order * 32 + code)) None ≡ kept starts w n order e
    unfolding kept carries carried_code ◌implies◌
    kept-lone-read r v x p q = rw (its, p, q, b, r)

    pub kept-begin : is_read e ≡ false → Some (order * 32 + code) ≡ kept starts w n order e
    unfolding kept carries carried_code ◌implies◌
    kept-begin r = rw (its, b, r)

  module _ (b : is_begin e ≡ false) where
    pub kept_read : is_read e ≡ true
        → cond (eqb (seen (start_of starts) (writes_in w) (decode (codes_of n order)) e.transaction e.register) e.value) (Some order) None
        ≡ kept starts w n order e
    unfolding kept carries carried_code
    kept_read r = rw (b, r)

    pub kept-end : is_read e ≡ false → is_end e ≡ true
        → cond (cond (is_commit e) (outcome e.transaction (decode (codes_of n order))) (not (outcome e.transaction (decode (codes_of n order))))) (Some order) None
        ≡ kept starts w n order e
    unfolding kept carries carried_code is_end ◌or◌
    kept-end r t = rw (b, r) (go (is_commit e) (is_abort e) t)
      where
        go : (c a : Bool) → (c or a) ≡ true
            → cond (cond c (outcome e.transaction (decode (codes_of n order))) (not (outcome e.transaction (decode (codes_of n order))))) (Some order) None
            ≡ cond (cond c (outcome e.transaction (decode (codes_of n order))) (cond a (not (outcome e.transaction (decode (codes_of n order)))) true)) (Some order) None
        go true a k = refl
        go false true k = refl
        go false false k = absurd (false≢true k)

-- what begins, reads and ends nothing leaves the order
pub kept-quiet : (starts : List ℕ) (w : List (List ℕ)) (n order : ℕ) (e : Event) → is_begin e ≡ false → is_read e ≡ false → is_end e ≡ false
    → Some order ≡ kept starts w n order e
unfolding kept carries carried_code is_end
kept-quiet starts w n order e b r t = rw (b, r, nor-l _ _ t, nor-r _ _ t)

-- there is room for one place more
pub room-more : (n order : ℕ) → n < 10 → order < 2 ^ (n * 5 + 1) → order < 2 ^ 46
room-more n order l h = let m : 2 ^ (n * 5 + 1) ≤ 2 ^ 46 = pow_mono {i = n * 5 + 1} {j = 46} (omega arith) in omega arith

-- the order after an event: the one that was kept, or the answer of the search
pub judged-kept : {kept a : Answer ℕ} {n order : ℕ} {x : Completion} → kept ≡ Some order → a ≡ kept → Judges kept n a x
judged-kept z e = record { stays = rw z (e ∙ z); searched = λ f. cc }

pub judged-anew : {kept a found : Answer ℕ} {n : ℕ} {x : Completion} → kept ≡ None → a ≡ found → Answers n found x → Judges kept n a x
judged-anew z e w = record { stays = rw z tt; searched = λ f. rw e w }

-- ---- the order, carried on

before-all : (q : Place → Bool) (u : ℕ) (J : List Place) → all q J ≡ true → all q (before u J) ≡ true
unfolding all before
before-all q u [] a = refl
before-all q u (p ∷ J) a = go (is_of u p) (before-all q u J (and_r _ _ a))
  where
    go : (b : Bool) → all q (before u J) ≡ true → all q (cond b [] (p ∷ before u J)) ≡ true
    go true i = refl
    go false i = and_i _ _ (and_l _ _ a) i

-- the code of a place, from its transaction and its outcome
pub code-low : (t : ℕ) (c : Bool) → t < 10 → t * 2 + outcome_number c < 20
code-low t true l = omega arith
code-low t false l = omega arith

-- one place more in the number
code-more : (n order t : ℕ) (c : Bool) → t < 10
    → decode (codes_of (n + 1) (order * 32 + (t * 2 + outcome_number c))) ≡ decode (codes_of n order) ++ (place t c ∷ [])
code-more n order t c l =
    rw (one_more n order (t * 2 + outcome_number c) (omega (arith, code-low t c l)), decode-snoc (codes_of n order) (t * 2 + outcome_number c)) (go c)
  where
    go : (c : Bool) → decode (codes_of n order) ++ (coded (t * 2 + outcome_number c) ∷ []) ≡ decode (codes_of n order) ++ (place t c ∷ [])
    go true =
        let a : (t * 2 + 1) / 2 ≡ t = omega arith in
        let b : eqb ((t * 2 + 1) % 2) 1 ≡ true = eq-eqb ((t * 2 + 1) % 2) 1 (omega arith) in
        rw (a, b)
    go false =
        let a : (t * 2 + 0) / 2 ≡ t = omega arith in
        let b : eqb ((t * 2 + 0) % 2) 1 ≡ false = ne_eqb ((t * 2 + 0) % 2) 1 (λ q. omega arith) in
        rw (a, b)

room_after : (n order code : ℕ) → code < 32 → order < 2 ^ (n * 5 + 1) → order * 32 + code < 2 ^ ((n + 1) * 5 + 1)
room_after n order code l h =
    let p : 2 ^ (n * 5 + 1 + 5) ≡ 2 ^ (n * 5 + 1) * 2 ^ 5 = pow-add 2 (n * 5 + 1) 5 in
    let q : (n + 1) * 5 + 1 ≡ n * 5 + 1 + 5 = omega arith in
    rw (q, p) (omega arith)

-- ---- how many transactions begin

pub begins-more : (h : List Event) (i : ℕ) → i < length h → (e : Event) → e ≡ event_at h i → begins (take (i + 1) h) ≡ cond (is_begin e) (begins (take i h) + 1) (begins (take i h))
begins-more h i l e q = rw (take_more h i l, ← q) (go (is_begin e) refl)
  where
    go : (b : Bool) → is_begin e ≡ b → begins (take i h ++ (e ∷ [])) ≡ cond b (begins (take i h) + 1) (begins (take i h))
    go true b = begins-snoc (take i h) e b
    go false b = begins-same (take i h) e b

-- the first i events are justified by the order, and event i comes
module _ (o : List ℕ) (h : List Event) (j : Judged h) (i : ℕ) (l : i < length h) (e : Event) (same : e ≡ event_at h i) (begun order : ℕ)
    (count : begun ≡ begins (take i h)) (room : order < 2 ^ (begun * 5 + 1)) (witness : Justified (start_of o) (take i h) (decode (codes_of begun order))) where
  J : List Place
  J = decode (codes_of begun order)

  earlier : Judged (take i h)
  earlier = judged-prefix h i (le_of_lt l) j

  later : Judged (take (i + 1) h)
  later = judged-prefix h (i + 1) (omega arith) j

  fits : Tabled e
  fits = tabled h j i l e same

  pub carryable : Carryable begun order e
  carryable =
      record {
        ordered = record { few = omega (arith, earlier.few); is-order = ap (λ (m : ℕ). is_order m (decode (codes_of begun order))) count ∙ witness.order };
        room = room;
        transaction = fits.transaction;
        register = fits.register;
        another = λ b. omega (arith, later.few, rw b at (begins-more h i l e same));
        known = λ b. omega (arith, rw b at (begins-more h i l e same), its_own);
      }
    where
      its_own : e.transaction < begins (take (i + 1) h)
      its_own = rw (same, add-one i) (asking.begun h j.readable i l)

  few : all (λ p. ltb p.transaction 10) J ≡ true
  unfolding is_order J
  few =
      all-weaken (λ p. ltb p.transaction (begins (take i h))) (λ p. ltb p.transaction 10) J
      (λ p k. lt-ltb p.transaction 10 (omega (arith, earlier.few, ltb-true p.transaction (begins (take i h)) k)))
      (and_l _ _ witness.order)

  -- the tables say of the registers and of the transaction of event i what the events say
  module _ (w : List (List ℕ)) (q : w ≡ (tables_of (take i h)).facts) (r : ℕ) (lr : r < 32) where
    contents-same : (P : List Place) → all (λ p. ltb p.transaction 10) P ≡ true → contents (start_of o) (writes_in w) P r ≡ contents (start_of o) (take i h) P r
    contents-same P a = rw (q, contents-held (take i h) (good (take i h) earlier.readable earlier.few) r lr (start_of o) P a)

    seen_same : (t : ℕ) → t < 10 → seen (start_of o) (writes_in w) J t r ≡ seen (start_of o) (take i h) J t r
    unfolding seen
    seen_same t lt =
        rw (contents-same (before t J) (before-all _ t J few), q, last-held (take i h) (good (take i h) earlier.readable earlier.few) r lr t lt)

  module _ (w : List (List ℕ)) (its : w ≡ (tables_of (take i h)).facts) (k : ℕ) (keeps : Some k ≡ kept o w begun order e) where
    -- the order was kept
    was-kept : (carries (start_of o) (writes_in w) J e ≡ true) × (k ≡ carried_code order e)
    unfolding kept J
    was-kept = go (carries (start_of o) (writes_in w) (decode (codes_of begun order)) e) keeps
      where
        go : (b : Bool) → Some k ≡ cond b (Some (carried_code order e)) None → (b ≡ true) × (k ≡ carried_code order e)
        go true q = (refl, cc)
        go false q = cc

    passes : carries (start_of o) (take i h) J e ≡ true
    unfolding carries
    passes =
        ap₂
        (λ (x y : ℕ).
        cond (is_begin e) (is_read e implies eqb x e.value)
        (cond (is_read e) (eqb y e.value) (cond (is_commit e) (outcome e.transaction J) (cond (is_abort e) (not (outcome e.transaction J)) true))))
        (sym (contents-same w its e.register fits.register J few))
        (sym (seen_same w its e.register fits.register e.transaction fits.transaction))
        ∙ was-kept.0

    goes_on : Justified (start_of o) (take (i + 1) h) (carried J e)
    goes_on = go J e same (unfold J in witness) passes
      where
        go : (K : List Place) (x : Event) → x ≡ event_at h i → Justified (start_of o) (take i h) K → carries (start_of o) (take i h) K x ≡ true → Justified (start_of o) (take (i + 1) h) (carried K x)
        go K x q w y = rw (add-one i, q) (carried-justified (start_of o) h j.readable i l K w (rw q at y))

    module _ (begun' : ℕ) (counts : begun' ≡ cond (is_begin e) (begun + 1) begun) where
      code : carried J e ≡ decode (codes_of begun' k)
      unfolding carried carried_code J
      code = go (is_begin e) counts was-kept.1
        where
          go : (b : Bool) → begun' ≡ cond b (begun + 1) begun → k ≡ cond b (order * 32 + code_of e) order
              → cond b (decode (codes_of begun order) ++ (place e.transaction (is_commit e) ∷ [])) (decode (codes_of begun order)) ≡ decode (codes_of begun' k)
          go true x y = rw (x, y) (sym (code-more begun order e.transaction (is_commit e) fits.transaction))
          go false x y = rw (x, y)

      pub carried_on : Justified (start_of o) (take (i + 1) h) (decode (codes_of begun' k))
      carried_on = rw code at goes_on

      pub room-on : k < 2 ^ (begun' * 5 + 1)
      unfolding carried_code
      room-on = go (is_begin e) counts was-kept.1
        where
          go : (b : Bool) → begun' ≡ cond b (begun + 1) begun → k ≡ cond b (order * 32 + code_of e) order → k < 2 ^ (begun' * 5 + 1)
          go true x y = rw (x, y) (room_after begun order (code_of e) (omega (arith, code-low e.transaction (is_commit e) fits.transaction)) room)
          go false x y = rw (x, y) room
