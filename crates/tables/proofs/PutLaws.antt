-- What an event puts into the table of facts: one number of a row changes, and each column changes by itself.
-- Assumes nothing.
use Prim.Native.Nat.{ℕ, ◌+◌, ◌^◌, ◌<◌}
use native.Mathlib.Omega.{arith}
use mathlib.Core.Path.{◌≡◌, refl, sym, ap, ◌∙◌}
use mathlib.Core.Logic.{◌≢◌}
use mathlib.Core.Bool.{Bool, true, false, cond}
use mathlib.Core.List.{List}
use lib.Dec.{eqb}
use lib.Bits.{bit_or}
use borrow.Author.Tests.{eqb-true, eqb-false, ne_eqb}
use Rattle.lists.specs.Lists.{◌and◌}
use Rattle.lists.proofs.ListLaws.{and_false_r}
use Rattle.events.specs.declared.event.Event.{Event}
use Rattle.events.specs.Events.{is_begin, is_write}
use Rattle.places.specs.Facts.{fact, put, Shaped}
use Rattle.places.proofs.FactLaws.{put-shaped, put-here, put-elsewhere, put-others}
use Rattle.tables.specs.Tables.{Tabled, put_if, joined, reads_store, read_with, written_with, end_with, after_with, rule_with, facts_with}

pub and-true : (b : Bool) → (b and true) ≡ b
unfolding ◌and◌
and-true true = refl
and-true false = refl

module _ (b : Bool) (f : List (List ℕ)) (h : Shaped f) (t k v : ℕ) (l : t < 11) where
  pub put-if-shaped : Shaped (put_if b f t k v)
  unfolding put_if
  put-if-shaped = go b
    where
      go : (c : Bool) → Shaped (cond c (put f t k v) f)
      go true = put-shaped f h t k v l
      go false = h

  -- another column stays
  pub put-if-off : (u j : ℕ) → j ≢ k → fact (put_if b f t k v) u j ≡ fact f u j
  unfolding put_if
  put-if-off u j n = go b (eqb u t) refl
    where
      go : (c d : Bool) → eqb u t ≡ d → fact (cond c (put f t k v) f) u j ≡ fact f u j
      go true true e = let s : u ≡ t = eqb-true u t e in rw s (put-elsewhere f h t k v l j n)
      go true false e = put-others f h t k v l u j (eqb-false u t e)
      go false d e = refl

  -- and this one changes in the row of t
  pub put-if-at : k < 72 → (u : ℕ) → fact (put_if b f t k v) u k ≡ cond (eqb t u and b) v (fact f u k)
  unfolding put_if ◌and◌
  put-if-at m u = go b (eqb t u) refl
    where
      go : (c d : Bool) → eqb t u ≡ d → fact (cond c (put f t k v) f) u k ≡ cond (d and c) v (fact f u k)
      go true true e = let s : u ≡ t = sym (eqb-true t u e) in rw s (put-here f h t k v l m)
      go true false e = put-others f h t k v l u k (λ x. eqb-false t u e (sym x))
      go false true e = refl
      go false false e = refl

-- the same in the columns of registers, from column d on
pub put-if-register : (b : Bool) (f : List (List ℕ)) → Shaped f → (t d r v : ℕ) → t < 11 → d + r < 72 → (u q : ℕ)
    → fact (put_if b f t (d + r) v) u (d + q) ≡ cond ((eqb t u and b) and eqb r q) v (fact f u (d + q))
put-if-register b f h t d r v l m u q = go (eqb r q) refl
  where
    go : (c : Bool) → eqb r q ≡ c → fact (put_if b f t (d + r) v) u (d + q) ≡ cond ((eqb t u and b) and c) v (fact f u (d + q))
    go true e =
        let s : q ≡ r = sym (eqb-true r q e) in
        rw (s, and-true (eqb t u and b)) (put-if-at b f h t (d + r) v l m u)
    go false e =
        rw (and_false_r (eqb t u and b) false refl)
        (put-if-off b f h t (d + r) v l u (d + q) (λ x. eqb-false r q e (omega arith)))

-- ---- the columns, one event later

module _ (ended : ℕ) (f : List (List ℕ)) (h : Shaped f) (e : Event) (its : Tabled e) where
  low : e.transaction < 11
  low = omega (arith, its.transaction)

  abbrev marked : List (List ℕ)
  marked = put_if (reads_store f e) f e.transaction 2 (bit_or (fact f e.transaction 2) (2 ^ e.register))

  marked-shaped : Shaped marked
  marked-shaped = put-if-shaped _ f h e.transaction 2 _ low

  read-shaped : Shaped (read_with f e)
  read-shaped = put-if-shaped _ marked marked-shaped e.transaction (3 + e.register) _ low

  written-shaped : Shaped (written_with (read_with f e) e)
  written-shaped = put-if-shaped _ (read_with f e) read-shaped e.transaction (35 + e.register) _ low

  end-shaped : Shaped (end_with (written_with (read_with f e) e) e)
  end-shaped = put-if-shaped _ (written_with (read_with f e) e) written-shaped 10 0 _ (omega arith)

  begun-shaped : Shaped (after_with ended (written_with (read_with f e) e) e)
  begun-shaped = put-if-shaped _ (end_with (written_with (read_with f e) e) e) end-shaped e.transaction 0 ended low

  pub shaped-next : Shaped (facts_with ended f e)
  shaped-next = put-if-shaped true _ begun-shaped e.transaction 1 _ low

  module _ (u j : ℕ) where
    past-mark : j ≢ 2 → fact marked u j ≡ fact f u j
    past-mark n = put-if-off _ f h e.transaction 2 _ low u j n

    past-read : j ≢ 3 + e.register → fact (read_with f e) u j ≡ fact marked u j
    past-read n = put-if-off _ marked marked-shaped e.transaction (3 + e.register) _ low u j n

    past-write : j ≢ 35 + e.register → fact (written_with (read_with f e) e) u j ≡ fact (read_with f e) u j
    past-write n = put-if-off _ (read_with f e) read-shaped e.transaction (35 + e.register) _ low u j n

    past-begin : j ≢ 0 → fact (after_with ended (written_with (read_with f e) e) e) u j ≡ fact (written_with (read_with f e) e) u j
    past-begin n =
        put-if-off _ (end_with (written_with (read_with f e) e) e) end-shaped e.transaction 0 ended low u j n
        ∙ put-if-off _ (written_with (read_with f e) e) written-shaped 10 0 _ (omega arith) u j n

    past-outcome : j ≢ 1 → fact (facts_with ended f e) u j ≡ fact (after_with ended (written_with (read_with f e) e) e) u j
    past-outcome n = put-if-off true _ begun-shaped e.transaction 1 _ low u j n

  module _ (u : ℕ) where
    after-before : fact (written_with (read_with f e) e) u 0 ≡ fact f u 0
    after-before = past-write u 0 (λ n. omega arith) ∙ past-read u 0 (λ n. omega arith) ∙ past-mark u 0 (λ n. omega arith)

    pub after_next : u < 10 → fact (facts_with ended f e) u 0 ≡ cond (eqb e.transaction u and is_begin e) ended (fact f u 0)
    unfolding ◌and◌
    after_next l =
        let other : eqb 10 u ≡ false = ne_eqb 10 u (λ n. omega arith) in
        past-outcome u 0 (λ n. omega arith)
        ∙ put-if-at (is_begin e) (end_with (written_with (read_with f e) e) e) end-shaped e.transaction 0 ended low (omega arith) u
        ∙ ap (cond (eqb e.transaction u and is_begin e) ended)
        (put-if-at (is_begin e) (written_with (read_with f e) e) written-shaped 10 0 _ (omega arith) (omega arith) u ∙ (rw other after-before))

    rule-before : (w : ℕ) → fact (after_with ended (written_with (read_with f e) e) e) w 1 ≡ fact f w 1
    rule-before w =
        past-begin w 1 (λ n. omega arith) ∙ past-write w 1 (λ n. omega arith) ∙ past-read w 1 (λ n. omega arith) ∙ past-mark w 1 (λ n. omega arith)

    pub allowed-next : fact (facts_with ended f e) u 1 ≡ cond (eqb e.transaction u) (rule_with (fact f u 1) e) (fact f u 1)
    allowed-next =
        put-if-at true _ begun-shaped e.transaction 1 _ low (omega arith) u
        ∙ (rw (and-true (eqb e.transaction u), rule-before e.transaction, rule-before u) (go (eqb e.transaction u) refl))
      where
        go : (b : Bool) → eqb e.transaction u ≡ b
            → cond b (rule_with (fact f e.transaction 1) e) (fact f u 1) ≡ cond b (rule_with (fact f u 1) e) (fact f u 1)
        go true s = ap (λ (t : ℕ). rule_with (fact f t 1) e) (eqb-true e.transaction u s)
        go false s = refl

    pub reads-next : fact (facts_with ended f e) u 2
        ≡ cond (eqb e.transaction u and reads_store f e) (bit_or (fact f e.transaction 2) (2 ^ e.register)) (fact f u 2)
    reads-next =
        past-outcome u 2 (λ n. omega arith) ∙ past-begin u 2 (λ n. omega arith) ∙ past-write u 2 (λ n. omega arith) ∙ past-read u 2 (λ n. omega arith)
        ∙ put-if-at (reads_store f e) f h e.transaction 2 _ low (omega arith) u

    module _ (q : ℕ) where
      pub required-next : q < 32 → fact (facts_with ended f e) u (3 + q)
          ≡ cond ((eqb e.transaction u and reads_store f e) and eqb e.register q) (e.value + 1) (fact f u (3 + q))
      required-next l =
          past-outcome u (3 + q) (λ n. omega arith) ∙ past-begin u (3 + q) (λ n. omega arith) ∙ past-write u (3 + q) (λ n. omega arith)
          ∙ put-if-register (reads_store f e) marked marked-shaped e.transaction 3 e.register (e.value + 1) low (omega (arith, its.register)) u q
          ∙ ap (cond ((eqb e.transaction u and reads_store f e) and eqb e.register q) (e.value + 1)) (past-mark u (3 + q) (λ n. omega arith))

      pub written_next : fact (facts_with ended f e) u (35 + q)
          ≡ cond ((eqb e.transaction u and is_write e) and eqb e.register q) (e.value + 1) (fact f u (35 + q))
      written_next =
          past-outcome u (35 + q) (λ n. omega arith) ∙ past-begin u (35 + q) (λ n. omega arith)
          ∙ put-if-register (is_write e) (read_with f e) read-shaped e.transaction 35 e.register (e.value + 1) low (omega (arith, its.register)) u q
          ∙ ap (cond ((eqb e.transaction u and is_write e) and eqb e.register q) (e.value + 1))
          (past-read u (35 + q) (λ n. omega (arith, its.register)) ∙ past-mark u (35 + q) (λ n. omega arith))

  -- the row of the end
  not_end : eqb e.transaction 10 ≡ false
  not_end = ne_eqb e.transaction 10 (λ n. omega (arith, its.transaction))

  pub end-next : fact (facts_with ended f e) 10 0 ≡ joined (fact f 10 0) (is_begin e) e.transaction
  unfolding ◌and◌ joined
  end-next =
      past-outcome 10 0 (λ n. omega arith)
      ∙ put-if-at (is_begin e) (end_with (written_with (read_with f e) e) e) end-shaped e.transaction 0 ended low (omega arith) 10
      ∙ (rw (
        not_end,
        put-if-at (is_begin e) (written_with (read_with f e) e) written-shaped 10 0 (bit_or (fact (written_with (read_with f e) e) 10 0) (2 ^ e.transaction)) (omega arith) (omega arith) 10,
        after-before 10,
      ))

  pub end-reads-next : fact (facts_with ended f e) 10 2 ≡ fact f 10 2
  unfolding ◌and◌
  end-reads-next = reads-next 10 ∙ (rw not_end)
