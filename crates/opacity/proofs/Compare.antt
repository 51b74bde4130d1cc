-- The comparison of orders: lower is a strict total order, and what is not above an order is lower or the same.
-- Assumes nothing.
use Prim.Native.Nat.{◌<◌}
use native.Mathlib.Decide.{dec_lt}
use native.Mathlib.Omega.{arith}
use mathlib.Core.Path.{◌≡◌, refl, sym, ap, ap₂, ◌∙◌, subst}
use mathlib.Core.Logic.{◌⊎◌, inl, inr, ⊎_elim}
use mathlib.Core.Bool.{Bool, true, false, not, cond, false≢true}
use mathlib.Core.List.{List, [], ◌∷◌}
use borrow.Author.Tests.{eqb-true, eq-eqb, ltb-true, lt-ltb}
use Rattle.lists.specs.Lists.{◌and◌, ◌or◌, StrictTotal}
use Rattle.opacity.specs.Justification.{Place}
use Rattle.opacity.specs.Lowest.{below, same_place, lower}
use Rattle.lists.proofs.ListLaws.{and_l, and_r, and_i, and_false_r, or_l, or_r, nor-i, not-true, clash, eqb-self}

or-e : (a b : Bool) → (a or b) ≡ true → (a ≡ true) ⊎ (b ≡ true)
unfolding ◌or◌
or-e true b t = inl refl
or-e false b t = inr t

below-e : (p q : Place) → below p q ≡ true → (p.transaction < q.transaction) ⊎ ((p.transaction ≡ q.transaction) × (p.committed ≡ false) × (q.committed ≡ true))
unfolding below
below-e p q t =
    ⊎_elim (λ l. inl (ltb-true _ _ l))
    (λ s. inr (eqb-true _ _ (and_l _ _ s), not-true _ (and_l _ _ (and_r _ _ s)), and_r _ _ (and_r _ _ s)))
    (or-e _ _ t)

same-e : (p q : Place) → same_place p q ≡ true → p ≡ q
unfolding same_place
same-e p q t = let a = eqb-true _ _ (and_l _ _ t) in let b = alike p.committed q.committed (and_r _ _ t) in λ i. record { transaction = a i; committed = b i }
  where
    alike : (b c : Bool) → cond b c (not c) ≡ true → b ≡ c
    alike true c e = sym e
    alike false c e = sym (not-true c e)

one_way : (p q : Place) → below p q ≡ true → below q p ≡ true → ⊥
one_way p q s t =
    ⊎_elim (λ l. ⊎_elim (λ m. omega arith) (λ m. omega arith) (below-e q p t))
    (λ l. ⊎_elim (λ m. omega arith) (λ m. clash m.2 l.1) (below-e q p t)) (below-e p q s)

not-self : (p q : Place) → below p q ≡ true → q ≡ p → ⊥
not-self p q s e = one_way p q s (subst (λ (r : Place). below r p ≡ true) (sym e) (subst (λ (r : Place). below p r ≡ true) e s))

-- ---- a strict total order: of places, and place by place of orders

refuted : (b : Bool) → (b ≡ true → ⊥) → b ≡ false
refuted true f = absurd (f refl)
refuted false f = refl

below-i : (p q : Place) → (p.transaction < q.transaction) ⊎ ((p.transaction ≡ q.transaction) × (p.committed ≡ false) × (q.committed ≡ true)) → below p q ≡ true
unfolding below
below-i p q d =
    ⊎_elim (λ l. or_l _ _ (lt-ltb _ _ l)) (λ s. or_r _ _ (and_i _ _ (eq-eqb _ _ s.0) (and_i _ _ (ap not s.1) s.2))) d

same-i : (p q : Place) → p ≡ q → same_place p q ≡ true
unfolding same_place
same-i p q e = subst (λ (r : Place). same_place p r ≡ true) e (and_i _ _ (eqb-self p.transaction) (alike p.committed))
  where
    alike : (b : Bool) → cond b b (not b) ≡ true
    alike true = refl
    alike false = refl

below_self : (p : Place) → below p p ≡ false
below_self p = refuted (below p p) (λ t. one_way p p t t)

below-trans : (p q r : Place) → below p q ≡ true → below q r ≡ true → below p r ≡ true
below-trans p q r s t =
    below-i p r
    (⊎_elim (λ l. ⊎_elim (λ m. inl (omega arith)) (λ m. inl (omega arith)) (below-e q r t))
    (λ l. ⊎_elim (λ m. inl (omega arith)) (λ m. inr (l.0 ∙ m.0, l.1, m.2)) (below-e q r t)) (below-e p q s))

below_total : (p q : Place) → (below p q ≡ true) ⊎ ((p ≡ q) ⊎ (below q p ≡ true))
below_total p q = by-transaction (dec_lt p.transaction q.transaction) (dec_lt q.transaction p.transaction)
  where
    go : p.transaction ≡ q.transaction → (b c : Bool) → p.committed ≡ b → q.committed ≡ c → (below p q ≡ true) ⊎ ((p ≡ q) ⊎ (below q p ≡ true))
    go e true true f g = inr (inl (λ i. record { transaction = e i; committed = (f ∙ sym g) i }))
    go e true false f g = inr (inr (below-i q p (inr (sym e, g, f))))
    go e false true f g = inl (below-i p q (inr (e, f, g)))
    go e false false f g = inr (inl (λ i. record { transaction = e i; committed = (f ∙ sym g) i }))

    by-transaction : Dec (p.transaction < q.transaction) → Dec (q.transaction < p.transaction) → (below p q ≡ true) ⊎ ((p ≡ q) ⊎ (below q p ≡ true))
    by-transaction (yes l) d = inl (below-i p q (inl l))
    by-transaction (no u) (yes m) = inr (inr (below-i q p (inl m)))
    by-transaction (no u) (no w) = go (omega arith) p.committed q.committed refl refl

pub places-ordered : StrictTotal below
places-ordered = record { irreflexive = below_self; transitive = below-trans; total = below_total }

lower-self : (J : List Place) → lower J J ≡ false
unfolding lower
lower-self [] = refl
lower-self (p ∷ J) = nor-i _ _ (below_self p) (and_false_r _ _ (lower-self J))

lower-trans : (J K L : List Place) → lower J K ≡ true → lower K L ≡ true → lower J L ≡ true
unfolding lower
lower-trans [] [] L s t = absurd (false≢true s)
lower-trans [] (q ∷ K) [] s t = t
lower-trans [] (q ∷ K) (r ∷ L) s t = refl
lower-trans (p ∷ J) [] L s t = absurd (false≢true s)
lower-trans (p ∷ J) (q ∷ K) [] s t = t
lower-trans (p ∷ J) (q ∷ K) (r ∷ L) s t =
    ⊎_elim
    (λ a.
    ⊎_elim (λ b. or_l _ _ (below-trans p q r a b))
    (λ b. or_l _ _ (subst (λ (x : Place). below p x ≡ true) (same-e q r (and_l _ _ b)) a)) (or-e _ _ t))
    (λ a.
    ⊎_elim (λ b. or_l _ _ (subst (λ (x : Place). below x r ≡ true) (sym (same-e p q (and_l _ _ a))) b))
    (λ b.
    or_r _ _
    (and_i _ _ (subst (λ (x : Place). same_place p x ≡ true) (same-e q r (and_l _ _ b)) (and_l _ _ a))
    (lower-trans J K L (and_r _ _ a) (and_r _ _ b))))
    (or-e _ _ t))
    (or-e _ _ s)

lower-total : (J K : List Place) → (lower J K ≡ true) ⊎ ((J ≡ K) ⊎ (lower K J ≡ true))
unfolding lower
lower-total [] [] = inr (inl refl)
lower-total [] (q ∷ K) = inl refl
lower-total (p ∷ J) [] = inr (inr refl)
lower-total (p ∷ J) (q ∷ K) =
    ⊎_elim (λ a. inl (or_l _ _ a))
    (⊎_elim
    (λ e.
    ⊎_elim (λ l. inl (or_r _ _ (and_i _ _ (same-i p q e) l)))
    (⊎_elim (λ f. inr (inl (ap₂ (λ (r : Place) (l : List Place). r ∷ l) e f)))
    (λ l. inr (inr (or_r _ _ (and_i _ _ (same-i q p (sym e)) l)))))
    (lower-total J K))
    (λ b. inr (inr (or_l _ _ b))))
    (below_total p q)

-- Of two different orders one is lower than the other, and never both.
pub orders-ordered : StrictTotal lower
orders-ordered = record { irreflexive = lower-self; transitive = lower-trans; total = lower-total }

-- ---- not above

-- J is lower than K, or K itself
unfoldable pub not_above : List Place → List Place → Bool
not_above [] K = true
not_above (p ∷ J) [] = false
not_above (p ∷ J) (q ∷ K) = below p q or same_place p q and not_above J K

pub lower-or-same : (J K : List Place) → not_above J K ≡ true → (lower J K ≡ true) ⊎ (J ≡ K)
unfolding not_above lower
lower-or-same [] [] t = inr refl
lower-or-same [] (q ∷ K) t = inl refl
lower-or-same (p ∷ J) [] t = absurd (false≢true t)
lower-or-same (p ∷ J) (q ∷ K) t =
    ⊎_elim
    (λ a. inl (or_l _ _ a))
    (λ a.
    ⊎_elim
    (λ l. inl (or_r _ _ (and_i _ _ (and_l _ _ a) l)))
    (λ e. inr (ap₂ (λ (r : Place) (l : List Place). r ∷ l) (same-e p q (and_l _ _ a)) e))
    (lower-or-same J K (and_r _ _ a)))
    (or-e _ _ t)
