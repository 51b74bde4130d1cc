-- A justification is found place by place: an order justifies a history exactly if the own reads are right, each place may come next after
-- those before it, and every transaction has a place.
-- Assumes nothing.
use Prim.Native.Nat.{ℕ, ◌<◌}
use mathlib.Core.Path.{◌≡◌, refl, sym, ap, ◌∙◌}
use mathlib.Core.Logic.{◌↔◌}
use mathlib.Core.Bool.{true, not}
use mathlib.Core.List.{List, [], ◌∷◌, ◌++◌, append-nil, append_assoc}
use lib.Dec.{ltb}
use lib.ListN.{length}
use borrow.Author.Tests.{eq-eqb, eqb-true, ltb-true}
use Rattle.lists.specs.Lists.{all, every}
use Rattle.events.specs.declared.event.Event.{Event}
use Rattle.events.specs.Events.{event_at, begins}
use Rattle.opacity.specs.Transactions.{status, allows, own_right}
use Rattle.opacity.specs.Justification.{Place, placed, before, outcome, distinct, is_order, outcome_kept, preceded, legal_over, real_time_kept, legal, Justified, justifies}
use Rattle.opacity.specs.Lowest.{fits, follows}
use Rattle.lists.proofs.ListLaws.{and_l, and_r, and_i, imp-e, imp-i, not-true, every-e, every-i, all_append}
use Rattle.opacity.proofs.Orders.{Fresh, before_here, outcome-here, distinct-at, distinct_snoc, split, follows-at}

-- what `fits` tests, by name
pub record Fits (start : ℕ → ℕ) (h : List Event) (P : List Place) (p : Place) : Type 0 where
  pub known : ltb p.transaction (begins h) ≡ true
  pub fresh : Fresh p.transaction P
  pub allowed : allows (status h p.transaction) p.committed ≡ true
  pub after : preceded h P p.transaction ≡ true
  pub reads : (i : ℕ) → i < length h → (event_at h i).transaction ≡ p.transaction → legal_over start h P i ≡ true

module _ (start : ℕ → ℕ) (h : List Event) (P : List Place) (p : Place) where
  pub fits-e : fits start h P p ≡ true → Fits start h P p
  unfolding fits
  fits-e t =
      let t₁ = and_r _ _ t in
      let t₂ = and_r _ _ t₁ in
      let t₃ = and_r _ _ t₂ in
      record {
        known = and_l _ _ t;
        fresh = not-true _ (and_l _ _ t₁);
        allowed = and_l _ _ t₂;
        after = and_l _ _ t₃;
        reads = λ i l e. imp-e _ _ (every-e _ _ (and_r _ _ t₃) i l) (eq-eqb _ _ e);
      }

  pub fits-i : Fits start h P p → fits start h P p ≡ true
  unfolding fits
  fits-i f =
      and_i _ _ f.known
      (and_i _ _ (ap not f.fresh)
      (and_i _ _ f.allowed
      (and_i _ _ f.after (every-i _ _ (λ i l. imp-i _ _ (λ e. f.reads i l (eqb-true _ _ e)))))))

-- From a justification to the steps.
module _ (start : ℕ → ℕ) (h : List Event) (J : List Place) (j : Justified start h J) where
  known : all (λ p. ltb p.transaction (begins h)) J ≡ true
  unfolding is_order
  known = and_l _ _ j.order

  apart : distinct J ≡ true
  unfolding is_order
  apart = and_l _ _ (and_r _ _ j.order)

  step : (P : List Place) (p : Place) (S : List Place) → J ≡ P ++ p ∷ S → Fits start h P p
  unfolding all outcome_kept real_time_kept legal
  step P p S e =
      let d = distinct-at P p S (ap distinct (sym e) ∙ apart) in
      let b : before p.transaction J ≡ P = ap (before p.transaction) e ∙ before_here P p S d.0 in
      let o : outcome p.transaction J ≡ p.committed = ap (outcome p.transaction) e ∙ outcome-here P p S d.0 d.1 in
      let k : ltb p.transaction (begins h) ≡ true =
      and_l _ _ (and_r _ _ (sym (all_append _ P (p ∷ S)) ∙ ap (all (λ p. ltb p.transaction (begins h))) (sym e) ∙ known)) in
      let n : p.transaction < begins h = ltb-true _ _ k in
      record {
        known = k;
        fresh = d.0;
        allowed = rw o at (j.outcomes p.transaction n);
        after = rw b at (j.real_time p.transaction n);
        reads = λ i l q. let c : before (event_at h i).transaction J ≡ P = ap (λ (t : ℕ). before t J) q ∙ b in rw c at (j.store i l);
      }

  pub steps : (P S : List Place) → J ≡ P ++ S → follows (fits start h) P S ≡ true
  unfolding follows
  steps P [] e = refl
  steps P (p ∷ S) e = and_i _ _ (fits-i start h P p (step P p S e)) (steps (P ++ (p ∷ [])) S (e ∙ sym (append_assoc P (p ∷ []) S)))

-- The steps make an order.
module _ (start : ℕ → ℕ) (h : List Event) where
  ordered : (P S : List Place) → all (λ p. ltb p.transaction (begins h)) P ≡ true → distinct P ≡ true → follows (fits start h) P S ≡ true
      → (all (λ p. ltb p.transaction (begins h)) (P ++ S) ≡ true) × (distinct (P ++ S) ≡ true)
  unfolding follows all
  ordered P [] k d t = rw append-nil (k, d)
  ordered P (p ∷ S) k d t =
      let f = fits-e start h P p (and_l _ _ t) in
      rw append_assoc at
      (ordered (P ++ (p ∷ [])) S (all_append _ P (p ∷ []) ∙ and_i _ _ k (and_i _ _ f.known refl)) (distinct_snoc P p d f.fresh) (and_r _ _ t))

  pub known-apart : (J : List Place) → follows (fits start h) [] J ≡ true → (all (λ p. ltb p.transaction (begins h)) J ≡ true) × (distinct J ≡ true)
  unfolding all distinct
  known-apart J t = ordered [] J refl refl t

-- From the steps to a justification.
module _ (start : ℕ → ℕ) (h : List Event) (J : List Place) (begun : (i : ℕ) → i < length h → (event_at h i).transaction < begins h)
    (own : every (own_right h) (length h) ≡ true) (turns : follows (fits start h) [] J ≡ true)
    (whole : every (λ t. placed t J) (begins h) ≡ true) where
  order : is_order (begins h) J ≡ true
  unfolding is_order
  order = and_i _ _ (known-apart start h J turns).0 (and_i _ _ (known-apart start h J turns).1 whole)

  -- each transaction stands at a place that fits
  record Placing (t : ℕ) : Type 0 where
    front : List Place
    here : Place
    good : Fits start h front here
    names : here.transaction ≡ t
    first : before t J ≡ front
    result : outcome t J ≡ here.committed

  placing : (t : ℕ) → t < begins h → Placing t
  placing t n =
      let s = split t J (every-e _ _ whole t n) in
      let P = s.front in
      let p = s.here in
      let S = s.back in
      let d = distinct-at P p S (ap distinct (sym s.cut) ∙ (known-apart start h J turns).1) in
      record {
        front = P;
        here = p;
        good = fits-e start h P p (follows-at (fits start h) [] P p S (rw s.cut at turns));
        names = s.names;
        first = ap (λ (u : ℕ). before u J) (sym s.names) ∙ ap (before p.transaction) s.cut ∙ before_here P p S d.0;
        result = ap (λ (u : ℕ). outcome u J) (sym s.names) ∙ ap (outcome p.transaction) s.cut ∙ outcome-here P p S d.0 d.1;
      }

  pub justified : Justified start h J
  unfolding outcome_kept real_time_kept legal
  justified =
      record {
        order = order;
        outcomes = λ t n. let r = placing t n in rw r.result (rw r.names at r.good.allowed);
        real_time = λ t n. let r = placing t n in rw r.first (rw r.names at r.good.after);
        own = every-e _ _ own;
        store = λ i l. let r = placing (event_at h i).transaction (begun i l) in rw r.first (r.good.reads i l (sym r.names));
      }

-- The test says the same as the record.
pub justified-test : (start : ℕ → ℕ) (h : List Event) (J : List Place) → (justifies start h J ≡ true) ↔ Justified start h J
unfolding justifies
justified-test start h J = (
  λ t.
      let t₁ = and_r _ _ t in
      let t₂ = and_r _ _ t₁ in
      let t₃ = and_r _ _ t₂ in
      record {
        order = and_l _ _ t;
        outcomes = every-e _ _ (and_l _ _ t₁);
        real_time = every-e _ _ (and_l _ _ t₂);
        own = every-e _ _ (and_l _ _ t₃);
        store = every-e _ _ (and_r _ _ t₃);
      },
  λ j.
      and_i _ _ j.order
      (and_i _ _ (every-i _ _ j.outcomes)
      (and_i _ _ (every-i _ _ j.real_time) (and_i _ _ (every-i _ _ j.own) (every-i _ _ j.store)))),
)
