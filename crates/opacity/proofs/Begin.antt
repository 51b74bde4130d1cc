-- An order for the events before one that begins a transaction makes one with it: the transaction comes last, with the outcome that the
-- event records, where a lone read returns what its register holds after all places.
-- Assumes nothing.
use Prim.Native.Nat.{ℕ, suc, ◌<◌}
use native.Mathlib.Nat.{le_step}
use native.Mathlib.Omega.{arith}
use mathlib.Core.Path.{◌≡◌, refl, sym, ap, ◌∙◌}
use mathlib.Core.Logic.{◌⊎◌, inl, inr, ⊎_elim}
use mathlib.Core.Bool.{Bool, true, false, cond, false≢true}
use mathlib.Core.List.{List, [], ◌∷◌, ◌++◌}
use mathlib.Core.Option.{get_or}
use lib.Dec.{eqb, ltb}
use lib.ListN.{length}
use native.Mathlib.Numerals.{add-one}
use borrow.Author.Tests.{eq-eqb, ne_eqb, ltb-true, lt-ltb}
use Rattle.lists.specs.Lists.{◌or◌, any, all}
use Rattle.events.specs.declared.event.Event.{Event}
use Rattle.events.specs.Events.{event_at, is_begin, is_read, is_write, is_commit, is_end, by, has, ended, begins}
use Rattle.opacity.specs.Transactions.{precedes, status, allows, last_write}
use Rattle.opacity.specs.Justification.{Place, is_of, placed, before, outcome, contents, is_order, outcome_kept, preceded, real_time_kept, Justified}
use Rattle.opacity.specs.Lowest.{place}
use Rattle.lists.proofs.ListLaws.{imp-e, and_l, and_r, and_i, and-false-l, imp-i, nor-i, nor-l, nor-r, or_l, or_r, clash, every-e, every-i}
use Rattle.lists.proofs.ListLaws.{any_append, all_append, all-weaken, below-cases}
use Rattle.events.proofs.EventLaws.{begins-snoc}
use Rattle.opacity.proofs.Meanings.{unwritten}
use Rattle.opacity.proofs.Orders.{Fresh, before_here, before-none, no-outcome, outcome-here, distinct_snoc}
use Rattle.opacity.proofs.Snoc.{or-none, adds_to, adds_none, status-other, status-own, contents-snoc, own-snoc, own_new, legal-snoc, legal-new, precedes-more, precedes-snoc}

fresh-above : (n : ℕ) (J : List Place) → all (λ p. ltb p.transaction n) J ≡ true → Fresh n J
unfolding all placed any
fresh-above n [] t = refl
fresh-above n (p ∷ J) t =
    let l : p.transaction < n = ltb-true _ _ (and_l _ _ t) in
    nor-i _ _ (ne_eqb p.transaction n (λ e. omega arith)) (fresh-above n J (and_r _ _ t))

before-append : (u : ℕ) (J S : List Place) → placed u J ≡ true → before u (J ++ S) ≡ before u J
unfolding before placed any ◌or◌
before-append u [] S t = absurd (false≢true t)
before-append u (p ∷ J) S t = go (is_of u p) t (before-append u J S)
  where
    go : (b : Bool) → (b or placed u J) ≡ true → (placed u J ≡ true → before u (J ++ S) ≡ before u J) → cond b [] (p ∷ before u (J ++ S)) ≡ cond b [] (p ∷ before u J)
    go true s ih = refl
    go false s ih = ap (λ (l : List Place). p ∷ l) (ih s)

-- without an end there is no precedence
never-ended : (h : List Event) (t u : ℕ) → has is_end t h ≡ false → precedes h t u ≡ false
unfolding precedes has any
never-ended [] t u n = refl
never-ended (e ∷ h) t u n = nor-i _ _ (and-false-l _ _ (nor-l _ _ n)) (never-ended h t u (nor-r _ _ n))

module _ (start : ℕ → ℕ) (h : List Event) (e : Event) (J : List Place) (j : Justified start h J)
    (numbered : (i : ℕ) → i < length h → (event_at h i).transaction < begins h) (new : e.transaction ≡ begins h)
    (eventless : (p : Event → Bool) → has p e.transaction h ≡ false) (b : is_begin e ≡ true)
    (reads : is_read e ≡ true → e.value ≡ contents start h J e.register) where
  abbrev n : ℕ
  n = e.transaction

  abbrev newcomer : Place
  newcomer = place n (is_commit e)

  h' : List Event
  h' = h ++ (e ∷ [])

  J' : List Place
  J' = J ++ (newcomer ∷ [])

  count : begins h' ≡ suc n
  unfolding h'
  count = begins-snoc h e b ∙ rw (← new, add-one)

  known : all (λ p. ltb p.transaction n) J ≡ true
  unfolding is_order
  known = rw new (and_l _ _ j.order)

  fresh : Fresh n J
  fresh = fresh-above n J known

  old-one : {t : ℕ} → t < n → t < begins h
  old-one l = rw new at l

  whole : (t : ℕ) → t < n → placed t J ≡ true
  unfolding is_order
  whole t l = every-e _ _ (and_r _ _ (and_r _ _ j.order)) t (old-one l)

  order : is_order (begins h') J' ≡ true
  unfolding is_order J' all placed any
  order =
      rw count
      (and_i _ _
      (all_append _ J (newcomer ∷ [])
      ∙ and_i _ _ (all-weaken (λ p. ltb p.transaction n) (λ p. ltb p.transaction (suc n)) J (λ x t. lt-ltb x.transaction (suc n) (le_step (ltb-true _ _ t))) known)
      (and_i _ _ (lt-ltb n (suc n) (omega arith)) refl))
      (and_i _ _ (distinct_snoc J newcomer (unfold is_order in and_l _ _ (and_r _ _ j.order)) fresh)
      (every-i _ _ (λ t l. any_append (is_of t) J (newcomer ∷ []) ∙ placed-cases t (below-cases l)))))
    where
      placed-cases : (t : ℕ) → (t ≡ n) ⊎ (t < n) → (placed t J or (eqb n t or false)) ≡ true
      placed-cases t (inl q) = or_r _ _ (or_l _ _ (eq-eqb n t (sym q)))
      placed-cases t (inr l) = or_l _ _ (whole t l)

  not_new : (u : ℕ) → u < n → eqb n u ≡ false
  not_new u l = ne_eqb n u (λ q. omega arith)

  same_outcome : (t : ℕ) → t < n → outcome t J' ≡ outcome t J
  unfolding outcome J' any
  same_outcome t l = any_append _ J (newcomer ∷ []) ∙ or-none _ _ (nor-i _ _ (and-false-l _ _ (not_new t l)) refl)

  new-outcome : outcome n J' ≡ is_commit e
  unfolding J' placed any
  new-outcome = outcome-here J newcomer [] fresh refl

  its-outcome : outcome_kept h' J' n ≡ true
  unfolding h' outcome_kept ended
  its-outcome = ap (allows (status (h ++ (e ∷ [])) n)) new-outcome ∙ status-own h e (eventless is_end)

  outcomes : (t : ℕ) → t < begins h' → outcome_kept h' J' t ≡ true
  unfolding h' outcome_kept
  outcomes t l =
      ⊎_elim
      (λ q. rw q its-outcome)
      (λ m. rw (status-other h e t (not_new t m), same_outcome t m) (j.outcomes t (old-one m)))
      (below-cases (rw count at l))

  before-old : (u : ℕ) → u < n → before u J' ≡ before u J
  unfolding J'
  before-old u l = before-append u J (newcomer ∷ []) (whole u l)

  before-new : before n J' ≡ J
  unfolding J'
  before-new = before_here J newcomer [] fresh

  -- the new one precedes none, since it has not ended before any began
  precedes-none : (u : ℕ) → precedes h' n u ≡ false
  unfolding h'
  precedes-none u = precedes-more h e n u ∙ nor-i _ _ (never-ended h n u (eventless is_end)) (and-false-l _ _ (eventless is_end))

  real_time : (u : ℕ) → u < begins h' → real_time_kept h' J' u ≡ true
  unfolding h' real_time_kept preceded by
  real_time u l = every-i _ _ (λ t m. imp-i _ _ (λ s. go t (below-cases (rw count at m)) s (below-cases (rw count at l))))
    where
      old : (t : ℕ) → t < n → precedes h' t u ≡ true → u < n → placed t (before u J') ≡ true
      old t m s k =
          let q : precedes h t u ≡ true = sym (precedes-snoc h e t u (and-false-l _ _ (not_new u k))) ∙ s in
          rw (before-old u k) (imp-e _ _ (every-e _ _ (j.real_time u (old-one k)) t (old-one m)) q)

      go : (t : ℕ) → (t ≡ n) ⊎ (t < n) → precedes h' t u ≡ true → (u ≡ n) ⊎ (u < n) → placed t (before u J') ≡ true
      go t (inl q) s k = absurd (clash s (ap (λ (x : ℕ). precedes h' x u) q ∙ precedes-none u))
      go t (inr m) s (inl q) = rw (q, before-new) (whole t m)
      go t (inr m) s (inr k) = old t m s k

  -- a write of e is of no place in J
  same : (P : List Place) → any (adds_to e) P ≡ false → (r : ℕ) → contents start h' P r ≡ contents start h P r
  unfolding h'
  same P a r = contents-snoc h e start P a r

  adds-nothing : any (adds_to e) J ≡ false
  adds-nothing = adds_none e J (λ w. no-outcome n J fresh)

  returns : is_read e ≡ true → e.value ≡ get_or (last_write h n e.register) (contents start h' (before n J') e.register)
  returns t = rw (unwritten h n e.register (eventless is_write), before-new, same J adds-nothing e.register) (reads t)

  pub begin-justified : Justified start (h ++ (e ∷ [])) (J ++ (place e.transaction (is_commit e) ∷ []))
  unfolding h' J'
  begin-justified =
      record {
        order = order;
        outcomes = outcomes;
        real_time = real_time;
        own = own-snoc h e (own_new h e start J' returns) j.own;
        store = legal-snoc h e start J J' (legal-new h e start J' returns)
            (λ i l.
            let t = (event_at h i).transaction in
            let q : before t J' ≡ before t J = before-old t (rw new (numbered i l)) in
            rw q (same (before t J) (before-none (adds_to e) t J adds-nothing) (event_at h i).register))
            j.store;
      }
