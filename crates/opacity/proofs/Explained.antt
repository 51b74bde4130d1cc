-- A justification is exactly what explains the history in the words of the events.
-- Assumes nothing.
use Prim.Native.Nat.{ℕ, suc, ◌<◌}
use native.Mathlib.Nat.{lt_of_lt_of_le, lt_trans}
use mathlib.Core.Path.{◌≡◌, refl, sym, ap, ◌∙◌, subst}
use mathlib.Core.Logic.{◌↔◌}
use mathlib.Core.Bool.{Bool, true, not}
use mathlib.Core.List.{List, ◌∷◌}
use lib.ListN.{length}
use borrow.Author.Tests.{eqb-true, eq-eqb}
use Rattle.lists.specs.Lists.{◌implies◌, any}
use Rattle.events.specs.declared.event.Event.{Event}
use Rattle.events.specs.Events.{event_at, is_begin, is_end, by, begins}
use Rattle.events.specs.Questions.{readable}
use Rattle.lists.proofs.ListLaws.{and_l, imp-e, imp-i, every-e, every-i, or_l, or_r, not-true, any_append}
use Rattle.events.proofs.EventLaws.{begins-take}
use Rattle.events.proofs.QuestionLaws.{begun}
use Rattle.opacity.specs.Transactions.{Status, committed, aborted, pending, live, HasStatus, status, allows, precedes}
use Rattle.opacity.specs.Transactions.{EndedBefore}
use Rattle.opacity.specs.Justification.{Place, is_of, placed, before, outcome, is_order, OnePlace}
use Rattle.opacity.specs.Justification.{outcome_kept, preceded, real_time_kept, Justified}
use Rattle.opacity.specs.Store.{Store}
use Rattle.opacity.specs.Explains.{PlacedBefore, Explains}
use Rattle.opacity.proofs.Orders.{orders, filled, one_place}
use Rattle.opacity.proofs.Meanings.{precedes-means}
use Rattle.opacity.proofs.Statuses.{status-iff}
use Rattle.opacity.proofs.Serial.{Known, known-serial, cut-before}

-- ---- places

-- a transaction with one place is placed
one_placed : (t : ℕ) (J : List Place) → OnePlace t J → placed t J ≡ true
unfolding placed any
one_placed t J w =
    ap (placed t) w.cut ∙ any_append (is_of t) w.front (w.here ∷ w.back) ∙ or_r _ _ (or_l _ _ (eq-eqb _ _ w.names))

module _ (start : Store) (h : List Event) (J : List Place) (r : readable h ≡ true) where
  known : Known h
  known i l = lt_of_lt_of_le (begun h r i l) (begins-take (suc i) h)

  -- ---- a justification explains

  allowed : Justified start h J → (t : ℕ) → t < begins h → (s : Status) → HasStatus s h t → allows s (outcome t J) ≡ true
  unfolding outcome_kept
  allowed j t l s e = subst (λ (x : Status). allows x (outcome t J) ≡ true) ((status-iff h r t s).1 e) (j.outcomes t l)

  -- the two of `EndedBefore` are transactions of the history
  by-known : (p : Event → Bool) (t i : ℕ) → i < length h → by p t (event_at h i) ≡ true → t < begins h
  unfolding by
  by-known p t i l b = subst (λ (u : ℕ). u < begins h) (eqb-true _ _ (and_l _ _ b)) (known i l)

  -- real time, asked of one transaction
  abbrev in_front : ℕ → ℕ → Bool
  in_front u t = precedes h t u implies placed t (before u J)

  in-time : Justified start h J → (t u : ℕ) → EndedBefore h t u → PlacedBefore t u J
  unfolding real_time_kept preceded
  in-time j t u e =
      let a = by-known is_end t e.ending (lt_trans e.rising e.inside) e.ends in
      let b = by-known is_begin u e.beginning e.inside e.begins in
      let w = one_place (begins h) J j.order u b in
      let k : placed t (before u J) ≡ true =
      imp-e _ _ (every-e (in_front u) (begins h) (j.real_time u b) t a) ((precedes-means h t u).1 e) in
      let c : before u J ≡ w.front =
      ap (λ (v : ℕ). before v J) (sym w.names) ∙ cut-before start h J j.order w.front w.here w.back w.cut in
      record { front = w.front; here = w.here; back = w.back; cut = w.cut; names = w.names; earlier = ap (placed t) (sym c) ∙ k }

  explains : Justified start h J → Explains start h J
  unfolding allows
  explains j =
      record {
        places = one_place (begins h) J j.order;
        no_more = filled (begins h) J j.order;
        committed = λ t l e. allowed j t l committed e;
        aborted = λ t l e. not-true _ (allowed j t l aborted e);
        unfinished = λ t l a e. not-true _ (allowed j t l live (a, e));
        real_time = in-time j;
        reads = ((known-serial start h J known).0 j).reads;
      }

  -- ---- what explains is a justification

  ordered : Explains start h J → is_order (begins h) J ≡ true
  ordered x = orders (begins h) J (every-i (λ t. placed t J) (begins h) (λ t l. one_placed t J (x.places t l))) x.no_more

  kept : Explains start h J → (t : ℕ) → t < begins h → outcome_kept h J t ≡ true
  unfolding outcome_kept allows
  kept x t l = go (status h t) refl
    where
      go : (s : Status) → status h t ≡ s → allows s (outcome t J) ≡ true
      go committed e = x.committed t l ((status-iff h r t committed).0 e)
      go aborted e = ap not (x.aborted t l ((status-iff h r t aborted).0 e))
      go pending e = refl
      go live e = let w = (status-iff h r t live).0 e in ap not (x.unfinished t l w.0 w.1)

  timed : Explains start h J → (u : ℕ) → u < begins h → real_time_kept h J u ≡ true
  unfolding real_time_kept preceded
  timed x u l = every-i (in_front u) (begins h) (λ t m. imp-i _ _ (λ e. go t (x.real_time t u ((precedes-means h t u).0 e))))
    where
      go : (t : ℕ) → PlacedBefore t u J → placed t (before u J) ≡ true
      go t w =
          ap (λ (v : ℕ). placed t (before v J)) (sym w.names)
          ∙ ap (placed t) (cut-before start h J (ordered x) w.front w.here w.back w.cut)
          ∙ w.earlier

  justified : Explains start h J → Justified start h J
  justified x = (known-serial start h J known).1 (record { order = ordered x; outcomes = kept x; real_time = timed x; reads = x.reads })

  -- A justification is exactly what explains the history.
  pub explains-iff : Justified start h J ↔ Explains start h J
  explains-iff = (explains, justified)
