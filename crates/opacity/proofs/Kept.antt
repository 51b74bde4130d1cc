-- An order that justifies a history justifies it with one event more that begins nothing, where a read returns what its transaction reads
-- there, an end is the outcome that the order has, and a write is of a transaction that the order has aborted.
-- Assumes nothing.
use Prim.Native.Nat.{ℕ, ◌<◌}
use mathlib.Core.Path.{◌≡◌, refl}
use mathlib.Core.Bool.{Bool, true, false}
use mathlib.Core.List.{List, [], ◌∷◌, ◌++◌}
use mathlib.Core.Option.{get_or}
use lib.Dec.{eqb}
use borrow.Author.Tests.{eqb-true}
use Rattle.events.specs.declared.event.Event.{Event}
use Rattle.events.specs.Events.{event_at, is_begin, is_read, is_write, is_commit, is_end, by, ended, begins}
use Rattle.lists.proofs.ListLaws.{and_false_r, every-e, every-i}
use Rattle.events.proofs.EventLaws.{begins-same}
use Rattle.opacity.specs.Transactions.{allows, last_write, status}
use Rattle.opacity.specs.Justification.{Place, before, outcome, contents, is_order, outcome_kept, preceded, real_time_kept, Justified}
use Rattle.opacity.specs.Carry.{seen}
use Rattle.opacity.proofs.Orders.{before-none}
use Rattle.opacity.proofs.Snoc.{adds_to, adds_none, status-other, status-own, status-snoc, contents-snoc, own-snoc, own_new, legal-snoc, legal-new, precedes-snoc}

module _ (start : ℕ → ℕ) (h : List Event) (e : Event) (J : List Place) (j : Justified start h J) (b : is_begin e ≡ false)
    (unended : ended e.transaction h ≡ false)
    (reads : is_read e ≡ true → e.value ≡ seen start h J e.transaction e.register)
    (writes : is_write e ≡ true → outcome e.transaction J ≡ false)
    (ends : is_end e ≡ true → outcome e.transaction J ≡ is_commit e) where
  h' : List Event
  h' = h ++ (e ∷ [])

  fewer : {t : ℕ} → t < begins h' → t < begins h
  unfolding h'
  fewer l = rw (begins-same h e b) at l

  order : is_order (begins h') J ≡ true
  unfolding h'
  order = rw (begins-same h e b) j.order

  outcomes : (t : ℕ) → t < begins h' → outcome_kept h' J t ≡ true
  unfolding h' outcome_kept
  outcomes t l = go (eqb e.transaction t) refl (is_end e) refl
    where
      go : (x : Bool) → eqb e.transaction t ≡ x → (y : Bool) → is_end e ≡ y → allows (status (h ++ (e ∷ [])) t) (outcome t J) ≡ true
      go false x y q = rw (status-other h e t x) (j.outcomes t (fewer l))
      go true x false q = status-snoc h e t (outcome t J) q (j.outcomes t (fewer l))
      go true x true q = let n : e.transaction ≡ t = eqb-true _ _ x in rw (← n, ends q) (status-own h e unended)

  real_time : (u : ℕ) → u < begins h' → real_time_kept h' J u ≡ true
  unfolding h' real_time_kept preceded by
  real_time u l = every-i _ _ (λ t m. rw (precedes-snoc h e t u (and_false_r _ _ b)) (every-e _ _ (j.real_time u (fewer l)) t (fewer m)))

  same : (t r : ℕ) → contents start h' (before t J) r ≡ contents start h (before t J) r
  unfolding h'
  same t r = contents-snoc h e start (before t J) (before-none (adds_to e) t J (adds_none e J writes)) r

  returns : is_read e ≡ true → e.value ≡ get_or (last_write h e.transaction e.register) (contents start h' (before e.transaction J) e.register)
  unfolding seen
  returns t = rw (same e.transaction e.register) (reads t)

  pub kept-justified : Justified start (h ++ (e ∷ [])) J
  unfolding h'
  kept-justified =
      record {
        order = order;
        outcomes = outcomes;
        real_time = real_time;
        own = own-snoc h e (own_new h e start J returns) j.own;
        store = legal-snoc h e start J J (legal-new h e start J returns) (λ i l. same (event_at h i).transaction (event_at h i).register) j.store;
      }
