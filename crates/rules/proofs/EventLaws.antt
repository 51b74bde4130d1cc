-- The events that name a transaction: its begin and its last one, as a program finds them by going upwards.
-- Assumes nothing.
use Prim.Native.Nat.{ℕ, ◌+◌, ◌<◌}
use native.Mathlib.Numerals.{add-one}
use mathlib.Core.Path.{◌≡◌, sym, ap}
use mathlib.Core.Bool.{Bool, true, false, cond}
use mathlib.Core.List.{List}
use mathlib.Core.Option.{Option, none, some, get_or}
use lib.Dec.{eqb}
use lib.ListN.{length}
use borrow.Author.Tests.{eq-eqb, ne_eqb}
use Rattle.events.specs.declared.event.Event.{Event}
use Rattle.events.specs.Events.{event_at, is_begin, by}
use Rattle.lists.specs.Lists.{first, last}
use Rattle.lists.proofs.ListLaws.{lowest-here, none_first}
use Rattle.opacity.specs.Marking.{begin_of, last_event}

module _ (h : List Event) (t : ℕ) where
  pub begins-here : (i : ℕ) → i < length h → ((k : ℕ) → k < i → by is_begin t (event_at h k) ≡ false)
      → by is_begin t (event_at h i) ≡ true → i ≡ begin_of h t
  unfolding begin_of first
  begins-here i l n q =
      sym (ap (λ (o : Option ℕ). get_or o 0)
      (lowest-here (λ k. cond (by is_begin t (event_at h k)) (some k) none) (length h) i l
      (ap (λ (b : Bool). cond b (some i) none) q) (λ j m. ap (λ (b : Bool). cond b (some j) none) (n j m))))

  pub begins-never : ((k : ℕ) → k < length h → by is_begin t (event_at h k) ≡ false) → 0 ≡ begin_of h t
  unfolding begin_of
  begins-never n = sym (ap (λ (o : Option ℕ). get_or o 0) (none_first (λ k. by is_begin t (event_at h k)) (length h) n))

  -- the last one of the first n events
  abbrev pub last_of : ℕ → ℕ
  last_of n = get_or (last (λ k. eqb (event_at h k).transaction t) n) 0

  pub last-here : (i : ℕ) → (event_at h i).transaction ≡ t → i ≡ last_of (i + 1)
  unfolding last
  last-here i e = rw (add-one i) (rw (eq-eqb _ _ e))

  pub last-other : (i : ℕ) → ((event_at h i).transaction ≡ t → ⊥) → last_of i ≡ last_of (i + 1)
  unfolding last
  last-other i n = rw (add-one i) (rw (ne_eqb _ _ n))

  pub last-found : (n : ℕ) → n ≡ length h → last_of n ≡ last_event h t
  unfolding last_event
  last-found n e = rw e
