-- In a readable history a transaction that called commit and has not ended has that call pending: so one that makes a call, or whose write
-- returns, is live.
-- Assumes nothing.
use Prim.Native.Nat.{ℕ, zero, suc, ◌≤◌, ◌<◌}
use native.Mathlib.Nat.{le_of_lt}
use native.Mathlib.Omega.{arith}
use mathlib.Core.Path.{◌≡◌, refl, sym, ap, ◌∙◌}
use mathlib.Core.Bool.{Bool, true, false, false≢true}
use mathlib.Core.List.{List, [], ◌∷◌, ◌++◌}
use lib.Dec.{eqb}
use lib.ListN.{length, take}
use lib.Seq.{take-suc, take-take, get_or-take, length-take-le}
use borrow.Author.Tests.{eqb-true, eq-eqb}
use Rattle.lists.specs.Lists.{◌or◌, any}
use Rattle.events.specs.declared.event.Event.{Event}
use Rattle.events.specs.Events.{no_event, event_at, is_begin, is_call, asks_commit, is_end, by, has, begins, ended, last_of, pending_call, pending_of}
use Rattle.events.specs.Questions.{past, readable, due}
use Rattle.lists.proofs.ListLaws.{and_false_r, and-false-l, and-false-e, and_l, nor-l, nor-r, clash, any_append, latest-snoc}
use Rattle.events.proofs.EventLaws.{begins-take}
use Rattle.events.proofs.KindLaws.{due-commit, asks-is-call}
use Rattle.events.proofs.QuestionLaws as asking
use Rattle.events.proofs.QuestionLaws.{Fit, fit_at, asked, begun}
use Rattle.lists.proofs.ListLaws.{any-index}
use Rattle.opacity.specs.Transactions.{live, status}
use Rattle.opacity.proofs.Statuses.{not-committed, not-aborted}

pending-other : (h : List Event) (e : Event) (t : ℕ) → eqb e.transaction t ≡ false → pending_of (h ++ (e ∷ [])) t ≡ pending_of h t
unfolding pending_of pending_call last_of
pending-other h e t n = rw (latest-snoc, n)

pending-call : (h : List Event) (e : Event) (t : ℕ) → eqb e.transaction t ≡ true → is_call e ≡ true → pending_of (h ++ (e ∷ [])) t ≡ e
unfolding pending_of pending_call last_of
pending-call h e t n c = rw (latest-snoc, n, c)

has_last : (p : Event → Bool) (t : ℕ) (h : List Event) (e : Event) → has p t (h ++ (e ∷ [])) ≡ (has p t h or (by p t e or false))
unfolding has any
has_last p t h e = any_append (by p t) h (e ∷ [])

-- one event more
module _ (h : List Event) (e : Event) (t : ℕ) (f : Fit 2 (past h) e) (older : has asks_commit t h ≡ true → t < begins h)
    (ih : has asks_commit t h ≡ true → ended t h ≡ false → asks_commit (pending_of h t) ≡ true)
    (c : has asks_commit t (h ++ (e ∷ [])) ≡ true) (u : ended t (h ++ (e ∷ [])) ≡ false) where
  unended : ended t h ≡ false
  unfolding ended
  unended = nor-l _ _ (sym (has_last is_end t h e) ∙ u)

  no_end : by is_end t e ≡ false
  unfolding ended
  no_end = nor-l _ _ (nor-r _ _ (sym (has_last is_end t h e) ∙ u))

  earlier : by asks_commit t e ≡ false → has asks_commit t h ≡ true
  unfolding ◌or◌
  earlier n = go (has asks_commit t h) (by asks_commit t e) n (sym (has_last asks_commit t h e) ∙ c)
    where
      go : (x y : Bool) → y ≡ false → (x or (y or false)) ≡ true → x ≡ true
      go true y m s = refl
      go false true m s = absurd (clash refl m)
      go false false m s = s

  -- t's own event can only be the call
  own-event : e.transaction ≡ t → asks_commit e ≡ false → ⊥
  unfolding by
  own-event q n =
      let w : has asks_commit t h ≡ true = earlier (and_false_r _ _ n) in
      let a = asked _ _ f.asks in
      let d : due (pending_of h t).kind e.kind ≡ true = rw q at a.in-turn in
      let b : is_begin e ≡ true = due-commit (pending_of h t) e f.known (ih w unended) d (and-false-e _ _ no_end (eq-eqb _ _ q)) in
      let z : e.transaction ≡ begins h = a.next b in
      omega (arith, older w)

  pub pending-step : asks_commit (pending_of (h ++ (e ∷ [])) t) ≡ true
  unfolding by
  pending-step = go (eqb e.transaction t) refl (asks_commit e) refl
    where
      go : (x : Bool) → eqb e.transaction t ≡ x → (y : Bool) → asks_commit e ≡ y → asks_commit (pending_of (h ++ (e ∷ [])) t) ≡ true
      go false m y n = ap asks_commit (pending-other h e t m) ∙ ih (earlier (and-false-l _ _ m)) unended
      go true m true n = ap asks_commit (pending-call h e t m (asks-is-call e n)) ∙ n
      go true m false n = absurd (own-event (eqb-true _ _ m) n)

module _ (h : List Event) (r : readable h ≡ true) where
  -- a transaction with an event has begun
  pub named : (p : Event → Bool) (n t : ℕ) → n ≤ length h → has p t (take n h) ≡ true → t < begins (take n h)
  unfolding has by
  named p n t l c =
      let w = any-index (by p t) (take n h) no_event c in
      let k : length (take n h) ≡ n = length-take-le n h l in
      let j : w.0 < n = omega (arith, w.1) in
      let q : by p t (event_at h w.0) ≡ true = ap (by p t) (sym (get_or-take n h w.0 no_event j)) ∙ w.2 in
      let b : (event_at h w.0).transaction < begins (take (suc w.0) h) = begun h r w.0 (omega arith) in
      let d : begins (take (suc w.0) h) ≤ begins (take n h) =
      rw (take-take (suc w.0) n h j) at (begins-take (suc w.0) (take n h)) in
      let e : (event_at h w.0).transaction ≡ t = eqb-true _ _ (and_l _ _ q) in
      omega arith

  -- a transaction that called commit and has not ended has that call pending
  pub pending-commit : (n t : ℕ) → n ≤ length h → has asks_commit t (take n h) ≡ true → ended t (take n h) ≡ false
      → asks_commit (pending_of (take n h) t) ≡ true
  unfolding has any
  pending-commit zero t l c u = absurd (false≢true c)
  pending-commit (suc n) t l c u =
      let s : take (suc n) h ≡ take n h ++ (event_at h n ∷ []) = take-suc h n no_event l in
      rw s
      (pending-step (take n h) (event_at h n) t (fit_at h r n l) (named asks_commit n t (le_of_lt l)) (pending-commit n t (le_of_lt l)) (rw s at c)
      (rw s at u))

-- The transaction of an event that neither begins nor ends one is live before that event.
pub stays-live : (h : List Event) → readable h ≡ true → (i : ℕ) → i < length h → is_begin (event_at h i) ≡ false → is_end (event_at h i) ≡ false
    → status (take i h) (event_at h i).transaction ≡ live
unfolding status
stays-live h r i l b n =
    let f = fit_at h r i l in
    let a = asked _ _ f.asks in
    let t = (event_at h i).transaction in
    let u : ended t (take i h) ≡ false = asking.unended h r i l in
    let k : has asks_commit t (take i h) ≡ false = uncalled t f a.in-turn u (has asks_commit t (take i h)) refl in
    rw (not-committed t (take i h) u, not-aborted t (take i h) u, k)
  where
    uncalled : (t : ℕ) → Fit 2 (past (take i h)) (event_at h i) → due (pending_of (take i h) t).kind (event_at h i).kind ≡ true
        → ended t (take i h) ≡ false → (x : Bool) → has asks_commit t (take i h) ≡ x → has asks_commit t (take i h) ≡ false
    uncalled t f d u false q = q
    uncalled t f d u true q =
        absurd (clash (due-commit (pending_of (take i h) t) (event_at h i) f.known (pending-commit h r i t (le_of_lt l) q u) d n) b)
