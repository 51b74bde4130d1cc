-- In a readable history a transaction ends once at most: the committed are as many as the events that record a commit, and the aborted as
-- those that record an abort.
-- Assumes nothing.
use Prim.Native.Nat.{ℕ, zero, suc, ◌+◌, ◌≤◌, ◌<◌}
use native.Mathlib.Nat.{le_of_lt, le_refl}
use native.Mathlib.Omega.{arith}
use mathlib.Core.Path.{◌≡◌, refl, sym, ap, ◌∙◌, subst}
use mathlib.Core.Logic.{◌↔◌}
use mathlib.Core.Bool.{Bool, true, false}
use mathlib.Core.List.{List, [], ◌∷◌, ◌++◌}
use lib.ListN.{length, take}
use lib.Seq.{take-suc, take_all}
use borrow.Author.Tests.{ne_eqb}
use Rattle.lists.specs.Lists.{◌or◌, any, keep}
use Rattle.events.specs.declared.event.Event.{Event}
use Rattle.events.specs.Events.{no_event, event_at, is_commit, is_abort, is_end, by, has, ended, begins}
use Rattle.events.specs.Questions.{readable}
use Rattle.lists.proofs.ListLaws.{and_i, and-false-l, and_false_r, or_l, or_r, or-false, both_ways, clash, eqb-self}
use Rattle.events.proofs.StateLaws.{has-snoc}
use Rattle.opacity.specs.Transactions.{Status, committed, aborted, status}
use Rattle.opacity.specs.Counts.{one}
use Rattle.opacity.proofs.HowMany.{kept-snoc, how_many, how-many-none, how-many-same, how-many-moved}
use Rattle.opacity.proofs.Bounds.{transaction-known}
use Rattle.opacity.proofs.Statuses.{ended_by, no_second, status-iff}
use Rattle.counts.specs.Tally.{has_status, of_status, tally}
use Rattle.counts.proofs.Theorems.{has-status, status-has}

-- events of a kind that ends a transaction, and the status of those that have one
module _ (h : List Event) (r : readable h ≡ true) (p : Event → Bool) (s : Status)
    (an-end : (e : Event) → p e ≡ true → is_end e ≡ true) (ends : (t : ℕ) (g : List Event) → has p t g ≡ true → ended t g ≡ true)
    (means : (t : ℕ) → (status h t ≡ s) ↔ (has p t h ≡ true)) where
  -- t has one among the first n events
  abbrev flag : ℕ → ℕ → Bool
  flag n t = has p t (take n h)

  -- a transaction has one at most
  first_one : (n : ℕ) → n < length h → p (event_at h n) ≡ true → has p (event_at h n).transaction (take n h) ≡ false
  unfolding by
  first_one n l q = go (has p (event_at h n).transaction (take n h)) refl
    where
      go : (b : Bool) → has p (event_at h n).transaction (take n h) ≡ b → b ≡ false
      go false e = refl
      go true e =
          absurd (clash (and_i _ _ (eqb-self (event_at h n).transaction) (an-end (event_at h n) q))
          (no_second h r (event_at h n).transaction n l (ends (event_at h n).transaction (take n h) e)))

  module _ (n : ℕ) (l : n < length h) where
    one-more-event : take (suc n) h ≡ take n h ++ (event_at h n ∷ [])
    one-more-event = take-suc h n no_event l

    kept_more : length (keep p (take (suc n) h)) ≡ length (keep p (take n h)) + one (p (event_at h n))
    kept_more = ap (λ (g : List Event). length (keep p g)) one-more-event ∙ kept-snoc p (take n h) (event_at h n)

    flag-more : (t : ℕ) → flag (suc n) t ≡ (flag n t or by p t (event_at h n))
    flag-more t = ap (has p t) one-more-event ∙ has-snoc p (take n h) (event_at h n) t

    flag_same : (t : ℕ) → by p t (event_at h n) ≡ false → flag n t ≡ flag (suc n) t
    flag_same t e = sym (or-false _) ∙ (ap (λ (b : Bool). flag n t or b) (sym e) ∙ sym (flag-more t))

  counted : (n : ℕ) → n ≤ length h → length (keep p (take n h)) ≡ how_many (flag n) (begins h)
  unfolding keep has any by
  counted zero l = sym (how-many-none (flag 0) (begins h) (λ t m. refl))
  counted (suc n) l = kept_more n l ∙ go (p (event_at h n)) refl (counted n (le_of_lt l))
    where
      T : ℕ
      T = (event_at h n).transaction

      go : (b : Bool) → p (event_at h n) ≡ b → length (keep p (take n h)) ≡ how_many (flag n) (begins h)
          → length (keep p (take n h)) + one b ≡ how_many (flag (suc n)) (begins h)
      go false e ih = omega (arith, ih, how-many-same (flag n) (flag (suc n)) (begins h) (λ t m. flag_same n l t (and_false_r _ _ e)))
      go true e ih =
          let more = how-many-moved (flag n) (flag (suc n)) T (λ u f. flag_same n l u (and-false-l _ _ (ne_eqb _ _ f))) (begins h) (transaction-known h r n l) in
          let before : one (flag n T) ≡ 0 = ap one (first_one n l e) in
          let after : one (flag (suc n) T) ≡ 1 = ap one (flag-more n l T ∙ or_r _ _ (and_i _ _ (eqb-self T) e)) in
          omega (arith, ih, more)

  ends-counted : length (of_status s h) ≡ length (keep p h)
  unfolding of_status
  ends-counted =
      let whole : take (length h) h ≡ h = take_all (length h) h (le_refl (length h)) in
      how-many-same (has_status s h) (λ t. has p t h) (begins h) (λ t m. both_ways _ _ (λ e. (means t).0 (status-has s h t e)) (λ e. has-status s h t ((means t).1 e)))
      ∙ sym (subst (λ (g : List Event). length (keep p g) ≡ how_many (λ t. has p t g) (begins h)) whole (counted (length h) (le_refl (length h))))

module _ (h : List Event) (r : readable h ≡ true) where
  pub committed-events : (tally h).committed ≡ length (keep is_commit h)
  unfolding tally is_end
  committed-events = ends-counted h r is_commit committed (λ e q. or_l _ _ q) (λ t g q. ended_by t g ∙ or_l _ _ q) (λ t. status-iff h r t committed)

  pub aborted-events : (tally h).aborted ≡ length (keep is_abort h)
  unfolding tally is_end
  aborted-events = ends-counted h r is_abort aborted (λ e q. or_r _ _ q) (λ t g q. ended_by t g ∙ or_r _ _ q) (λ t. status-iff h r t aborted)
