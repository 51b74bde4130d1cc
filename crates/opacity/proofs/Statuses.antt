-- In a readable history a transaction's status says of its events what it is meant to: nothing is both committed and aborted.
-- Assumes nothing.
use Prim.Native.Nat.{ℕ, zero, suc, ◌≤◌, ◌<◌}
use native.Mathlib.Nat.{le_of_lt, le_refl}
use mathlib.Core.Path.{◌≡◌, refl, sym, ap, ◌∙◌, subst}
use mathlib.Core.Logic.{◌↔◌, ⊎_elim}
use mathlib.Core.Bool.{Bool, true, false, cond, false≢true}
use mathlib.Core.List.{List, [], ◌∷◌, ◌++◌}
use lib.Dec.{eqb}
use lib.ListN.{length, take}
use lib.Seq.{take-suc, take_all}
use borrow.Author.Tests.{eqb-true}
use Rattle.lists.specs.Lists.{◌and◌, ◌or◌, any}
use Rattle.events.specs.declared.event.Event.{Event}
use Rattle.events.specs.Events.{no_event, event_at, asks_commit, is_commit, is_abort, is_end, by, has, ended}
use Rattle.events.specs.Questions.{readable}
use Rattle.lists.proofs.ListLaws.{and_l, and_r, and_i, or_l, or_r, or_cases, nor-l, nor-r, nor-i, clash}
use Rattle.events.proofs.KindLaws.{commit-no-abort}
use Rattle.events.proofs.QuestionLaws.{unended}
use Rattle.events.proofs.StateLaws.{has-snoc}
use Rattle.opacity.specs.Transactions.{Status, committed, aborted, pending, live, HasStatus, status}

-- a transaction has ended if it is committed or aborted
pub ended_by : (t : ℕ) (h : List Event) → ended t h ≡ (has is_commit t h or has is_abort t h)
unfolding ended has any by is_end ◌and◌ ◌or◌
ended_by t [] = refl
ended_by t (e ∷ h) = ap (λ (b : Bool). by is_end t e or b) (ended_by t h) ∙ spread (eqb e.transaction t) (is_commit e) (is_abort e) (has is_commit t h) (has is_abort t h)
  where
    spread : (a b c x y : Bool) → ((a and (b or c)) or (x or y)) ≡ (((a and b) or x) or ((a and c) or y))
    spread false b c x y = refl
    spread true true c x y = refl
    spread true false true true y = refl
    spread true false true false y = refl
    spread true false false x y = refl

module _ (h : List Event) (r : readable h ≡ true) (t : ℕ) where
  -- a transaction that has ended does not end again
  pub no_second : (n : ℕ) → n < length h → ended t (take n h) ≡ true → by is_end t (event_at h n) ≡ false
  unfolding by
  no_second n l u = go (by is_end t (event_at h n)) refl
    where
      go : (b : Bool) → by is_end t (event_at h n) ≡ b → b ≡ false
      go false q = refl
      go true q =
          let e : (event_at h n).transaction ≡ t = eqb-true _ _ (and_l _ _ q) in
          absurd (clash u (rw e at (unended h r n l)))

  -- no transaction is both
  not-both : (n : ℕ) → n ≤ length h → has is_commit t (take n h) ≡ true → has is_abort t (take n h) ≡ true → ⊥
  unfolding has any by is_end
  not-both zero l c a = false≢true c
  not-both (suc n) l c a =
      let s : take (suc n) h ≡ take n h ++ (event_at h n ∷ []) = take-suc h n no_event l in
      let x = rw (s, has-snoc is_commit (take n h) (event_at h n) t) at c in
      let y = rw (s, has-snoc is_abort (take n h) (event_at h n) t) at a in
      ⊎_elim
      (λ old. ⊎_elim (not-both n (le_of_lt l) old) (λ new. later (or_l _ _ old) (or_r _ _ (and_r _ _ new)) (and_l _ _ new)) (or_cases _ _ y))
      (λ new. ⊎_elim (λ old. later (or_r _ _ old) (or_l _ _ (and_r _ _ new)) (and_l _ _ new)) (λ also. clash (and_r _ _ also) (commit-no-abort (event_at h n) (and_r _ _ new))) (or_cases _ _ y))
      (or_cases _ _ x)
    where
      later : (has is_commit t (take n h) or has is_abort t (take n h)) ≡ true → (is_commit (event_at h n) or is_abort (event_at h n)) ≡ true
          → eqb (event_at h n).transaction t ≡ true → ⊥
      later u w e = clash (and_i _ _ e w) (no_second n l (ended_by t (take n h) ∙ u))

pub not-committed : (t : ℕ) (h : List Event) → ended t h ≡ false → has is_commit t h ≡ false
not-committed t h u = nor-l _ _ (sym (ended_by t h) ∙ u)

pub not-aborted : (t : ℕ) (h : List Event) → ended t h ≡ false → has is_abort t h ≡ false
not-aborted t h u = nor-r _ _ (sym (ended_by t h) ∙ u)

-- a status as it is chosen, and what then holds of the three tests
chosen : Bool → Bool → Bool → Status
chosen c a p = cond c committed (cond a aborted (cond p pending live))

Tests : Status → Bool → Bool → Bool → Type 0
Tests committed c a p = c ≡ true
Tests aborted c a p = (c ≡ false) × (a ≡ true)
Tests pending c a p = (c ≡ false) × (a ≡ false) × (p ≡ true)
Tests live c a p = (c ≡ false) × (a ≡ false) × (p ≡ false)

tested : (c a p : Bool) → Tests (chosen c a p) c a p
unfolding chosen Tests
tested true a p = refl
tested false true p = (refl, refl)
tested false false true = (refl, refl, refl)
tested false false false = (refl, refl, refl)

choice : (s : Status) (c a p : Bool) → Tests s c a p → chosen c a p ≡ s
unfolding chosen Tests
choice committed c a p x = rw x
choice aborted c a p x = rw (x.0, x.1)
choice pending c a p x = rw (x.0, x.1, x.2)
choice live c a p x = rw (x.0, x.1, x.2)

module _ (h : List Event) (r : readable h ≡ true) (t : ℕ) where
  open-ended : has is_commit t h ≡ false → has is_abort t h ≡ false → ended t h ≡ false
  open-ended c a = ended_by t h ∙ nor-i _ _ c a

  uncommitted : has is_abort t h ≡ true → has is_commit t h ≡ false
  uncommitted a = go (has is_commit t h) refl
    where
      whole : take (length h) h ≡ h
      whole = take_all (length h) h (le_refl (length h))

      go : (b : Bool) → has is_commit t h ≡ b → b ≡ false
      go false e = refl
      go true e = absurd (not-both h r t (length h) (le_refl (length h)) (rw whole e) (rw whole a))

  by_tests : (s : Status) → Tests s (has is_commit t h) (has is_abort t h) (has asks_commit t h) ↔ HasStatus s h t
  unfolding Tests
  by_tests committed = (λ x. x, λ x. x)
  by_tests aborted = (λ x. x.1, λ a. (uncommitted a, a))
  by_tests pending = (λ x. (x.2, open-ended x.0 x.1), λ x. (not-committed t h x.1, not-aborted t h x.1, x.0))
  by_tests live = (λ x. (x.2, open-ended x.0 x.1), λ x. (not-committed t h x.1, not-aborted t h x.1, x.0))

  pub status-iff : (s : Status) → (status h t ≡ s) ↔ HasStatus s h t
  unfolding status chosen
  status-iff s = (
    λ e. (by_tests s).0 (subst (λ (x : Status). Tests x (has is_commit t h) (has is_abort t h) (has asks_commit t h)) e (tested (has is_commit t h) (has is_abort t h) (has asks_commit t h))),
    λ x. choice s (has is_commit t h) (has is_abort t h) (has asks_commit t h) ((by_tests s).1 x),
  )
