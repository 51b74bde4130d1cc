-- A readable history of at most ten transactions has what the tables need.
-- Assumes nothing.
use mathlib.Core.Path.{◌≡◌, refl}
use Prim.Native.Nat.{ℕ, ◌≤◌, ◌<◌}
use native.Mathlib.Nat.{le_of_lt}
use native.Mathlib.Omega.{arith}
use mathlib.Core.Bool.{Bool, true, false}
use mathlib.Core.List.{List}
use lib.ListN.{length, take}
use borrow.Author.Tests.{eqb-true}
use Rattle.lists.proofs.ListLaws.{and_l, and_r, not-true, any-index}
use Rattle.events.specs.declared.event.Event.{Event}
use Rattle.events.specs.Events.{no_event, event_at, is_begin, is_end, by, has, ended, begins}
use Rattle.events.specs.Questions.{readable}
use Rattle.events.proofs.QuestionLaws.{asked-at, readable-take}
use Rattle.events.proofs.RegisterLaws.{register-low}
use Rattle.opacity.proofs.Bounds.{transaction-known}
use Rattle.tables.specs.Tables.{Tabled}
use Rattle.lowest.specs.Order.{Judged}
use Rattle.lowest.proofs.Meaning.{Good}

-- the transaction of an event has not ended before it
pub going_on : (h : List Event) → readable h ≡ true → (i : ℕ) → i < length h → ended (event_at h i).transaction (take i h) ≡ false
unfolding ended has by
going_on h r i l = go (is_begin (event_at h i)) refl
  where
    t : ℕ
    t = (event_at h i).transaction

    -- one that begins is none of those that have begun
    fresh : is_begin (event_at h i) ≡ true → (b : Bool) → has is_end t (take i h) ≡ b → b ≡ false
    fresh q false e = refl
    fresh q true e =
        let w = any-index (by is_end t) (take i h) no_event e in
        let k : (event_at (take i h) w.0).transaction ≡ t = eqb-true _ _ (and_l _ _ w.2) in
        let m = transaction-known (take i h) (readable-take h i (le_of_lt l) r) w.0 w.1 in
        absurd (omega (arith, (asked-at h r i l).next q))

    go : (b : Bool) → is_begin (event_at h i) ≡ b → has is_end t (take i h) ≡ false
    go true q = fresh q (has is_end t (take i h)) refl
    go false q = not-true _ (and_r _ _ ((asked-at h r i l).lives q))

module _ (h : List Event) (r : readable h ≡ true) (few : begins h ≤ 10) where
  pub good : Good h
  good i l = record { transaction = omega (arith, transaction-known h r i l); register = register-low h r i l; going = going_on h r i l }

-- the tables have room for each of its events
pub tabled : (h : List Event) → Judged h → (i : ℕ) → i < length h → (e : Event) → e ≡ event_at h i → Tabled e
tabled h j i l e q =
    let f = good h j.readable j.few i l in
    rw q (record { transaction = f.transaction; register = f.register })
