-- In a readable history the transactions are below 64, and the store reads are at most 2,048.
-- Assumes nothing.
use Prim.Native.Nat.{ℕ, zero, suc, ◌≤◌, ◌<◌}
use native.Mathlib.Nat.{le_of_lt, le_refl}
use native.Mathlib.Numerals.{add-one}
use native.Mathlib.Omega.{arith}
use mathlib.Core.Path.{◌≡◌, refl, ap, ◌∙◌}
use mathlib.Core.Bool.{Bool, true, false}
use mathlib.Core.List.{List, [], ◌∷◌, ◌++◌}
use lib.ListN.{length, take}
use lib.Seq.{take-suc, take_all}
use Rattle.lists.specs.Lists.{keep, range}
use Rattle.events.specs.declared.event.Event.{Event}
use Rattle.events.specs.Events.{no_event, event_at, is_begin, begins}
use Rattle.events.specs.Questions.{readable}
use Rattle.lists.proofs.ListLaws.{keep-length, range_length}
use Rattle.events.proofs.EventLaws.{begins-take, begins-snoc, begins-same}
use Rattle.events.proofs.QuestionLaws.{asked-at, begun}
use Rattle.events.proofs.ReadableLaws.{readable-most}
use Rattle.opacity.specs.Transactions.{is_store_read, store_reads}

-- ---- transactions

module _ (h : List Event) (r : readable h ≡ true) where
  few : (n : ℕ) → n ≤ length h → begins (take n h) ≤ 64
  unfolding begins keep
  few zero l = omega arith
  few (suc n) l = go (is_begin (event_at h n)) refl (few n (le_of_lt l))
    where
      s : take (suc n) h ≡ take n h ++ (event_at h n ∷ [])
      s = take-suc h n no_event l

      go : (b : Bool) → is_begin (event_at h n) ≡ b → begins (take n h) ≤ 64 → begins (take (suc n) h) ≤ 64
      go true e ih =
          let c : begins (take (suc n) h) ≡ suc (begins (take n h)) = ap begins s ∙ begins-snoc (take n h) (event_at h n) e ∙ add-one (begins (take n h)) in
          rw c ((asked-at h r n l).few e)
      go false e ih = let c : begins (take (suc n) h) ≡ begins (take n h) = ap begins s ∙ begins-same (take n h) (event_at h n) e in rw c ih

  pub at-most-64 : begins h ≤ 64
  at-most-64 = rw (take_all (length h) h (le_refl (length h))) at (few (length h) (le_refl (length h)))

  pub transaction-known : (i : ℕ) → i < length h → (event_at h i).transaction < begins h
  transaction-known i l = omega (arith, begun h r i l, begins-take (suc i) h)

  pub transaction-low : (i : ℕ) → i < length h → (event_at h i).transaction < 64
  transaction-low i l = omega (arith, transaction-known i l, at-most-64)

-- ---- store reads

-- no more than there are events
pub reads-most : (h : List Event) → length (store_reads h) ≤ length h
unfolding store_reads
reads-most h = omega (arith, keep-length (is_store_read h) (range (length h)), range_length (length h))

pub reads-low : (h : List Event) → readable h ≡ true → length (store_reads h) ≤ 2048
reads-low h r = omega (arith, reads-most h, readable-most h r)
