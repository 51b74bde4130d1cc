-- Laws of the sets of registers that transactions write.
-- Assumes nothing.
use Prim.Native.Nat.{ℕ, zero, suc, ◌≤◌, ◌<◌, ◌^◌}
use native.Mathlib.Nat.{le_refl}
use native.Mathlib.Omega.{arith}
use mathlib.Core.Path.{◌≡◌, refl, sym, ap, ◌∙◌}
use mathlib.Core.Bool.{Bool, true, false, cond}
use mathlib.Core.List.{List}
use mathlib.Core.Option.{none, some}
use lib.Bits.{bit_or}
use lib.Dec.{eqb}
use lib.ListN.{length, get_or, take}
use lib.Seq.{take-length}
use Rattle.lists.specs.Bits.{bit_at}
use Rattle.lists.specs.Lists.{◌and◌, or_else, latest}
use Rattle.lists.proofs.BitLaws.{bit-with}
use Rattle.events.specs.declared.event.Event.{Event}
use Rattle.events.specs.Events.{event_at, is_write}
use Rattle.opacity.specs.Transactions.{last_write}
use Rattle.links.specs.declared.tables.Transaction.{Transaction}
use Rattle.links.specs.Tables.{blank, slot, with_written, AllTabled}
use Rattle.links.proofs.TableLaws.{standing, standing-more}
use Rattle.links.proofs.WriteLaws.{last-same, last-write}

-- one event more
module _ (h : List Event) (i : ℕ) (inside : i < length h) where
  -- a transaction that event i is not of
  other-write : (t r : ℕ) → eqb (event_at h i).transaction t ≡ false → last_write (take i h) t r ≡ none → last_write (take (suc i) h) t r ≡ none
  unfolding ◌and◌
  other-write t r d n = last-same h t r i inside false (is_write (event_at h i)) d refl refl ∙ n

  -- the one that it is of, by what is in the set afterwards
  own-write : (t r x : ℕ) → eqb (event_at h i).transaction t ≡ true → ((bit_at r x ≡ 1 → ⊥) → last_write (take i h) t r ≡ none)
      → (bit_at r (with_written (event_at h i) x) ≡ 1 → ⊥) → last_write (take (suc i) h) t r ≡ none
  unfolding ◌and◌
  own-write t r x d before z = go (is_write (event_at h i)) refl z
    where
      hit : (k : Bool) → (cond k 1 (bit_at r x) ≡ 1 → ⊥) → or_else (cond k (some (event_at h i).value) none) (last_write (take i h) t r) ≡ none
      hit true w = absurd (w refl)
      hit false w = before w

      go : (b : Bool) → is_write (event_at h i) ≡ b → (bit_at r (cond b (bit_or x (2 ^ (event_at h i).register)) x) ≡ 1 → ⊥) → last_write (take (suc i) h) t r ≡ none
      go false e q = last-same h t r i inside true false d e refl ∙ before q
      go true e q = last-write h t r i inside d e ∙ hit (eqb (event_at h i).register r) (λ m. q (bit-with r (event_at h i).register x ∙ m))

-- to those outside the set nothing is written by the first m events
unwritten-before : (h : List Event) (t r m : ℕ) → m ≤ length h → (bit_at r (standing h t m).registers ≡ 1 → ⊥) → last_write (take m h) t r ≡ none
unfolding slot last_write latest
unwritten-before h t r zero l z = refl
unwritten-before h t r (suc m) l z =
    go (eqb (event_at h m).transaction t) refl (unwritten-before h t r m (omega arith))
    (λ e. z (ap (bit_at r) (standing-more (λ (x : Transaction). x.registers) h t m) ∙ e))
  where
    go : (b : Bool) → eqb (event_at h m).transaction t ≡ b
        → ((bit_at r (standing h t m).registers ≡ 1 → ⊥) → last_write (take m h) t r ≡ none)
        → (bit_at r (cond b (with_written (event_at h m) (standing h t m).registers) (standing h t m).registers) ≡ 1 → ⊥) → last_write (take (suc m) h) t r ≡ none
    go true d ih w = own-write h m l t r (standing h t m).registers d ih w
    go false d ih w = other-write h m l t r d (ih w)

pub its-unwritten : {h : List Event} {tables : List Transaction} → AllTabled h tables → (t r : ℕ) → t < 64
    → (bit_at r (get_or tables t blank).registers ≡ 1 → ⊥) → last_write h t r ≡ none
its-unwritten {h} {tables} y t r l z =
    ap (λ (g : List Event). last_write g t r) (sym (take-length h))
    ∙ unwritten-before h t r (length h) (le_refl _) (λ e. z (ap (λ (x : Transaction). bit_at r x.registers) (y.holds t l) ∙ e))
