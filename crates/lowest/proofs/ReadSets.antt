-- What the sets of registers say: each store read below n is in that of its transaction, and a member is a register.
-- Assumes nothing.
use mathlib.Core.Path.{◌≡◌, refl, sym, ap, ◌∙◌}
use mathlib.Core.Logic.{⊎_elim}
use Prim.Native.Nat.{ℕ, zero, suc, ◌^◌, ◌≤◌, ◌<◌}
use native.Mathlib.Nat.{le_of_lt, not-suc-le-zero}
use native.Mathlib.Omega.{arith}
use mathlib.Core.Bool.{Bool, true, false, cond}
use mathlib.Core.List.{List, []}
use lib.ListN.{length}
use lib.Dec.{eqb}
use lib.Bits.{bit_or}
use borrow.Author.Tests.{eqb-true, eq-eqb}
use Rattle.lists.specs.Lists.{◌and◌}
use Rattle.events.specs.declared.event.Event.{Event}
use Rattle.events.specs.Events.{event_at}
use Rattle.opacity.specs.Transactions.{is_store_read}
use Rattle.lists.proofs.ListLaws.{below-cases}
use Rattle.lists.specs.Bits.{bit_at}
use Rattle.places.specs.Facts.{fact}
use Rattle.lists.proofs.BitLaws.{bit-none, bit-with}
use Rattle.tables.specs.declared.Tables.{Tables}
use Rattle.tables.specs.Tables.{next, tables_of}
use Rattle.tables.proofs.PutLaws.{reads-next}
use Rattle.lowest.proofs.Meaning.{Good, tab, tab-suc, has_room, shaped, fact-zero}
use Rattle.lowest.proofs.ReadMeaning.{store_same, own_held}

-- what the sets of the facts f say of the reads below n
pub record Marks (h : List Event) (n : ℕ) (f : List (List ℕ)) : Type 0 where
  pub each : (i : ℕ) → i < n → is_store_read h i ≡ true → bit_at (event_at h i).register (fact f (event_at h i).transaction 2) ≡ 1
  pub low : (t x : ℕ) → t < 10 → bit_at x (fact f t 2) ≡ 1 → x < 32

-- r in a set
with-new : (r set : ℕ) → bit_at r (bit_or set (2 ^ r)) ≡ 1
with-new r set = let e : eqb r r ≡ true = eq-eqb r r refl in bit-with r r set ∙ (rw e)

with-old : (r x set : ℕ) → bit_at x set ≡ 1 → bit_at x (bit_or set (2 ^ r)) ≡ 1
with-old r x set b = bit-with x r set ∙ go (eqb r x)
  where
    go : (c : Bool) → cond c 1 (bit_at x set) ≡ 1
    go true = refl
    go false = b

with-low : (r x set : ℕ) → r < 32 → (bit_at x set ≡ 1 → x < 32) → bit_at x (bit_or set (2 ^ r)) ≡ 1 → x < 32
with-low r x set l f b = go (eqb r x) refl (sym (bit-with x r set) ∙ b)
  where
    go : (c : Bool) → eqb r x ≡ c → cond c 1 (bit_at x set) ≡ 1 → x < 32
    go true q k = omega (arith, eqb-true r x q)
    go false q k = f k

module _ (h : List Event) (n : ℕ) (f F : List (List ℕ)) (lt : (event_at h n).transaction < 10) (lr : (event_at h n).register < 32) (m : Marks h n f)
    (set : (u : ℕ) → fact F u 2
    ≡ cond (eqb (event_at h n).transaction u and is_store_read h n) (bit_or (fact f (event_at h n).transaction 2) (2 ^ (event_at h n).register)) (fact f u 2)) where
  here : is_store_read h n ≡ true → bit_at (event_at h n).register (fact F (event_at h n).transaction 2) ≡ 1
  unfolding ◌and◌
  here s =
      let a : eqb (event_at h n).transaction (event_at h n).transaction ≡ true = eq-eqb (event_at h n).transaction _ refl in
      ap (bit_at (event_at h n).register) (set (event_at h n).transaction) ∙ (rw (a, s) (with-new (event_at h n).register (fact f (event_at h n).transaction 2)))

  kept : (u x : ℕ) → bit_at x (fact f u 2) ≡ 1 → bit_at x (fact F u 2) ≡ 1
  unfolding ◌and◌
  kept u x b = ap (bit_at x) (set u) ∙ go (eqb (event_at h n).transaction u) refl (is_store_read h n)
    where
      go : (a : Bool) → eqb (event_at h n).transaction u ≡ a → (s : Bool)
          → bit_at x (cond (a and s) (bit_or (fact f (event_at h n).transaction 2) (2 ^ (event_at h n).register)) (fact f u 2)) ≡ 1
      go true p true = with-old (event_at h n).register x _ (ap (λ (t : ℕ). bit_at x (fact f t 2)) (eqb-true _ _ p) ∙ b)
      go true p false = b
      go false p s = b

  still-low : (u x : ℕ) → u < 10 → bit_at x (fact F u 2) ≡ 1 → x < 32
  unfolding ◌and◌
  still-low u x l b = go (eqb (event_at h n).transaction u) (is_store_read h n) (sym (ap (bit_at x) (set u)) ∙ b)
    where
      go : (a s : Bool) → bit_at x (cond (a and s) (bit_or (fact f (event_at h n).transaction 2) (2 ^ (event_at h n).register)) (fact f u 2)) ≡ 1 → x < 32
      go true true k = with-low (event_at h n).register x _ lr (m.low (event_at h n).transaction x lt) k
      go true false k = m.low u x l k
      go false s k = m.low u x l k

  marks-more : Marks h (suc n) F
  marks-more =
      record {
        each = λ i l s. ⊎_elim (λ e. rw e (here (rw e at s))) (λ k. kept _ _ (m.each i k s)) (below-cases l);
        low = still-low;
      }

module _ (h : List Event) (good : Good h) where
  pub marks-hold : (n : ℕ) → n ≤ length h → Marks h n (tab h good n).facts
  unfolding next
  marks-hold zero l =
      record {
        each = λ i k s. absurd (not-suc-le-zero k);
        low = λ t x k b. absurd (let z : bit_at x (fact (tables_of []).facts t 2) ≡ 0 = ap (bit_at x) (fact-zero t 2 (omega arith) (omega arith)) ∙ bit-none x in omega arith);
      }
  marks-hold (suc n) l =
      rw (tab-suc h good n l) (marks-more h n s.facts _ (good n l).transaction (good n l).register (marks-hold n (le_of_lt l)) set)
    where
      s : Tables
      s = tab h good n

      e : Event
      e = event_at h n

      set : (u : ℕ) → fact (next s e).facts u 2 ≡ cond (eqb e.transaction u and is_store_read h n) (bit_or (fact s.facts e.transaction 2) (2 ^ e.register)) (fact s.facts u 2)
      set u =
          reads-next s.ended s.facts (shaped h good n (le_of_lt l)) e (has_room h good n l) u
          ∙ ap (λ (b : Bool). cond (eqb e.transaction u and b) (bit_or (fact s.facts e.transaction 2) (2 ^ e.register)) (fact s.facts u 2))
          (store_same h n s.facts (own_held h good n l))
