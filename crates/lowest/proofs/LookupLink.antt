-- What the search looks up is what the history says: the contents of a register after the places filled, and with them the store that the
-- committed transactions placed so far, applied in order over the start values, leave (change request 4).
-- Assumes nothing.
use mathlib.Core.Path.{◌≡◌, refl, sym, ap, ap₂, ◌∙◌}
use Prim.Native.Nat.{ℕ, suc, ◌/◌, ◌<◌}
use native.Mathlib.Nat.{le_refl, zero-lt-suc, suc-le-suc_iff}
use native.Mathlib.Omega.{arith}
use mathlib.Core.Bool.{true, cond}
use mathlib.Core.List.{List, [], ◌∷◌}
use mathlib.Core.Option
use mathlib.Core.Option.{Option, none, some}
use lib.ListN.{length, get_or}
use lib.Seq.{take_all}
use lib.Dec.{ltb}
use borrow.Author.Tests.{ltb-true, lt-ltb}
use Rattle.lists.specs.Lists.{or_else, all, latest}
use Rattle.lists.proofs.ListLaws.{and_l, and_r, and_i}
use Rattle.events.specs.declared.event.Event.{Event}
use Rattle.event_log.specs.Starts.{start_of}
use Rattle.opacity.specs.Transactions.{last_write}
use Rattle.opacity.specs.Justification.{Place, written, contents}
use Rattle.opacity.specs.Store.{applied}
use Rattle.opacity.specs.Serial.{serial_store}
use Rattle.opacity.proofs.Serial.{serial-contents}
use Rattle.opacity.proofs.Contents.{contents-applied}
use Rattle.places.specs.Places.{codes_of, decode, plus, writes_in}
use Rattle.places.specs.State.{Coded}
use Rattle.places.proofs.StateLaws.{length-codes}
use Rattle.places.proofs.LookupLaws.{held}
use Rattle.lowest.specs.Order.{Judged}
use Rattle.lowest.proofs.GoodHistory.{good}
use Rattle.tables.specs.Tables.{tables_of}
use Rattle.lowest.proofs.Meaning.{Good, written-holds}

plus_one : (a b : Option ℕ) → plus a ≡ plus b → a ≡ b
plus_one none none e = refl
plus_one none (some y) e = absurd (omega arith)
plus_one (some x) none e = absurd (omega arith)
plus_one (some x) (some y) e = let q : x ≡ y = omega arith in ap some q

module _ (h : List Event) (good : Good h) (r : ℕ) (low : r < 32) where
  -- the table has the last write of each transaction to each register
  pub last-held : (t : ℕ) → t < 10 → last_write (writes_in (tables_of h).facts) t r ≡ last_write h t r
  last-held t l = plus_one _ _ (held t r (tables_of h).facts ∙ (rw (take_all (length h) h (le_refl (length h))) at (written-holds h good (length h) (le_refl (length h)) t r l low)))

  latest-held : (P : List Place) → all (λ p. ltb p.transaction 10) P ≡ true → latest (written (writes_in (tables_of h).facts) r) P ≡ latest (written h r) P
  unfolding latest all written
  latest-held [] k = refl
  latest-held (p ∷ P) k = ap₂ or_else (latest-held P (and_r _ _ k)) (ap (λ (a : Option ℕ). cond p.committed a none) (last-held p.transaction (ltb-true _ _ (and_l _ _ k))))

  -- so that r holds the same after any places of ten transactions
  pub contents-held : (start : ℕ → ℕ) (P : List Place) → all (λ p. ltb p.transaction 10) P ≡ true
      → contents start (writes_in (tables_of h).facts) P r ≡ contents start h P r
  unfolding contents
  contents-held start P k = ap (λ (a : Option ℕ). Option.get_or a (start r)) (latest-held P k)

-- each place filled is of one of ten transactions
abbrev pub Known : List ℕ → Type 0
Known p = (i : ℕ) → i < length p → get_or p i 0 / 2 < 10

known-places : (p : List ℕ) → Known p → all (λ q. ltb q.transaction 10) (decode p) ≡ true
unfolding all decode
known-places [] k = refl
known-places (c ∷ p) k = and_i _ _ (lt-ltb (c / 2) 10 (k 0 (zero-lt-suc (length p)))) (known-places p (λ i l. k (suc i) (suc-le-suc_iff.1 l)))

module _ (o : List ℕ) (h : List Event) (good : Good h) (p : List ℕ) (known : Known p) (r : ℕ) (low : r < 32) where
  -- For every register and every order of places filled: what is looked up in the tables of a history is what the register holds by the
  -- definition of justifications,
  pub looked-up-contents : contents (start_of o) (writes_in (tables_of h).facts) (decode p) r ≡ contents (start_of o) h (decode p) r
  looked-up-contents = contents-held h good r low (start_of o) (decode p) (known-places p known)

  -- what the committed transactions placed so far, applied in order over the start values, leave there,
  pub looked-up-applied : contents (start_of o) (writes_in (tables_of h).facts) (decode p) r ≡ applied (start_of o) h (decode p) r
  looked-up-applied = looked-up-contents ∙ contents-applied (start_of o) h (decode p) r

  -- and what the run one at a time has there.
  pub looked-up-serial : contents (start_of o) (writes_in (tables_of h).facts) (decode p) r ≡ serial_store (start_of o) h (decode p) r
  looked-up-serial = looked-up-contents ∙ sym (serial-contents (start_of o) h (decode p) r)

-- The value that the lookup returns while a history is judged, whatever the places filled: what the committed transactions among them,
-- applied in order over the start values, leave in the register.
pub value-looked-up : (o : List ℕ) (h : List Event) → Judged h → (filled placed r v : ℕ) → Coded filled placed → r < 32
    → v ≡ contents (start_of o) (writes_in (tables_of h).facts) (decode (codes_of filled placed)) r
    → v ≡ applied (start_of o) h (decode (codes_of filled placed)) r
value-looked-up o h j filled placed r v k low e =
    e ∙ looked-up-applied o h (good h j.readable j.few) (codes_of filled placed) known r low
  where
    known : Known (codes_of filled placed)
    known i l = omega (arith, k.codes i (rw (length-codes filled placed) at l))
