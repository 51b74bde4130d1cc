-- Laws of the linked writes: how the links are followed, and what is found there.
-- Assumes nothing.
use Prim.Native.Nat.{ℕ, zero, suc, ◌+◌, ◌≤◌, ◌<◌}
use native.Mathlib.Nat.{not-suc-le-zero, le_refl}
use native.Mathlib.Omega.{arith}
use mathlib.Core.Path.{◌≡◌, refl, sym, ap, ◌∙◌}
use mathlib.Core.Bool.{Bool, true, false, cond}
use mathlib.Core.List.{List}
use mathlib.Core.Option.{Option as Found, none, some}
use lib.Dec.{eqb}
use lib.ListN.{length, get_or, take}
use lib.Seq.{take-suc, take-length}
use borrow.Author.Tests.{eqb-true, eq-eqb, ne_eqb}
use Rattle.std.specs.Prelude.{Option, Some, None}
use Rattle.events.specs.declared.event.Event.{Event}
use Rattle.lists.specs.Lists.{◌and◌, or_else, latest}
use Rattle.events.specs.Events.{event_at, no_event, is_write, by}
use Rattle.lists.proofs.ListLaws.{latest-snoc}
use Rattle.opacity.specs.Transactions.{last_write}
use Rattle.links.specs.declared.tables.Transaction.{Transaction}
use Rattle.links.specs.Tables.{last_one, blank, write_noted, slot, AllTabled, past}
use Rattle.links.specs.Writes.{Linked, following, write_from}
use Rattle.links.proofs.TableLaws.{last-le, standing, standing-more}

-- the last write of t among the first m events
abbrev pub written : List Event → ℕ → ℕ → Option ℕ
written h t m = slot None write_noted h t m

-- as the tables have it
its-last : (h : List Event) (t m : ℕ) → (standing h t m).written ≡ written h t m
unfolding slot
its-last h t zero = refl
its-last h t (suc m) =
    standing-more (λ (x : Transaction). x.written) h t m
    ∙ ap (λ (x : Option ℕ). cond (eqb (event_at h m).transaction t) (last_one (is_write (event_at h m)) m x) x) (its-last h t m)

pub its-written : {h : List Event} {tables : List Transaction} → AllTabled h tables → (t : ℕ) → t < 64
    → (get_or tables t blank).written ≡ written h t (length h)
its-written {h} y t l = ap (λ (x : Transaction). x.written) (y.holds t l) ∙ its-last h t (length h)

-- ---- following the links

-- the last write of a transaction before event m stands before event m
pub head-le : (h : List Event) (t m : ℕ) → past (written h t m) ≤ m
unfolding slot
head-le h t zero = le_refl 0
head-le h t (suc m) = last-le (written h t m) m (eqb (event_at h m).transaction t) (is_write (event_at h m)) (head-le h t m)

-- the links lead backwards
pub links-back : (h : List Event) {link : List (Option ℕ)} → Linked h link → (i : ℕ) → i < length h → past (get_or link i None) ≤ i
links-back h y i l = rw (y.holds i l) (head-le h (event_at h i).transaction i)

-- what is left to follow has the answer, o
pub record Followed (h : List Event) (link : List (Option ℕ)) (r : ℕ) (o : Found ℕ) (j : Option ℕ) : Type 0 where
  pub low : past j ≤ length h
  pub left : ℕ
  pub enough : past j ≤ left
  pub same : following h link r left j ≡ o

pub following-none : (h : List Event) (link : List (Option ℕ)) (r k : ℕ) → following h link r k None ≡ none
unfolding following
following-none h link r zero = refl
following-none h link r (suc k) = refl

module _ {h : List Event} {link : List (Option ℕ)} {r : ℕ} {o : Found ℕ} where
  pub follow-start : (j : Option ℕ) → past j ≤ length h → write_from h link r j ≡ o → Followed h link r o j
  follow-start j l e = record { low = l; left = past j; enough = le_refl (past j); same = e }

  pub follow-none : Followed h link r o None → o ≡ none
  follow-none w = sym w.same ∙ following-none h link r w.left

  -- at an event
  module _ {i : ℕ} (w : Followed h link r o (Some i)) where
    pub follow-found : (event_at h i).register ≡ r → o ≡ some (event_at h i).value
    unfolding following
    follow-found q = sym w.same ∙ go w.left w.enough
      where
        go : (k : ℕ) → i + 1 ≤ k → following h link r k (Some i) ≡ some (event_at h i).value
        go zero l = absurd (omega arith)
        go (suc k) l = rw (eq-eqb _ _ q)

    pub follow-next : Linked h link → ((event_at h i).register ≡ r → ⊥) → Followed h link r o (get_or link i None)
    unfolding following
    follow-next y q = go w.left w.enough w.same
      where
        go : (k : ℕ) → i + 1 ≤ k → following h link r k (Some i) ≡ o → Followed h link r o (get_or link i None)
        go zero l s = absurd (omega arith)
        go (suc k) l s =
            let m : i < length h = omega (arith, w.low) in
            let b = links-back h y i m in
            record { low = omega arith; left = k; enough = omega arith; same = rw (ne_eqb _ _ q) at s }

-- ---- what is found

module _ (h : List Event) (t r : ℕ) where
  last_more : (m : ℕ) → m < length h → last_write (take (suc m) h) t r
      ≡ or_else (cond (by is_write t (event_at h m) and eqb (event_at h m).register r) (some (event_at h m).value) none) (last_write (take m h) t r)
  unfolding last_write
  last_more m l = rw (take-suc h m no_event l) (latest-snoc _ (take m h) (event_at h m))

  pub last-same : (m : ℕ) → m < length h → (a b : Bool) → eqb (event_at h m).transaction t ≡ a → is_write (event_at h m) ≡ b → (a and b) ≡ false
      → last_write (take (suc m) h) t r ≡ last_write (take m h) t r
  unfolding by ◌and◌
  last-same m l a b p q f = last_more m l ∙ rw (p, q, f)

  pub last-write : (m : ℕ) → m < length h → eqb (event_at h m).transaction t ≡ true → is_write (event_at h m) ≡ true
      → last_write (take (suc m) h) t r ≡ or_else (cond (eqb (event_at h m).register r) (some (event_at h m).value) none) (last_write (take m h) t r)
  unfolding by ◌and◌
  last-write m l p q = last_more m l ∙ rw (p, q)

module _ (h : List Event) (r : ℕ) (link : List (Option ℕ)) (y : Linked h link) where
  -- of t's writes before event m, the first to r that is met is the last one
  follow-write : (t m k : ℕ) → m ≤ length h → past (written h t m) ≤ k
      → following h link r k (written h t m) ≡ last_write (take m h) t r
  unfolding last_write latest slot last_one following ◌and◌
  follow-write t zero k l e = following-none h link r k
  follow-write t (suc m) k l e =
      go (eqb (event_at h m).transaction t) refl (is_write (event_at h m)) refl e (λ x d. follow-write t m x (omega arith) d)
    where
      Before : Type 0
      Before = (x : ℕ) → past (written h t m) ≤ x → following h link r x (written h t m) ≡ last_write (take m h) t r

      here : (x : ℕ) → suc m ≤ x → eqb (event_at h m).transaction t ≡ true → Before
          → following h link r x (Some m)
          ≡ or_else (cond (eqb (event_at h m).register r) (some (event_at h m).value) none) (last_write (take m h) t r)
      here zero d p ih = absurd (not-suc-le-zero d)
      here (suc x) d p ih = found (eqb (event_at h m).register r)
        where
          linked : get_or link m None ≡ written h t m
          linked = y.holds m l ∙ ap (λ (u : ℕ). written h u m) (eqb-true _ _ p)

          found : (b : Bool) → cond b (some (event_at h m).value) (following h link r x (get_or link m None))
              ≡ or_else (cond b (some (event_at h m).value) none) (last_write (take m h) t r)
          found true = refl
          found false = rw linked (ih x (let b = head-le h t m in omega arith))

      go : (a : Bool) → eqb (event_at h m).transaction t ≡ a → (b : Bool) → is_write (event_at h m) ≡ b
          → past (cond a (cond b (Some m) (written h t m)) (written h t m)) ≤ k → Before
          → following h link r k (cond a (cond b (Some m) (written h t m)) (written h t m))
          ≡ last_write (take (suc m) h) t r
      go true p true q d ih = here k (omega arith) p ih ∙ sym (last-write h t r m l p q)
      go true p false q d ih = ih k d ∙ sym (last-same h t r m l true false p q refl)
      go false p b q d ih = ih k d ∙ sym (last-same h t r m l false b p q refl)

  pub write-from : (t : ℕ) → write_from h link r (written h t (length h)) ≡ last_write h t r
  write-from t = follow-write t (length h) _ (le_refl _) (le_refl _) ∙ ap (λ (g : List Event). last_write g t r) (take-length h)
