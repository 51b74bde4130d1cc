-- The marking that the finder writes, with each read point at its reader's place, is Accepted.
-- Assumes nothing.
use Prim.Native.Nat.{ℕ, ◌≤◌, ◌<◌}
use native.Mathlib.Nat.{le_refl, min-eq_left, max-eq_left, min-le_left}
use native.Mathlib.Omega.{arith}
use mathlib.Core.Path.{◌≡◌, refl, ap}
use mathlib.Core.Bool.{Bool, true, false, cond, false≢true}
use mathlib.Core.List.{List, [], ◌∷◌, map}
use mathlib.Core.Option.{Option, none, some}
use lib.Dec.{eqb, leb}
use lib.ListN.{length, take, length-take, drop_of_length-le}
use borrow.Author.Tests.{eqb-true, le-leb}
use Rattle.lists.specs.Lists.{all, ◌or◌, or_else, any, keep, latest}
use Rattle.events.specs.declared.event.Event.{Event}
use Rattle.events.specs.Events.{event_at, begins}
use Rattle.opacity.specs.Transactions.{is_store_read, store_reads}
use Rattle.opacity.specs.Justification.{Place, is_of, before, Justified}
use Rattle.opacity.specs.Marking.{ReadableFor, Point, gap_of, place_of, marked, others, between, no_writer_between, Accepted, verdict, rule_holds}
use Rattle.opacity.specs.Verdicts.{RuleD}
use Rattle.lists.proofs.ListLaws.{and_i, imp-i, nor-l, nor-r, keep-member}
use Rattle.opacity.proofs.Orders.{filled}
use Rattle.opacity.proofs.Rules.{justified-accepted}

point : (ℕ → ℕ) → ℕ → Point
point g k = record { event = k; gap = g k }

found : ℕ → Point → Option ℕ
found i p = cond (eqb p.event i) (some p.gap) none

no_gap : (g : ℕ → ℕ) (xs : List ℕ) (i : ℕ) → any (λ k. eqb k i) xs ≡ false → latest (found i) (map (point g) xs) ≡ none
unfolding any latest found point
no_gap g [] i n = refl
no_gap g (x ∷ xs) i n = let e : eqb x i ≡ false = nor-l _ _ n in rw (no_gap g xs i (nor-r _ _ n), e)

gap_at : (g : ℕ → ℕ) (xs : List ℕ) (i : ℕ) → any (λ k. eqb k i) xs ≡ true → latest (found i) (map (point g) xs) ≡ some (g i)
unfolding any latest found point ◌or◌
gap_at g [] i n = absurd (false≢true n)
gap_at g (x ∷ xs) i n = go (any (λ k. eqb k i) xs) refl (eqb x i) refl n (gap_at g xs i)
  where
    go : (a : Bool) → any (λ k. eqb k i) xs ≡ a → (b : Bool) → eqb x i ≡ b → (b or a) ≡ true
        → (any (λ k. eqb k i) xs ≡ true → latest (found i) (map (point g) xs) ≡ some (g i))
        → or_else (latest (found i) (map (point g) xs)) (cond b (some (g x)) none) ≡ some (g i)
    go true e b f t ih = rw (ih e)
    go false e true f t ih = rw (no_gap g xs i e, eqb-true x i f)
    go false e false f t ih = absurd (false≢true t)

-- the gap that a marking has at a store read
pub gap-marked : (h : List Event) (g : ℕ → ℕ) (i : ℕ) → i < length h → is_store_read h i ≡ true → gap_of (map (λ k. record { event = k; gap = g k }) (store_reads h)) i ≡ g i
unfolding gap_of store_reads found point
gap-marked h g i l s = rw (gap_at g (store_reads h) i (keep-member (is_store_read h) (length h) i l s))

-- nothing lies between a gap and itself
here : (k : ℕ) (J : List Place) → between k k J ≡ []
unfolding between
here k J = rw (min-eq_left (le_refl k), max-eq_left (le_refl k)) (drop_of_length-le (take k J) {i = k} (rw length-take (min-le_left k (length J))))

pub marked-keeps-D : (h : List Event) (J : List Place) → RuleD h (marked h J)
unfolding rule_holds no_writer_between marked gap_of store_reads found point others keep latest
marked-keeps-D h J i l =
    imp-i _ _ (λ s. rw (gap_at (λ k. place_of (event_at h k).transaction J) (store_reads h) i (keep-member (is_store_read h) (length h) i l s), here))

-- it is readable for the history
pub events-of : (g : ℕ → ℕ) (xs : List ℕ) → map (λ (p : Point). p.event) (map (λ k. record { event = k; gap = g k }) xs) ≡ xs
events-of g [] = refl
events-of g (x ∷ xs) = ap (λ (l : List ℕ). x ∷ l) (events-of g xs)

gaps-of : (n : ℕ) (g : ℕ → ℕ) (xs : List ℕ) → ((k : ℕ) → g k ≤ n) → all (λ p. leb p.gap n) (map (point g) xs) ≡ true
unfolding point all
gaps-of n g [] f = refl
gaps-of n g (x ∷ xs) f = and_i _ _ (le-leb (g x) n (f x)) (gaps-of n g xs f)

pub before-le : (t : ℕ) (J : List Place) → length (before t J) ≤ length J
unfolding before
before-le t [] = le_refl 0
before-le t (p ∷ J) = go (is_of t p) (before-le t J)
  where
    go : (b : Bool) → length (before t J) ≤ length J → length (cond b [] (p ∷ before t J)) ≤ length (p ∷ J)
    go true i = omega arith
    go false i = omega arith

pub marked-readable : (start : ℕ → ℕ) (h : List Event) (J : List Place) → Justified start h J → ReadableFor h (marked h J)
unfolding marked point place_of
marked-readable start h J j =
    let e = filled (begins h) J j.order in
    record {
      order = j.order;
      reads = events-of (λ k. place_of (event_at h k).transaction J) (store_reads h);
      gaps = gaps-of (begins h) (λ k. place_of (event_at h k).transaction J) (store_reads h) (λ k. omega (arith, e, before-le (event_at h k).transaction J));
    }

pub marked-accepted : (start : ℕ → ℕ) (h : List Event) (J : List Place) → Justified start h J → verdict start h (marked h J) ≡ Accepted
unfolding marked
marked-accepted start h J j = justified-accepted start h (marked h J) j (marked-keeps-D h J)
