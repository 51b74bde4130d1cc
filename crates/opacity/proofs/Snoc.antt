-- What one event more changes in what a history says: of the events before it, of its transactions, of own reads and of legal reads.
-- Assumes nothing.
use Prim.Native.Nat.{ℕ, ◌<◌}
use native.Mathlib.Nat.{le_of_lt}
use native.Mathlib.Omega.{arith}
use mathlib.Core.Path.{◌≡◌, refl, ap, ap₂, ◌∙◌}
use mathlib.Core.Logic.{◌⊎◌, ⊎_elim}
use mathlib.Core.Bool.{Bool, true, false, not, cond, false≢true}
use mathlib.Core.List.{List, [], ◌∷◌, ◌++◌}
use mathlib.Core.Option.{Option, none, some, get_or}
use lib.Dec.{eqb}
use lib.ListN.{length, take, length-append, get_or-append}
use lib.Seq.{take-append-le, take_at, get_or-append_seam}
use borrow.Author.Tests.{eq-eqb}
use Rattle.lists.specs.Lists.{◌and◌, ◌or◌, is_none, or_else, any, latest}
use Rattle.events.specs.declared.event.Event.{Event}
use Rattle.events.specs.Events.{no_event, event_at, is_begin, is_read, is_write, asks_commit, is_commit, is_abort, is_end, by, has, ended}
use Rattle.lists.proofs.ListLaws.{and_l, and_r, and_i, and-false-l, and_false_r, imp-i, nor-l, nor-r, or_l, or_r, or_cases, clash, eqb-self, eqb-sym, latest-snoc, below-cases}
use Rattle.events.proofs.StateLaws.{has-snoc}
use Rattle.opacity.specs.Transactions.{committed, aborted, pending, live, status, allows, precedes, last_write, own_write, is_own_read, is_store_read, is_value, own_right}
use Rattle.opacity.specs.Justification.{Place, before, outcome, written, contents, legal_over, legal}
use Rattle.opacity.proofs.Statuses.{not-committed, not-aborted}

pub or-none : (a b : Bool) → b ≡ false → (a or b) ≡ a
unfolding ◌or◌
or-none true b e = refl
or-none false b e = e

-- e is a write of the place p, which is committed
abbrev pub adds_to : Event → Place → Bool
adds_to e p = p.committed and by is_write p.transaction e

-- an event that is no write adds to no place, nor does one whose transaction the order has aborted, or does not have
pub adds_none : (e : Event) (J : List Place) → (is_write e ≡ true → outcome e.transaction J ≡ false) → any (adds_to e) J ≡ false
unfolding any by outcome
adds_none e J n = go (any (adds_to e) J) refl
  where
    find : (K : List Place) → any (adds_to e) K ≡ true → (is_write e ≡ true) × (outcome e.transaction K ≡ true)
    find [] t = absurd (false≢true t)
    find (p ∷ K) t =
        ⊎_elim
        (λ q. let w = and_r p.committed _ q in (and_r _ _ w, or_l _ _ (and_i _ _ (eqb-sym e.transaction p.transaction (and_l _ _ w)) (and_l _ _ q))))
        (λ q. let w = find K q in (w.0, or_r _ _ w.1))
        (or_cases _ _ t)

    go : (b : Bool) → any (adds_to e) J ≡ b → b ≡ false
    go false q = refl
    go true q = let w = find J q in absurd (clash w.1 (n w.0))

module _ (h : List Event) (e : Event) where
  -- u has such an event with e if and only if without it, where e is none
  pub has_same : (p : Event → Bool) (u : ℕ) → by p u e ≡ false → has p u (h ++ (e ∷ [])) ≡ has p u h
  has_same p u n = has-snoc p h e u ∙ or-none _ _ n

  has-quiet : (p : Event → Bool) (u : ℕ) → p e ≡ false → has p u (h ++ (e ∷ [])) ≡ has p u h
  unfolding by
  has-quiet p u n = has_same p u (and_false_r _ _ n)

  -- the status of another transaction stays
  pub status-other : (u : ℕ) → eqb e.transaction u ≡ false → status (h ++ (e ∷ [])) u ≡ status h u
  unfolding status by
  status-other u n = rw (has_same is_commit u (and-false-l _ _ n), has_same is_abort u (and-false-l _ _ n), has_same asks_commit u (and-false-l _ _ n))

  -- e's own allows the outcome that e records, aborted where e records none
  pub status-own : ended e.transaction h ≡ false → allows (status (h ++ (e ∷ [])) e.transaction) (is_commit e) ≡ true
  unfolding status allows by ◌or◌ ◌and◌
  status-own u =
      rw (has-snoc is_commit h e e.transaction, has-snoc is_abort h e e.transaction, not-committed e.transaction h u, not-aborted e.transaction h u, eqb-self e.transaction)
      (go (is_commit e) (is_abort e) (has asks_commit e.transaction (h ++ (e ∷ []))))
    where
      go : (c a d : Bool) → allows (cond c committed (cond a aborted (cond d pending live))) c ≡ true
      go true a d = refl
      go false true d = refl
      go false false true = refl
      go false false false = refl

  has_more : (p : Event → Bool) (u : ℕ) → has p u h ≡ true → has p u (h ++ (e ∷ [])) ≡ true
  has_more p u t = has-snoc p h e u ∙ or_l _ _ t

  -- an event that ends no transaction keeps the outcomes that are allowed
  pub status-snoc : (u : ℕ) (c : Bool) → is_end e ≡ false → allows (status h u) c ≡ true → allows (status (h ++ (e ∷ [])) u) c ≡ true
  unfolding status allows is_end
  status-snoc u c n t =
      rw (has-quiet is_commit u (nor-l _ _ n), has-quiet is_abort u (nor-r _ _ n))
      (go (has is_commit u h) (has is_abort u h) (has asks_commit u h) (has asks_commit u (h ++ (e ∷ []))) (has_more asks_commit u) t)
    where
      go : (a b d d' : Bool) → (d ≡ true → d' ≡ true) → allows (cond a committed (cond b aborted (cond d pending live))) c ≡ true
          → allows (cond a committed (cond b aborted (cond d' pending live))) c ≡ true
      go true b d d' f t' = t'
      go false true d d' f t' = t'
      go false false d true f t' = refl
      go false false true false f t' = absurd (false≢true (f refl))
      go false false false false f t' = t'

  -- a place that the event gives no write to writes the same with it and without it
  written-snoc : (r : ℕ) (p : Place) → adds_to e p ≡ false → written (h ++ (e ∷ [])) r p ≡ written h r p
  unfolding written last_write ◌and◌
  written-snoc r p n = go p.committed n
    where
      f : Event → Option ℕ
      f x = cond (by is_write p.transaction x and eqb x.register r) (some x.value) none

      go : (c : Bool) → (c and by is_write p.transaction e) ≡ false → cond c (latest f (h ++ (e ∷ []))) none ≡ cond c (latest f h) none
      go false m = refl
      go true m = rw (latest-snoc f h e, m)

  pub contents-snoc : (start : ℕ → ℕ) (P : List Place) → any (adds_to e) P ≡ false → (r : ℕ)
      → contents start (h ++ (e ∷ [])) P r ≡ contents start h P r
  unfolding contents any latest
  contents-snoc start P n r = ap (λ (o : Option ℕ). get_or o (start r)) (go P n)
    where
      go : (Q : List Place) → any (adds_to e) Q ≡ false
          → latest (written (h ++ (e ∷ [])) r) Q ≡ latest (written h r) Q
      go [] m = refl
      go (p ∷ Q) m = ap₂ or_else (go Q (nor-r _ _ m)) (written-snoc r p (nor-l _ _ m))

  -- the events are those of h, and e
  pub old-or-new : (i : ℕ) → i < length (h ++ (e ∷ [])) → (i ≡ length h) ⊎ (i < length h)
  old-or-new i l = below-cases (omega (arith, length-append h (e ∷ [])))

  event-old : (i : ℕ) → i < length h → event_at (h ++ (e ∷ [])) i ≡ event_at h i
  event-old i l = get_or-append h (e ∷ []) no_event i l

  take-old : (i : ℕ) → i < length h → take i (h ++ (e ∷ [])) ≡ take i h
  take-old i l = take-append-le i h (e ∷ []) (le_of_lt l)

  store-read-old : (i : ℕ) → i < length h → is_store_read (h ++ (e ∷ [])) i ≡ is_store_read h i
  unfolding is_store_read own_write
  store-read-old i l = rw (event-old i l, take-old i l)

  own-right-old : (i : ℕ) → i < length h → own_right (h ++ (e ∷ [])) i ≡ own_right h i
  unfolding own_right is_own_read own_write
  own-right-old i l = rw (event-old i l, take-old i l)

  event-new : event_at (h ++ (e ∷ [])) (length h) ≡ e
  event-new = get_or-append_seam h e [] no_event

  own-write-new : own_write (h ++ (e ∷ [])) (length h) ≡ last_write h e.transaction e.register
  unfolding own_write
  own-write-new = rw (event-new, take_at h (e ∷ []) (length h) refl)

  -- own reads are right where e's is
  pub own-snoc : own_right (h ++ (e ∷ [])) (length h) ≡ true → ((i : ℕ) → i < length h → own_right h i ≡ true)
      → (i : ℕ) → i < length (h ++ (e ∷ [])) → own_right (h ++ (e ∷ [])) i ≡ true
  own-snoc new own i l = ⊎_elim (λ q. rw q new) (λ m. own-right-old i m ∙ own i m) (old-or-new i l)

  -- reads that were legal over one order are legal over another, where their registers hold the same and e's is legal
  pub legal-snoc : (start : ℕ → ℕ) (J K : List Place) → legal start (h ++ (e ∷ [])) K (length h) ≡ true
      → ((i : ℕ) → i < length h
      → contents start (h ++ (e ∷ [])) (before (event_at h i).transaction K) (event_at h i).register
      ≡ contents start h (before (event_at h i).transaction J) (event_at h i).register)
      → ((i : ℕ) → i < length h → legal start h J i ≡ true)
      → (i : ℕ) → i < length (h ++ (e ∷ [])) → legal start (h ++ (e ∷ [])) K i ≡ true
  unfolding legal legal_over
  legal-snoc start J K new alike store i l =
      ⊎_elim (λ q. rw q new)
      (λ m. rw (store-read-old i m, event-old i m, alike i m) (store i m))
      (old-or-new i l)

  -- e reads what its transaction wrote last to the register, or, if it wrote nothing there, what the register holds before its place
  module _ (start : ℕ → ℕ) (K : List Place)
      (reads : is_read e ≡ true
      → e.value ≡ get_or (last_write h e.transaction e.register) (contents start (h ++ (e ∷ [])) (before e.transaction K) e.register)) where
    pub own_new : own_right (h ++ (e ∷ [])) (length h) ≡ true
    unfolding own_right is_own_read
    own_new = rw (event-new, own-write-new) (imp-i _ _ (λ s. go (last_write h e.transaction e.register) (and_r _ _ s) (reads (and_l _ _ s))))
      where
        go : (o : Option ℕ) → not (is_none o) ≡ true → e.value ≡ get_or o (contents start (h ++ (e ∷ [])) (before e.transaction K) e.register)
            → is_value e.value o ≡ true
        go none n q = absurd (false≢true n)
        go (some v) n q = eq-eqb e.value v q

    pub legal-new : legal start (h ++ (e ∷ [])) K (length h) ≡ true
    unfolding legal legal_over is_store_read
    legal-new = rw (event-new, own-write-new) (imp-i _ _ (λ s. go (last_write h e.transaction e.register) (and_r _ _ s) (reads (and_l _ _ s))))
      where
        go : (o : Option ℕ) → is_none o ≡ true → e.value ≡ get_or o (contents start (h ++ (e ∷ [])) (before e.transaction K) e.register)
            → eqb e.value (contents start (h ++ (e ∷ [])) (before e.transaction K) e.register) ≡ true
        go none n q = eq-eqb e.value _ q
        go (some v) n q = absurd (false≢true n)

joined : (x k b p q : Bool) → ((x and (k or b)) or (p or (q and b))) ≡ (((x and k) or p) or ((x or q) and b))
unfolding ◌and◌ ◌or◌
joined false k b p q = refl
joined true true b p q = refl
joined true false true true q = refl
joined true false true false q = refl
joined true false false true q = refl
joined true false false false true = refl
joined true false false false false = refl

-- t precedes u where it did, and where it has ended and u begins now
pub precedes-more : (h : List Event) (e : Event) (t u : ℕ) → precedes (h ++ (e ∷ [])) t u ≡ (precedes h t u or (has is_end t h and by is_begin u e))
unfolding precedes has any ◌or◌ ◌and◌
precedes-more [] e t u = none (by is_end t e)
  where
    none : (x : Bool) → ((x and false) or false) ≡ false
    none true = refl
    none false = refl
precedes-more (d ∷ h) e t u =
    ap (λ (b : Bool). (by is_end t d and b) or precedes (h ++ (e ∷ [])) t u) (has-snoc is_begin h e u)
    ∙ (ap (λ (b : Bool). (by is_end t d and (has is_begin u h or by is_begin u e)) or b) (precedes-more h e t u)
    ∙ joined (by is_end t d) (has is_begin u h) (by is_begin u e) (precedes h t u) (has is_end t h))

-- no begin of u is added: the same transactions precede u
pub precedes-snoc : (h : List Event) (e : Event) (t u : ℕ) → by is_begin u e ≡ false → precedes (h ++ (e ∷ [])) t u ≡ precedes h t u
precedes-snoc h e t u n = precedes-more h e t u ∙ or-none _ _ (and_false_r _ _ n)
