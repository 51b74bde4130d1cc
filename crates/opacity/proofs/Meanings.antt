-- What definitions that are folds and searches say, event by event: real time, last writes, the last event of a transaction and the one that begins it.
-- Assumes nothing.
use Prim.Native.Nat.{ℕ, zero, suc, ◌≤◌, ◌<◌}
use native.Mathlib.Nat.{not-suc-le-zero, le_of_suc-le-suc, suc-le-suc_iff, zero-lt-suc, le_step, le_of_lt, le_refl, lt-suc_self}
use native.Mathlib.Numerals.{add-one}
use native.Mathlib.Decide.{dec_lt}
use native.Mathlib.Omega.{arith}
use mathlib.Core.Path.{◌≡◌, refl, sym, ap, ◌∙◌}
use mathlib.Core.Logic.{◌⊎◌, inl, inr, ⊎_elim, ◌↔◌}
use mathlib.Core.Bool.{Bool, true, false, cond, false≢true}
use mathlib.Core.List.{List, [], ◌∷◌, ◌++◌}
use mathlib.Core.Option
use mathlib.Core.Option.{Option, none, some, none-ne-some, some-ne-none, some-injective}
use lib.Dec.{eqb}
use lib.ListN.{length, take, get_or}
use lib.Seq.{take-suc, take_all}
use borrow.Author.Tests.{eqb-true, eq-eqb, eqb-false}
use Rattle.lists.specs.Lists.{◌and◌, or_else, any, keep, latest, first, last}
use Rattle.events.specs.declared.event.Event.{Event}
use Rattle.events.specs.Events.{no_event, event_at, is_begin, is_write, is_end, by, has, begins}
use Rattle.events.specs.Questions.{readable}
use Rattle.lists.proofs.ListLaws.{and_l, and_r, and_i, and-false-l, or_l, or_r, or_cases, nor-l, nor-r, clash, below-cases, first-none, first_some}
use Rattle.events.proofs.EventLaws.{begins-snoc, begins-same}
use Rattle.lists.proofs.ListLaws.{any-index}
use Rattle.events.proofs.QuestionLaws.{asked-at}
use Rattle.opacity.specs.Transactions.{precedes, last_write, writes, EndedBefore, LastWrite}
use Rattle.opacity.specs.Marking.{last_event, begin_of}
use Rattle.opacity.specs.Verdicts.{LastOf, BeginOf}

-- ---- searches

any_at : {A : Type 0} (p : A → Bool) (xs : List A) (d : A) (j : ℕ) → j < length xs → p (get_or xs j d) ≡ true → any p xs ≡ true
unfolding any
any_at p [] d j l t = absurd (not-suc-le-zero l)
any_at p (x ∷ xs) d zero l t = or_l _ _ t
any_at p (x ∷ xs) d (suc j) l t = or_r _ _ (any_at p xs d j (le_of_suc-le-suc l) t)

-- the last element with an answer
record Latest {A B : Type 0} (f : A → Option B) (xs : List A) (d : A) (y : B) : Type 0 where
  index : ℕ
  inside : index < length xs
  answer : f (get_or xs index d) ≡ some y
  later : (j : ℕ) → index < j → j < length xs → f (get_or xs j d) ≡ none

latest-none : {A B : Type 0} (f : A → Option B) (xs : List A) (d : A) → latest f xs ≡ none → (j : ℕ) → j < length xs → f (get_or xs j d) ≡ none
unfolding latest
latest-none f [] d e j l = absurd (not-suc-le-zero l)
latest-none f (x ∷ xs) d e j l = go (latest f xs) refl e (latest-none f xs d) j l
  where
    go : (o : Option _) → latest f xs ≡ o → or_else o (f x) ≡ none
        → (latest f xs ≡ none → (k : ℕ) → k < length xs → f (get_or xs k d) ≡ none) → (k : ℕ) → k < length (x ∷ xs) → f (get_or (x ∷ xs) k d) ≡ none
    go none q a ih zero m = a
    go none q a ih (suc k) m = ih q k (le_of_suc-le-suc m)
    go (some y) q a ih k m = absurd (some-ne-none y a)

latest-some : {A B : Type 0} (f : A → Option B) (xs : List A) (d : A) {y : B} → latest f xs ≡ some y → Latest f xs d y
unfolding latest
latest-some f [] d {y} e = absurd (none-ne-some y e)
latest-some f (x ∷ xs) d {y} e = go (latest f xs) refl e (λ q. latest-some f xs d q)
  where
    go : (o : Option _) → latest f xs ≡ o → or_else o (f x) ≡ some y → (latest f xs ≡ some y → Latest f xs d y) → Latest f (x ∷ xs) d y
    go none q a ih = record { index = 0; inside = zero-lt-suc (length xs); answer = a; later = after }
      where
        after : (j : ℕ) → 0 < j → j < length (x ∷ xs) → f (get_or (x ∷ xs) j d) ≡ none
        after zero b m = absurd (not-suc-le-zero b)
        after (suc k) b m = latest-none f xs d q k (le_of_suc-le-suc m)
    go (some z) q a ih =
        let r = ih (q ∙ a) in
        record { index = suc r.index; inside = suc-le-suc_iff.1 r.inside; answer = r.answer; later = after r }
      where
        after : (r : Latest f xs d y) (j : ℕ) → suc r.index < j → j < length (x ∷ xs) → f (get_or (x ∷ xs) j d) ≡ none
        after r zero b m = absurd (not-suc-le-zero b)
        after r (suc k) b m = r.later k (le_of_suc-le-suc b) (le_of_suc-le-suc m)

-- ---- T precedes U in real time if T ended before U began

later-by-one : (e : Event) (h : List Event) (t u : ℕ) → EndedBefore h t u → EndedBefore (e ∷ h) t u
later-by-one e h t u w =
    record {
      ending = suc w.ending;
      beginning = suc w.beginning;
      rising = suc-le-suc_iff.1 w.rising;
      inside = suc-le-suc_iff.1 w.inside;
      ends = w.ends;
      begins = w.begins;
    }

ahead : (h : List Event) (t u : ℕ) → precedes h t u ≡ true → EndedBefore h t u
unfolding precedes has
ahead [] t u q = absurd (false≢true q)
ahead (e ∷ h) t u q = go (or_cases _ _ q) (ahead h t u)
  where
    go : ((by is_end t e and has is_begin u h) ≡ true) ⊎ (precedes h t u ≡ true) → (precedes h t u ≡ true → EndedBefore h t u) → EndedBefore (e ∷ h) t u
    go (inl a) ih =
        let w = any-index (by is_begin u) h no_event (and_r _ _ a) in
        record { ending = 0; beginning = suc w.0; rising = zero-lt-suc w.0; inside = suc-le-suc_iff.1 w.1; ends = and_l _ _ a; begins = w.2 }
    go (inr a) ih = later-by-one e h t u (ih a)

behind : (h : List Event) (t u i j : ℕ) → i < j → j < length h → by is_end t (event_at h i) ≡ true → by is_begin u (event_at h j) ≡ true → precedes h t u ≡ true
unfolding precedes has
behind [] t u i j m l a b = absurd (not-suc-le-zero l)
behind (e ∷ h) t u i zero m l a b = absurd (not-suc-le-zero m)
behind (e ∷ h) t u zero (suc j) m l a b = or_l _ _ (and_i _ _ a (any_at (by is_begin u) h no_event j (le_of_suc-le-suc l) b))
behind (e ∷ h) t u (suc i) (suc j) m l a b = or_r _ _ (behind h t u i j (le_of_suc-le-suc m) (le_of_suc-le-suc l) a b)

pub precedes-means : (h : List Event) (t u : ℕ) → (precedes h t u ≡ true) ↔ EndedBefore h t u
precedes-means h t u = (ahead h t u, λ w. behind h t u w.ending w.beginning w.rising w.inside w.ends w.begins)

-- ---- the last write of t to r

asked-value : (b : Bool) (v w : ℕ) → cond b (some v) none ≡ some w → (b ≡ true) × (v ≡ w)
asked-value true v w e = (refl, some-injective v w e)
asked-value false v w e = absurd (none-ne-some w e)

no_value : (b : Bool) (v : ℕ) → cond b (some v) none ≡ none → b ≡ false
no_value true v e = absurd (some-ne-none v e)
no_value false v e = refl

-- one that writes nothing has none
pub unwritten : (h : List Event) (t r : ℕ) → has is_write t h ≡ false → last_write h t r ≡ none
unfolding has any last_write latest
unwritten [] t r n = refl
unwritten (e ∷ h) t r n = rw (unwritten h t r (nor-r _ _ n), and-false-l (by is_write t e) (eqb e.register r) (nor-l _ _ n))

module _ (h : List Event) (t r : ℕ) where
  written-by : Event → Option ℕ
  written-by e = cond (by is_write t e and eqb e.register r) (some e.value) none

  pub no-write-means : last_write h t r ≡ none → (i : ℕ) → i < length h → writes h t r i ≡ false
  unfolding last_write written-by
  no-write-means e i l = no_value (writes h t r i) (event_at h i).value (latest-none written-by h no_event e i l)

  found-write : (v : ℕ) → last_write h t r ≡ some v → LastWrite h t r v
  unfolding last_write written-by
  found-write v e =
      let w = latest-some written-by h no_event e in
      let a = asked-value (writes h t r w.index) (event_at h w.index).value v w.answer in
      record {
        event = w.index;
        inside = w.inside;
        write = a.0;
        value = a.1;
        later = λ j b l. no_value (writes h t r j) (event_at h j).value (w.later j b l);
      }

  -- there is one last write
  one_last : (v w : ℕ) → LastWrite h t r v → LastWrite h t r w → v ≡ w
  one_last v w a b =
      elim (dec_lt a.event b.event) [
        | yes l ↦ absurd (clash b.write (a.later b.event l b.inside))
        | no p ↦
            elim (dec_lt b.event a.event) [
              | yes l ↦ absurd (clash a.write (b.later a.event l a.inside))
              | no q ↦
                  let e : a.event ≡ b.event = omega arith in
                  sym a.value ∙ ap (λ (i : ℕ). (event_at h i).value) e ∙ b.value
            ]
      ]

  pub last-write-means : (v : ℕ) → (last_write h t r ≡ some v) ↔ LastWrite h t r v
  last-write-means v = (found-write v, λ a. go (last_write h t r) refl a)
    where
      go : (o : Option ℕ) → last_write h t r ≡ o → LastWrite h t r v → last_write h t r ≡ some v
      go none e a = absurd (clash a.write (no-write-means e a.event a.inside))
      go (some w) e a = e ∙ ap some (one_last w v (found-write w e) a)

-- ---- the last event of a transaction of a readable history, and the one that begins it

record Last (p : ℕ → Bool) (n k : ℕ) : Type 0 where
  inside : k < n
  passes : p k ≡ true
  later : (j : ℕ) → k < j → j < n → p j ≡ false

last_found : (p : ℕ → Bool) (n i : ℕ) → i < n → p i ≡ true → (k : ℕ) × (last p n ≡ some k) × Last p n k
unfolding last
last_found p zero i l t = absurd (not-suc-le-zero l)
last_found p (suc n) i l t = go (p n) refl (λ m. last_found p n i m t) (below-cases l)
  where
    go : (b : Bool) → p n ≡ b → (i < n → (k : ℕ) × (last p n ≡ some k) × Last p n k) → (i ≡ n) ⊎ (i < n)
        → (k : ℕ) × (cond b (some n) (last p n) ≡ some k) × Last p (suc n) k
    go true e ih s = (n, refl, record { inside = lt-suc_self n; passes = e; later = λ j a c. absurd (omega arith) })
    go false e ih (inl q) = absurd (clash t (ap p q ∙ e))
    go false e ih (inr m) =
        let r = ih m in (
          r.0,
          r.1,
          record {
            inside = le_step r.2.inside;
            passes = r.2.passes;
            later = λ j a c. ⊎_elim (λ q. ap p q ∙ e) (λ d. r.2.later j a d) (below-cases c);
          },
        )

module _ (h : List Event) (r : readable h ≡ true) where
  -- each transaction below the count of begins has begun
  begin-in : (n t : ℕ) → n ≤ length h → t < begins (take n h) → (i : ℕ) × (i < n) × (is_begin (event_at h i) ≡ true) × ((event_at h i).transaction ≡ t)
  unfolding begins keep
  begin-in zero t l k = absurd (not-suc-le-zero k)
  begin-in (suc n) t l k = go (is_begin (event_at h n)) refl (begin-in n t (le_of_lt l))
    where
      s : take (suc n) h ≡ take n h ++ (event_at h n ∷ [])
      s = take-suc h n no_event l

      wider : (i : ℕ) × (i < n) × (is_begin (event_at h i) ≡ true) × ((event_at h i).transaction ≡ t)
          → (i : ℕ) × (i < suc n) × (is_begin (event_at h i) ≡ true) × ((event_at h i).transaction ≡ t)
      wider w = (w.0, le_step w.1, w.2, w.3)

      go : (b : Bool) → is_begin (event_at h n) ≡ b
          → (t < begins (take n h) → (i : ℕ) × (i < n) × (is_begin (event_at h i) ≡ true) × ((event_at h i).transaction ≡ t))
          → (i : ℕ) × (i < suc n) × (is_begin (event_at h i) ≡ true) × ((event_at h i).transaction ≡ t)
      go true e ih =
          let c : begins (take (suc n) h) ≡ suc (begins (take n h)) = ap begins s ∙ begins-snoc (take n h) (event_at h n) e ∙ add-one (begins (take n h)) in
          ⊎_elim (λ q. (n, lt-suc_self n, e, (asked-at h r n l).next e ∙ sym q)) (λ m. wider (ih m)) (below-cases (rw c at k))
      go false e ih = wider (ih (rw (s, begins-same (take n h) (event_at h n) e) at k))

  has-begin : (t : ℕ) → t < begins h → (i : ℕ) × (i < length h) × (is_begin (event_at h i) ≡ true) × ((event_at h i).transaction ≡ t)
  has-begin t l = begin-in (length h) t (le_refl (length h)) (rw (take_all (length h) h (le_refl (length h))) l)

  pub last-event-means : (t : ℕ) → t < begins h → LastOf h t (last_event h t)
  unfolding last_event
  last-event-means t l =
      let w = has-begin t l in
      let k = last_found (λ i. eqb (event_at h i).transaction t) (length h) w.0 w.1 (eq-eqb _ _ w.3) in
      rw k.1
      (record {
        inside = k.2.inside;
        names = eqb-true _ _ k.2.passes;
        later = λ j a c. eqb-false _ _ (k.2.later j a c);
      })

  pub begin-of-means : (t : ℕ) → t < begins h → BeginOf h t (begin_of h t)
  unfolding begin_of by
  begin-of-means t l = go (first starts (length h)) refl
    where
      starts : ℕ → Bool
      starts i = eqb (event_at h i).transaction t and is_begin (event_at h i)

      go : (o : Option ℕ) → first starts (length h) ≡ o → BeginOf h t (Option.get_or o 0)
      go none e = let w = has-begin t l in absurd (clash (and_i _ _ (eq-eqb _ _ w.3) w.2) (first-none starts (length h) e w.0 w.1))
      go (some i) e =
          let f = first_some starts (length h) e in
          record { inside = f.inside; begins = and_r _ _ f.passes; names = eqb-true _ _ (and_l _ _ f.passes) }
