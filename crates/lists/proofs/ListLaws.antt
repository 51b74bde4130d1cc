-- Laws of the tests and searches of `specs/Lists.antt`. Nothing here is about histories.
-- Assumes nothing.
use Prim.Native.Nat.{ℕ, zero, suc, ◌+◌, ◌≤◌, ◌<◌}
use native.Mathlib.Nat.{zero-lt-suc, suc-le-suc_iff, le_of_suc-le-suc, not-suc-le-zero, eq-or-lt_of_le, le_step, lt-suc_self, lt_of_not-le, add-zero}
use native.Mathlib.Decide.{dec_le}
use native.Mathlib.Omega.{arith}
use mathlib.Core.Path.{◌≡◌, refl, sym, ap, ap₂, ◌∙◌, subst}
use mathlib.Core.Logic.{◌⊎◌, inl, inr, ⊎_elim}
use mathlib.Core.Bool.{Bool, true, false, not, cond, true≢false, false≢true}
use mathlib.Core.List.{List, [], ◌∷◌, ◌++◌}
use mathlib.Core.Option.{Option, none, some, none-ne-some, some-ne-none, some-injective}
use lib.Dec.{eqb}
use lib.ListN.{length, get_or, length-append}
use borrow.Author.Tests.{eqb-true, eq-eqb}
use Rattle.lists.specs.Lists.{◌and◌, ◌or◌, ◌implies◌, or_else, is_none, any, all, push, keep, latest, every, lowest, lowest_from, first, range}

-- ---- tests. The two Bools are explicit, and a call writes `_` for each.

pub and_l : (a b : Bool) → (a and b) ≡ true → a ≡ true
unfolding ◌and◌
and_l true b t = refl
and_l false b t = t

pub and_r : (a b : Bool) → (a and b) ≡ true → b ≡ true
unfolding ◌and◌
and_r true b t = t
and_r false b t = absurd (false≢true t)

pub and_i : (a b : Bool) → a ≡ true → b ≡ true → (a and b) ≡ true
unfolding ◌and◌
and_i true b s t = t
and_i false b s t = s

pub and_false_r : (a b : Bool) → b ≡ false → (a and b) ≡ false
unfolding ◌and◌
and_false_r true b e = e
and_false_r false b e = refl

pub and-false-l : (a b : Bool) → a ≡ false → (a and b) ≡ false
unfolding ◌and◌
and-false-l true b e = absurd (false≢true (sym e))
and-false-l false b e = refl

pub and-false-e : (a b : Bool) → (a and b) ≡ false → a ≡ true → b ≡ false
unfolding ◌and◌
and-false-e true b n t = n
and-false-e false b n t = absurd (false≢true t)

pub imp-e : (a b : Bool) → (a implies b) ≡ true → a ≡ true → b ≡ true
unfolding ◌implies◌
imp-e true b t s = t
imp-e false b t s = absurd (false≢true s)

pub imp-i : (a b : Bool) → (a ≡ true → b ≡ true) → (a implies b) ≡ true
unfolding ◌implies◌
imp-i true b f = f refl
imp-i false b f = refl

pub or_l : (a b : Bool) → a ≡ true → (a or b) ≡ true
unfolding ◌or◌
or_l true b t = refl
or_l false b t = absurd (false≢true t)

pub or_r : (a b : Bool) → b ≡ true → (a or b) ≡ true
unfolding ◌or◌
or_r true b t = refl
or_r false b t = t

pub or_cases : (a b : Bool) → (a or b) ≡ true → (a ≡ true) ⊎ (b ≡ true)
unfolding ◌or◌
or_cases true b t = inl refl
or_cases false b t = inr t

pub nor-l : (a b : Bool) → (a or b) ≡ false → a ≡ false
unfolding ◌or◌
nor-l true b t = t
nor-l false b t = refl

pub nor-r : (a b : Bool) → (a or b) ≡ false → b ≡ false
unfolding ◌or◌
nor-r true b t = absurd (true≢false t)
nor-r false b t = t

pub nor-i : (a b : Bool) → a ≡ false → b ≡ false → (a or b) ≡ false
unfolding ◌or◌
nor-i true b s t = s
nor-i false b s t = t

pub or_assoc : (a b c : Bool) → ((a or b) or c) ≡ (a or (b or c))
unfolding ◌or◌
or_assoc true b c = refl
or_assoc false b c = refl

pub or-false : (b : Bool) → (b or false) ≡ b
unfolding ◌or◌
or-false true = refl
or-false false = refl

pub and_assoc : (a b c : Bool) → ((a and b) and c) ≡ (a and (b and c))
unfolding ◌and◌
and_assoc true b c = refl
and_assoc false b c = refl

pub not-true : (b : Bool) → not b ≡ true → b ≡ false
not-true true t = sym t
not-true false t = refl

pub not-false : (b : Bool) → not b ≡ false → b ≡ true
not-false true t = refl
not-false false t = sym t

pub clash : {b : Bool} → b ≡ true → b ≡ false → ⊥
clash t f = true≢false (sym t ∙ f)

-- a test that follows from another fails where that one does
pub contra : (a b : Bool) → (a ≡ true → b ≡ true) → b ≡ false → a ≡ false
contra true b f t = absurd (clash (f refl) t)
contra false b f t = refl

pub both_ways : (a b : Bool) → (a ≡ true → b ≡ true) → (b ≡ true → a ≡ true) → a ≡ b
both_ways true b f g = sym (f refl)
both_ways false true f g = g refl
both_ways false false f g = refl

pub eqb-self : (m : ℕ) → eqb m m ≡ true
eqb-self m = eq-eqb m m refl

pub eqb-sym : (m n : ℕ) → eqb m n ≡ true → eqb n m ≡ true
eqb-sym m n t = eq-eqb n m (sym (eqb-true m n t))

-- ---- the numbers below a bound

-- what is below n + 1 is n, or below n
pub below-cases : {k n : ℕ} → k < suc n → (k ≡ n) ⊎ (k < n)
below-cases h = eq-or-lt_of_le (le_of_suc-le-suc h)

pub every-e : (p : ℕ → Bool) (n : ℕ) → every p n ≡ true → (k : ℕ) → k < n → p k ≡ true
unfolding every
every-e p zero t k h = absurd (not-suc-le-zero h)
every-e p (suc n) t k h = ⊎_elim (λ e. ap p e ∙ and_r _ _ t) (λ l. every-e p n (and_l _ _ t) k l) (below-cases h)

pub every-i : (p : ℕ → Bool) (n : ℕ) → ((k : ℕ) → k < n → p k ≡ true) → every p n ≡ true
unfolding every
every-i p zero f = refl
every-i p (suc n) f = and_i _ _ (every-i p n (λ k h. f k (le_step h))) (f n (lt-suc_self n))

-- ---- answers

module _ {A : Type 0} where
  pub or_else-none : (o : Option A) → or_else o none ≡ o
  or_else-none none = refl
  or_else-none (some a) = refl

  pub or_else-assoc : (a b c : Option A) → or_else (or_else a b) c ≡ or_else a (or_else b c)
  or_else-assoc none b c = refl
  or_else-assoc (some x) b c = refl

  pub is_none-none : (o : Option A) → is_none o ≡ true → o ≡ none
  is_none-none none t = refl
  is_none-none (some a) t = absurd (false≢true t)

  pub none-is_none : {o : Option A} → o ≡ none → is_none o ≡ true
  none-is_none e = ap is_none e

  pub or_else-none-l : (a b : Option A) → or_else a b ≡ none → a ≡ none
  or_else-none-l none b e = refl
  or_else-none-l (some x) b e = e

  pub or_else-none-r : (a b : Option A) → or_else a b ≡ none → b ≡ none
  or_else-none-r none b e = e
  or_else-none-r (some x) b e = absurd (some-ne-none x e)

  pub none-some : {o : Option A} {a : A} → o ≡ none → o ≡ some a → ⊥
  none-some {a = a} e q = none-ne-some a (sym e ∙ q)

  -- no number has an answer
  pub lowest-none : (f : ℕ → Option A) (n : ℕ) → lowest f n ≡ none → (k : ℕ) → k < n → f k ≡ none
  unfolding lowest
  lowest-none f zero e k h = absurd (not-suc-le-zero h)
  lowest-none f (suc n) e k h =
      ⊎_elim (λ q. ap f q ∙ or_else-none-r (lowest f n) (f n) e) (λ l. lowest-none f n (or_else-none-l (lowest f n) (f n) e) k l)
      (below-cases h)

  pub none-lowest : (f : ℕ → Option A) (n : ℕ) → ((k : ℕ) → k < n → f k ≡ none) → lowest f n ≡ none
  unfolding lowest
  none-lowest f zero g = refl
  none-lowest f (suc n) g = rw (none-lowest f n (λ k h. g k (le_step h))) (g n (lt-suc_self n))

  -- the lowest number that has an answer: it has that answer, and none below it has one
  pub record Lowest (f : ℕ → Option A) (n : ℕ) (y : A) : Type 0 where
    pub at : ℕ
    pub inside : at < n
    pub answer : f at ≡ some y
    pub least : (j : ℕ) → j < at → f j ≡ none

  pub lowest-some : (f : ℕ → Option A) (n : ℕ) {y : A} → lowest f n ≡ some y → Lowest f n y
  unfolding lowest
  lowest-some f zero {y} e = absurd (none-ne-some y e)
  lowest-some f (suc n) {y} e = go (λ (x : A) q. lowest-some f n {y = x} q) (lowest f n) refl e
    where
      go : ((x : A) → lowest f n ≡ some x → Lowest f n x) → (o : Option A) → lowest f n ≡ o → or_else o (f n) ≡ some y → Lowest f (suc n) y
      go ih none q e' = record { at = n; inside = lt-suc_self n; answer = e'; least = lowest-none f n q }
      go ih (some x) q e' =
          let r = ih x q in
          record { at = r.at; inside = le_step r.inside; answer = r.answer ∙ e'; least = r.least }

  -- where some number has an answer, the lowest one is found, at that number or below it
  pub lowest-at : (f : ℕ → Option A) (n k : ℕ) {y : A} → k < n → f k ≡ some y → (z : A) × (r : Lowest f n z) × (r.at ≤ k) × (lowest f n ≡ some z)
  lowest-at f n k h e = go (lowest f n) refl
    where
      go : (o : Option A) → lowest f n ≡ o → (z : A) × (r : Lowest f n z) × (r.at ≤ k) × (lowest f n ≡ some z)
      go none q = absurd (none-some (lowest-none f n q k h) e)
      go (some z) q =
          let r : Lowest f n z = lowest-some f n q in
          (z, r, elim (dec_le r.at k) [ yes p ↦ p | no u ↦ absurd (none-some (r.least k (lt_of_not-le u)) e) ], q)

-- where a number has an answer and none below it has one, it is the lowest
pub lowest-here : {A : Type 0} (f : ℕ → Option A) (n k : ℕ) {y : A} → k < n → f k ≡ some y → ((j : ℕ) → j < k → f j ≡ none) → lowest f n ≡ some y
lowest-here f n k {y} l e g = go (lowest-at f n k l e)
  where
    go : (z : _) × (r : Lowest f n z) × (r.at ≤ k) × (lowest f n ≡ some z) → lowest f n ≡ some y
    go w = ⊎_elim (λ q. w.3 ∙ (sym w.1.answer ∙ (ap f q ∙ e))) (λ m. absurd (none-some (g w.1.at m) w.1.answer)) (eq-or-lt_of_le w.2)

-- going up from 0 finds the lowest
lowest-split : {A : Type 0} (f : ℕ → Option A) (k t : ℕ) → lowest f (t + k) ≡ or_else (lowest f t) (lowest_from f t k)
unfolding lowest lowest_from
lowest-split f zero t = rw (add-zero, or_else-none)
lowest-split f (suc k) t =
    let e : t + suc k ≡ suc t + k = omega arith in
    rw e (lowest-split f k (suc t) ∙ or_else-assoc (lowest f t) (f t) (lowest_from f (suc t) k))

pub lowest-upwards : {A : Type 0} (f : ℕ → Option A) (n : ℕ) → lowest f n ≡ lowest_from f 0 n
unfolding lowest
lowest-upwards f n = let e : 0 + n ≡ n = omega arith in rw e at (lowest-split f n 0)

-- `first` is the lowest number that passes
flagged : (b : Bool) (k : ℕ) → cond b (some k) none ≡ none → b ≡ false
flagged true k e = absurd (some-ne-none k e)
flagged false k e = refl

unflagged : (b : Bool) (k : ℕ) → b ≡ false → cond b (some k) none ≡ none
unflagged true k t = absurd (true≢false t)
unflagged false k t = refl

pub first-none : (p : ℕ → Bool) (n : ℕ) → first p n ≡ none → (k : ℕ) → k < n → p k ≡ false
unfolding first
first-none p n e k h = flagged (p k) k (lowest-none (λ (j : ℕ). cond (p j) (some j) none) n e k h)

pub record First (p : ℕ → Bool) (n k : ℕ) : Type 0 where
  pub inside : k < n
  pub passes : p k ≡ true
  pub least : (j : ℕ) → j < k → p j ≡ false

pub first_some : (p : ℕ → Bool) (n : ℕ) {k : ℕ} → first p n ≡ some k → First p n k
unfolding first
first_some p n {k} e = go (lowest-some (λ (j : ℕ). cond (p j) (some j) none) n e)
  where
    its : (b : Bool) (j : ℕ) → cond b (some j) none ≡ some k → (b ≡ true) × (j ≡ k)
    its true j q = (refl, some-injective j k q)
    its false j q = absurd (none-ne-some k q)

    go : Lowest (λ (j : ℕ). cond (p j) (some j) none) n k → First p n k
    go r =
        let i = its (p r.at) r.at r.answer in
        record {
          inside = rw i.1 at r.inside;
          passes = rw i.1 at i.0;
          least = λ j l. flagged (p j) j (r.least j (subst (λ (m : ℕ). j < m) (sym i.1) l));
        }

pub none_first : (p : ℕ → Bool) (n : ℕ) → ((k : ℕ) → k < n → p k ≡ false) → first p n ≡ none
unfolding first
none_first p n g = none-lowest (λ (j : ℕ). cond (p j) (some j) none) n (λ k h. unflagged (p k) k (g k h))

-- ---- lists

module _ {A : Type 0} where
  pub any_append : (p : A → Bool) (xs ys : List A) → any p (xs ++ ys) ≡ (any p xs or any p ys)
  unfolding any ◌or◌
  any_append p [] ys = refl
  any_append p (x ∷ xs) ys = ap (λ (b : Bool). p x or b) (any_append p xs ys) ∙ sym (or_assoc (p x) (any p xs) (any p ys))

  pub all_append : (p : A → Bool) (xs ys : List A) → all p (xs ++ ys) ≡ (all p xs and all p ys)
  unfolding all ◌and◌
  all_append p [] ys = refl
  all_append p (x ∷ xs) ys = ap (λ (b : Bool). p x and b) (all_append p xs ys) ∙ sym (and_assoc (p x) (all p xs) (all p ys))

  pub any-weaken : (p q : A → Bool) (xs : List A) → ((x : A) → q x ≡ true → p x ≡ true) → any p xs ≡ false → any q xs ≡ false
  unfolding any
  any-weaken p q [] f t = refl
  any-weaken p q (x ∷ xs) f t = nor-i _ _ (contra (q x) (p x) (f x) (nor-l _ _ t)) (any-weaken p q xs f (nor-r _ _ t))

  pub all-weaken : (p q : A → Bool) (xs : List A) → ((x : A) → p x ≡ true → q x ≡ true) → all p xs ≡ true → all q xs ≡ true
  unfolding all
  all-weaken p q [] f t = refl
  all-weaken p q (x ∷ xs) f t = and_i _ _ (f x (and_l _ _ t)) (all-weaken p q xs f (and_r _ _ t))

  pub none-append : (p : A → Bool) (xs ys : List A) → any p xs ≡ false → any p ys ≡ false → any p (xs ++ ys) ≡ false
  none-append p xs ys s t = any_append p xs ys ∙ nor-i _ _ s t

  pub none-back : (p : A → Bool) (xs ys : List A) → any p (xs ++ ys) ≡ false → any p ys ≡ false
  none-back p xs ys t = nor-r _ _ (sym (any_append p xs ys) ∙ t)

  push-append : (b : Bool) (x : A) (xs ys : List A) → push b x xs ++ ys ≡ push b x (xs ++ ys)
  push-append true x xs ys = refl
  push-append false x xs ys = refl

  pub keep_append : (p : A → Bool) (xs ys : List A) → keep p (xs ++ ys) ≡ keep p xs ++ keep p ys
  unfolding keep
  keep_append p [] ys = refl
  keep_append p (x ∷ xs) ys = ap (push (p x) x) (keep_append p xs ys) ∙ sym (push-append (p x) x (keep p xs) (keep p ys))

  pub keep-length : (p : A → Bool) (xs : List A) → length (keep p xs) ≤ length xs
  unfolding keep
  keep-length p [] = omega arith
  keep-length p (x ∷ xs) = go (p x) (keep-length p xs)
    where
      go : (b : Bool) → length (keep p xs) ≤ length xs → length (push b x (keep p xs)) ≤ suc (length xs)
      go true l = omega arith
      go false l = omega arith

  -- what passes both tests
  pub keep-both : (p q : A → Bool) (xs : List A) → keep q (keep p xs) ≡ keep (λ x. q x and p x) xs
  unfolding keep ◌and◌
  keep-both p q [] = refl
  keep-both p q (x ∷ xs) = go (p x) (q x) refl (keep-both p q xs)
    where
      go : (a b : Bool) → q x ≡ b → keep q (keep p xs) ≡ keep (λ y. q y and p y) xs → keep q (push a x (keep p xs)) ≡ push (b and a) x (keep (λ y. q y and p y) xs)
      go true true e ih = rw e (ap (push true x) ih)
      go true false e ih = rw e ih
      go false true e ih = ih
      go false false e ih = ih

  pub latest-append : {B : Type 0} (f : A → Option B) (xs ys : List A) → latest f (xs ++ ys) ≡ or_else (latest f ys) (latest f xs)
  unfolding latest
  latest-append f [] ys = sym (or_else-none (latest f ys))
  latest-append f (x ∷ xs) ys =
      ap (λ (o : Option _). or_else o (f x)) (latest-append f xs ys) ∙ or_else-assoc (latest f ys) (latest f xs) (f x)

  -- a program that goes through the list backwards and stops at the first answer finds the latest
  pub latest-snoc : {B : Type 0} (f : A → Option B) (xs : List A) (x : A) → latest f (xs ++ (x ∷ [])) ≡ or_else (f x) (latest f xs)
  unfolding latest
  latest-snoc f xs x = latest-append f xs (x ∷ [])

pub range_length : (n : ℕ) → length (range n) ≡ n
unfolding range
range_length zero = refl
range_length (suc n) = omega (arith, length-append (range n) (n ∷ []), range_length n)

-- tests that agree below n keep the same of the numbers below n, and one that none passes keeps none
pub keep_same : (p q : ℕ → Bool) (n : ℕ) → ((i : ℕ) → i < n → p i ≡ q i) → keep p (range n) ≡ keep q (range n)
unfolding keep range
keep_same p q zero e = refl
keep_same p q (suc n) e =
    keep_append p (range n) (n ∷ [])
    ∙ ap₂ (λ (xs : List ℕ) (b : Bool). xs ++ push b n []) (keep_same p q n (λ i l. e i (le_step l))) (e n (lt-suc_self n))
    ∙ sym (keep_append q (range n) (n ∷ []))

pub keep-none : (p : ℕ → Bool) (n : ℕ) → ((i : ℕ) → i < n → p i ≡ false) → keep p (range n) ≡ []
unfolding keep range
keep-none p zero e = refl
keep-none p (suc n) e =
    let q : p n ≡ false = e n (lt-suc_self n) in
    keep_append p (range n) (n ∷ []) ∙ rw (keep-none p n (λ i l. e i (le_step l)), q)

-- a number below n that passes is among those that are kept
pub keep-member : (p : ℕ → Bool) (n i : ℕ) → i < n → p i ≡ true → any (λ k. eqb k i) (keep p (range n)) ≡ true
unfolding range keep any
keep-member p zero i l t = absurd (not-suc-le-zero l)
keep-member p (suc n) i l t =
    ap (any (λ k. eqb k i)) (keep_append p (range n) (n ∷ [])) ∙ any_append _ (keep p (range n)) (keep p (n ∷ []))
    ∙ ⊎_elim
    (λ e. or_r _ _ (let q : p n ≡ true = ap p (sym e) ∙ t in let s : eqb n i ≡ true = ap (λ (m : ℕ). eqb m i) (sym e) ∙ eqb-self i in rw q (or_l _ _ s)))
    (λ m. or_l _ _ (keep-member p n i m t)) (below-cases l)

pub any-index : {A : Type 0} (p : A → Bool) (xs : List A) (d : A) → any p xs ≡ true → (j : ℕ) × (j < length xs) × (p (get_or xs j d) ≡ true)
unfolding any ◌or◌
any-index p [] d t = absurd (false≢true t)
any-index p (x ∷ xs) d t = go (p x) refl t (any-index p xs d)
  where
    go : (b : Bool) → p x ≡ b → (b or any p xs) ≡ true → (any p xs ≡ true → (j : ℕ) × (j < length xs) × (p (get_or xs j d) ≡ true))
        → (j : ℕ) × (j < length (x ∷ xs)) × (p (get_or (x ∷ xs) j d) ≡ true)
    go true e u ih = (0, zero-lt-suc (length xs), e)
    go false e u ih = let r = ih u in (suc r.0, suc-le-suc_iff.1 r.1, r.2)
