-- Laws of orders of places that stand in arrays.
-- Assumes nothing.
use Prim.Native.Nat.{ℕ, zero, suc, ◌+◌, ◌≤◌, ◌<◌}
use native.Mathlib.Nat.{not-suc-le-zero, le_refl, zero-lt-suc, le_of_suc-le-suc, lt_of_not-le}
use native.Mathlib.Decide.{dec_le}
use native.Mathlib.Numerals.{add-one}
use native.Mathlib.Omega.{arith}
use mathlib.Core.Path.{◌≡◌, refl, sym, ap, ◌∙◌, subst}
use mathlib.Core.Logic.{⊎_elim}
use mathlib.Core.Bool.{Bool, true, false, cond}
use mathlib.Core.List.{List, [], ◌∷◌, ◌++◌}
use lib.Dec.{eqb, ltb}
use lib.ListN.{length, get_or, take, drop, set, replicate, length-set, length-replicate}
use lib.Seq.{get_or-set_same, get_or-set_other, split_at, get_or-take, get_or_at, take-append-le, take_all}
use borrow.Author.Tests.{eqb-true, eq-eqb, ne_eqb, eqb-false, lt-ltb, ltb-true, ltb-false, le-ltb}
use Rattle.lists.specs.Lists.{◌or◌, any, all}
use Rattle.lists.proofs.ListLaws.{and_l, and_r, every-e, below-cases}
use Rattle.lists.proofs.ListLaws.{any-index}
use Rattle.opacity.specs.Justification.{Place, is_of, placed, before, outcome, distinct, is_order}
use Rattle.opacity.specs.Marking.{place_of}
use Rattle.opacity.proofs.Orders.{Fresh, before_here, distinct-at, outcome-here}
use Rattle.opacity.specs.Arrays.{places_of, place_at}
use Rattle.opacity.proofs.Arrays.{places-length}
use Rattle.rules.specs.Orders.{Inverse, Apart}

pub places-take : (order outcomes : List ℕ) (n k : ℕ) → k ≤ n → take k (places_of order outcomes n) ≡ places_of order outcomes k
unfolding places_of
places-take order outcomes zero zero l = refl
places-take order outcomes zero (suc k) l = absurd (not-suc-le-zero l)
places-take order outcomes (suc n) k l =
    elim (dec_le k n) [
      | yes m ↦ take-append-le k (places_of order outcomes n) (place_at order outcomes n ∷ []) (rw (places-length order outcomes n) m) ∙ places-take order outcomes n k m
      | no u ↦
          let e : k ≡ suc n = (let m = lt_of_not-le u in omega arith) in
          rw e (take_all (suc n) (places_of order outcomes (suc n)) (omega (arith, places-length order outcomes (suc n))))
    ]

ltb-suc : (a b : ℕ) → ltb (suc a) (suc b) ≡ ltb a b
ltb-suc a b = go (ltb a b) refl
  where
    go : (c : Bool) → ltb a b ≡ c → ltb (suc a) (suc b) ≡ c
    go true e = let l = ltb-true a b e in lt-ltb (suc a) (suc b) (omega arith)
    go false e = let l = ltb-false a b e in le-ltb (suc a) (suc b) (omega arith)

-- t is placed before u exactly if its place is the lower
pub before-lower : (t u : ℕ) (J : List Place) → placed t (before u J) ≡ ltb (place_of t J) (place_of u J)
unfolding placed place_of before any ◌or◌
before-lower t u [] = refl
before-lower t u (p ∷ J) = go (is_of u p) (is_of t p) refl (before-lower t u J)
  where
    go : (a b : Bool) → is_of t p ≡ b → placed t (before u J) ≡ ltb (place_of t J) (place_of u J)
        → any (is_of t) (cond a [] (p ∷ before u J)) ≡ ltb (length (cond b [] (p ∷ before t J))) (length (cond a [] (p ∷ before u J)))
    go true b e ih = sym (le-ltb (length (cond b [] (p ∷ before t J))) 0 (omega arith))
    go false true e ih = rw e (sym (lt-ltb 0 (suc (length (before u J))) (zero-lt-suc _)))
    go false false e ih = rw e (ih ∙ sym (ltb-suc (length (before t J)) (length (before u J))))

all-at : (p : Place → Bool) (xs : List Place) (d : Place) (k : ℕ) → k < length xs → all p xs ≡ true → p (get_or xs k d) ≡ true
unfolding all
all-at p [] d k l h = absurd (not-suc-le-zero l)
all-at p (x ∷ xs) d zero l h = and_l _ _ h
all-at p (x ∷ xs) d (suc k) l h = all-at p xs d k (le_of_suc-le-suc l) (and_r _ _ h)

abbrev no_place : Place
no_place = record { transaction = 0; committed = false }

pub places-at : (order outcomes : List ℕ) (n k : ℕ) → k < n → get_or (places_of order outcomes n) k no_place ≡ place_at order outcomes k
unfolding places_of
places-at order outcomes n k l =
    sym (get_or-take (suc k) (places_of order outcomes n) k no_place (le_refl (suc k)))
    ∙ (ap (λ (J : List Place). get_or J k no_place) (places-take order outcomes n (suc k) l)
    ∙ get_or_at (places_of order outcomes k) (place_at order outcomes k) [] no_place k (places-length order outcomes k))

module _ (order outcomes : List ℕ) (b : ℕ) (o : is_order b (places_of order outcomes b) ≡ true) where
  -- the places cut at k
  pub cut : (k : ℕ) → k < b → places_of order outcomes b ≡ places_of order outcomes k ++ place_at order outcomes k ∷ drop (suc k) (places_of order outcomes b)
  cut k l =
      split_at (places_of order outcomes b) k no_place (rw (places-length order outcomes b) l)
      ∙ (ap (λ (P : List Place). P ++ get_or (places_of order outcomes b) k no_place ∷ drop (suc k) (places_of order outcomes b)) (places-take order outcomes b k (omega arith))
      ∙ ap (λ (p : Place). places_of order outcomes k ++ p ∷ drop (suc k) (places_of order outcomes b)) (places-at order outcomes b k l))

  pub alone : (k : ℕ) → k < b → Fresh (get_or order k 0) (places_of order outcomes k) × Fresh (get_or order k 0) (drop (suc k) (places_of order outcomes b))
  unfolding is_order
  alone k l =
      distinct-at (places_of order outcomes k) (place_at order outcomes k) (drop (suc k) (places_of order outcomes b))
      (subst (λ (J : List Place). distinct J ≡ true) (cut k l) (and_l _ _ (and_r _ _ o)))

  -- where a transaction is placed, and with which outcome
  pub place_here : (k : ℕ) → k < b → place_of (get_or order k 0) (places_of order outcomes b) ≡ k
  unfolding place_of
  place_here k l =
      ap (λ (J : List Place). length (before (get_or order k 0) J)) (cut k l)
      ∙ (ap length (before_here (places_of order outcomes k) (place_at order outcomes k) (drop (suc k) (places_of order outcomes b)) (alone k l).0) ∙ places-length order outcomes k)

  outcome-at : (k : ℕ) → k < b → outcome (get_or order k 0) (places_of order outcomes b) ≡ eqb (get_or outcomes k 0) 1
  outcome-at k l =
      ap (outcome (get_or order k 0)) (cut k l)
      ∙ outcome-here (places_of order outcomes k) (place_at order outcomes k) (drop (suc k) (places_of order outcomes b)) (alone k l).0 (alone k l).1

  -- a transaction has a place
  pub record HasPlace (t : ℕ) : Type 0 where
    pub at : ℕ
    pub inside : at < b
    pub there : get_or order at 0 ≡ t

  pub has-place : (t : ℕ) → t < b → HasPlace t
  unfolding is_order placed
  has-place t l =
      let w = any-index (is_of t) (places_of order outcomes b) no_place (every-e _ _ (and_r _ _ (and_r _ _ o)) t l) in
      let m : w.0 < b = rw (places-length order outcomes b) at w.1 in
      record { at = w.0; inside = m; there = eqb-true _ _ (ap (is_of t) (sym (places-at order outcomes b w.0 m)) ∙ w.2) }

  pub place-of : (t k : ℕ) → k < b → get_or order k 0 ≡ t → place_of t (places_of order outcomes b) ≡ k
  place-of t k l e = ap (λ (x : ℕ). place_of x (places_of order outcomes b)) (sym e) ∙ place_here k l

  pub outcome-of : (t : ℕ) → t < b → outcome t (places_of order outcomes b) ≡ eqb (get_or outcomes (place_of t (places_of order outcomes b)) 0) 1
  outcome-of t l =
      let f = has-place t l in
      ap (λ (x : ℕ). outcome x (places_of order outcomes b)) (sym f.there)
      ∙ (outcome-at f.at f.inside ∙ ap (λ (k : ℕ). eqb (get_or outcomes k 0) 1) (sym (place-of t f.at f.inside f.there)))

  pub order-low : (k : ℕ) → k < b → get_or order k 0 < b
  unfolding is_order
  order-low k l =
      ltb-true _ _
      (ap (λ (p : Place). ltb p.transaction b) (sym (places-at order outcomes b k l))
      ∙ all-at (λ p. ltb p.transaction b) (places_of order outcomes b) no_place k (rw (places-length order outcomes b) l) (and_l _ _ o))

  pub order-apart : (j k : ℕ) → j < b → k < b → get_or order j 0 ≡ get_or order k 0 → j ≡ k
  order-apart j k l m e = sym (place_here j l) ∙ place-of (get_or order j 0) k m (sym e)

  -- the table of places
  pub inverse-place : (place : List ℕ) → Inverse order b place → (t : ℕ) → t < b → get_or place t 0 ≡ place_of t (places_of order outcomes b)
  inverse-place place v t l =
      let f = has-place t l in
      ap (λ (x : ℕ). get_or place x 0) (sym f.there) ∙ (v.holds f.at f.inside ∙ sym (place-of t f.at f.inside f.there))

  -- the transaction at place k is t exactly if k is the place of t
  pub own-place : (t k : ℕ) → t < b → k < b → is_of t (place_at order outcomes k) ≡ eqb k (place_of t (places_of order outcomes b))
  own-place t k l m = go (eqb (get_or order k 0) t) refl
    where
      go : (x : Bool) → eqb (get_or order k 0) t ≡ x → x ≡ eqb k (place_of t (places_of order outcomes b))
      go true e = sym (eq-eqb _ _ (sym (place-of t k m (eqb-true _ _ e))))
      go false e =
          sym (ne_eqb _ _ (λ q. let f = has-place t l in
          eqb-false _ _ e (ap (λ (x : ℕ). get_or order x 0) (q ∙ place-of t f.at f.inside f.there) ∙ f.there)))

-- a table of zeros
blank : (n t : ℕ) → ◌≡◌ {A = ℕ} (get_or (replicate n 0) t 0) 0
blank zero t = refl
blank (suc n) zero = refl
blank (suc n) (suc t) = blank n t

pub inverse-start : (order : List ℕ) → Inverse order 0 (replicate 64 0)
inverse-start order = record { size = length-replicate {A = ℕ} 64 0; low = λ t. rw (blank 64 t) (zero-lt-suc 63); holds = λ j l. absurd (not-suc-le-zero l) }

pub inverse-more : (order place : List ℕ) (b k t v : ℕ) → Apart order b → k < b → t ≡ get_or order k 0 → v ≡ k → Inverse order k place → Inverse order (k + 1) (set place t v)
inverse-more order place b k t v a l e q h =
    record { size = length-set place t v ∙ h.size; low = λ u. small u (eqb u t) refl; holds = λ j m. ⊎_elim (same j) (other j) (below-cases (rw (add-one k) at m)) }
  where
    low : t < length place
    low = rw h.size (rw e (a.low k l))

    small : (u : ℕ) (x : Bool) → eqb u t ≡ x → get_or (set place t v) u 0 < 64
    small u true d = rw (eqb-true u t d, get_or-set_same place t v 0 low, q) (let f = a.few in omega arith)
    small u false d = rw (get_or-set_other place t u v 0 (eqb-false u t d)) (h.low u)

    same : (j : ℕ) → j ≡ k → get_or (set place t v) (get_or order j 0) 0 ≡ j
    same j d = ap (λ (x : ℕ). get_or (set place t v) (get_or order x 0) 0) d ∙ (ap (λ (x : ℕ). get_or (set place t v) x 0) (sym e) ∙ (get_or-set_same place t v 0 low ∙ (q ∙ sym d)))

    other : (j : ℕ) → j < k → get_or (set place t v) (get_or order j 0) 0 ≡ j
    other j m =
        get_or-set_other place t (get_or order j 0) v 0 (λ d. let z = a.distinct j k (omega arith) l (d ∙ e) in omega arith) ∙ h.holds j m
