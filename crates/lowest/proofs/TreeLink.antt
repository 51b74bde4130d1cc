-- The search's tree and the definition's are one, where their tests agree.
-- Assumes nothing.
use mathlib.Core.Path.{◌≡◌, refl, sym, ap, ap₂, ◌∙◌}
use Prim.Native.Nat.{ℕ, zero, suc, ◌+◌, ◌*◌, ◌/◌, ◌%◌, ◌≤◌, ◌<◌}
use native.Mathlib.Nat.{le_refl, not-suc-le-zero}
use native.Mathlib.Omega.{arith}
use mathlib.Core.Bool.{Bool, true, false, not, cond}
use mathlib.Core.List.{List, [], ◌∷◌, ◌++◌}
use mathlib.Core.Option.{Option, none, some}
use mathlib.Core.Logic.{⊎_elim}
use lib.ListN.{length, get_or, length-append, get_or-append}
use lib.Seq.{get_or_at}
use lib.Dec.{eqb}
use borrow.Author.Tests.{eqb-true, eqb-false, eq-eqb, ne_eqb}
use Rattle.lists.specs.Lists.{◌and◌, ◌or◌, or_else, any, push, keep, lowest_from}
use Rattle.opacity.specs.Justification.{Place, is_of, placed}
use Rattle.opacity.specs.Lowest.{place, lowest_place, continued}
use Rattle.lists.proofs.ListLaws.{or-false, not-true, not-false, below-cases, any_append, lowest-upwards}
use Rattle.places.specs.Tree.{Constraints, Completion, remove, up_from, legal_reads, fits_at, first_of, try_one, try_both, placing_all}
use Rattle.places.specs.Facts.{end_row}
use Rattle.places.specs.Places.{coded, decode}
use Rattle.places.proofs.LookupLaws.{decode-snoc}
use Rattle.lowest.specs.Order.{decoded}
use Rattle.lowest.proofs.Meaning.{digit}

-- ---- codes

pub place-code : (t : ℕ) (c : Bool) → coded (t * 2 + digit c) ≡ place t c
place-code t true =
    let a : (t * 2 + 1) / 2 ≡ t = omega arith in
    let b : (t * 2 + 1) % 2 ≡ 1 = omega arith in
    rw (a, b)
place-code t false =
    let a : (t * 2 + 0) / 2 ≡ t = omega arith in
    let b : (t * 2 + 0) % 2 ≡ 0 = omega arith in
    rw (a, b)

decoded-else : (a b : Completion) → decoded (or_else a b) ≡ or_else (decoded a) (decoded b)
decoded-else none b = refl
decoded-else (some x) b = refl

decoded-cond : (b : Bool) (x : Completion) → decoded (cond b x none) ≡ cond b (decoded x) none
decoded-cond true x = refl
decoded-cond false x = refl

-- ---- the transactions without a place

unfoldable pub free : List Place → ℕ → Bool
free P t = not (placed t P)

module _ (q : ℕ → Bool) where
  -- trying the free ones in turn is trying all, where the others give nothing
  first-keep : (g : ℕ → Completion) (f : ℕ → Option (List Place)) (i m : ℕ)
      → ((t : ℕ) → i ≤ t → t < i + m → q t ≡ false → f t ≡ none)
      → ((t : ℕ) → i ≤ t → t < i + m → q t ≡ true → decoded (g t) ≡ f t)
      → decoded (first_of g (keep q (up_from i m))) ≡ lowest_from f i m
  unfolding first_of keep up_from lowest_from
  first-keep g f i zero out hit = refl
  first-keep g f i (suc m) out hit =
      go (q i) refl (first-keep g f (suc i) m (λ t a b. out t (omega arith) (omega arith)) (λ t a b. hit t (omega arith) (omega arith)))
    where
      go : (b : Bool) → q i ≡ b → decoded (first_of g (keep q (up_from (suc i) m))) ≡ lowest_from f (suc i) m
          → decoded (first_of g (push b i (keep q (up_from (suc i) m)))) ≡ or_else (f i) (lowest_from f (suc i) m)
      go true e ih =
          let y : decoded (g i) ≡ f i = hit i (le_refl i) (omega arith) e in
          rw (decoded-else (g i) (first_of g (keep q (up_from (suc i) m))), y, ih)
      go false e ih =
          let y : f i ≡ none = out i (le_refl i) (omega arith) e in
          rw y ih

keep_same : (q r : ℕ → Bool) (i m : ℕ) → ((t : ℕ) → i ≤ t → t < i + m → q t ≡ r t) → keep q (up_from i m) ≡ keep r (up_from i m)
unfolding keep up_from
keep_same q r i zero f = refl
keep_same q r i (suc m) f =
    let a : q i ≡ r i = f i (le_refl i) (omega arith) in
    rw (a, keep_same q r (suc i) m (λ t x y. f t (omega arith) (omega arith)))

-- one less
remove-keep : (q : ℕ → Bool) (t i m : ℕ) → remove t (keep q (up_from i m)) ≡ keep (λ x. q x and not (eqb t x)) (up_from i m)
unfolding remove keep up_from ◌and◌
remove-keep q t i zero = refl
remove-keep q t i (suc m) = go (q i) refl (eqb i t) refl (remove-keep q t (suc i) m)
  where
    others : (x : ℕ) (b : Bool) → eqb t x ≡ false → b ≡ (b and not (eqb t x))
    others x true z = rw z
    others x false z = refl

    go : (b : Bool) → q i ≡ b → (d : Bool) → eqb i t ≡ d → remove t (keep q (up_from (suc i) m)) ≡ keep (λ x. q x and not (eqb t x)) (up_from (suc i) m)
        → remove t (push b i (keep q (up_from (suc i) m))) ≡ push (b and not (eqb t i)) i (keep (λ x. q x and not (eqb t x)) (up_from (suc i) m))
    go true e true f ih =
        let s : eqb t i ≡ true = eq-eqb t i (sym (eqb-true i t f)) in
        rw (f, s) (keep_same q (λ x. q x and not (eqb t x)) (suc i) m (λ x a b. others x (q x) (ne_eqb t x (λ z. omega (arith, eqb-true i t f)))))
    go true e false f ih =
        let s : eqb t i ≡ false = ne_eqb t i (λ z. eqb-false i t f (sym z)) in
        rw (f, s) (ap (λ (l : List ℕ). i ∷ l) ih)
    go false e d f ih = ih

pub placed_snoc : (x : ℕ) (P : List Place) (p : Place) → placed x (P ++ (p ∷ [])) ≡ (placed x P or is_of x p)
unfolding placed any
placed_snoc x P p = any_append (is_of x) P (p ∷ []) ∙ ap (λ (b : Bool). any (is_of x) P or b) (or-false (is_of x p))

not-or : (a b : Bool) → (not a and not b) ≡ not (a or b)
unfolding ◌and◌ ◌or◌
not-or true b = refl
not-or false b = refl

-- the places p and the transactions u left, below n
pub record State (n : ℕ) (p u : List ℕ) : Type 0 where
  pub left : u ≡ keep (free (decode p)) (up_from 0 n)
  pub known : (i : ℕ) → i < length p → get_or p i 0 / 2 < n

-- at the start none is placed
pub state-start : (n : ℕ) → State n [] (up_from 0 n)
unfolding free decode placed any keep up_from
state-start n = record { left = all 0 n; known = λ i l. absurd (not-suc-le-zero l) }
  where
    all : (i m : ℕ) → up_from i m ≡ keep (free (decode [])) (up_from i m)
    all i zero = refl
    all i (suc m) = ap (λ (l : List ℕ). i ∷ l) (all (suc i) m)

-- one place more
pub state-next : (n : ℕ) (p u : List ℕ) (t : ℕ) (c : Bool) → t < n → State n p u → State n (p ++ ((t * 2 + digit c) ∷ [])) (remove t u)
unfolding free
state-next n p u t c l s =
    record {
      left = ap (remove t) s.left ∙ remove-keep (free (decode p)) t 0 n ∙ keep_same _ _ 0 n (λ x a b. same x);
      known = λ i k. ⊎_elim (last i) (first i) (below-cases (longer i k));
    }
  where
    code : (t * 2 + digit c) / 2 ≡ t
    code = ap (λ (q : Place). q.transaction) (place-code t c)

    longer : (i : ℕ) → i < length (p ++ ((t * 2 + digit c) ∷ [])) → i < suc (length p)
    longer i k = omega (arith, length-append p ((t * 2 + digit c) ∷ []))

    last : (i : ℕ) → i ≡ length p → get_or (p ++ ((t * 2 + digit c) ∷ [])) i 0 / 2 < n
    last i e = rw (e, get_or_at p (t * 2 + digit c) [] 0 (length p) refl, code) l

    first : (i : ℕ) → i < length p → get_or (p ++ ((t * 2 + digit c) ∷ [])) i 0 / 2 < n
    first i k = rw (get_or-append p ((t * 2 + digit c) ∷ []) 0 i k) (s.known i k)

    same : (x : ℕ) → (free (decode p) x and not (eqb t x)) ≡ free (decode (p ++ ((t * 2 + digit c) ∷ []))) x
    same x = rw (decode-snoc p (t * 2 + digit c), place-code t c, placed_snoc x (decode p) (place t c)) (not-or (placed x (decode p)) (eqb t x))

-- ---- the trees

module _ (D : Constraints) (ok : List Place → Place → Bool) (n : ℕ)
    (agree : (p u : List ℕ) → State n p u → (t : ℕ) → t < n → placed t (decode p) ≡ false → (c : Bool) → fits_at D p u t (digit c) ≡ ok (decode p) (place t c))
    (fresh : (P : List Place) (p : Place) → placed p.transaction P ≡ true → ok P p ≡ false)
    (ending : (p : List ℕ) → legal_reads D p end_row ≡ true) where
  -- what the definition tries next after P
  tries : ℕ → List Place → Place → Option (List Place)
  tries k P p = cond (ok P p) (continued ok n k (P ++ (p ∷ []))) none

  pub trees : (k : ℕ) (p u : List ℕ) → State n p u → decoded (placing_all D k p u u) ≡ continued ok n k (decode p)
  unfolding placing_all continued lowest_place tries try_both try_one free
  trees zero p u s = rw (ending p)
  trees (suc k) p u s =
      ap (λ (l : List ℕ). decoded (first_of (try_both D (λ p' u'. placing_all D k p' u' u') p u) l)) s.left
      ∙ first-keep (free (decode p)) (try_both D (λ p' u'. placing_all D k p' u' u') p u)
      (λ t. or_else (tries k (decode p) (place t false)) (tries k (decode p) (place t true))) 0 n
      (λ t a b q. none_tried t (not-false _ q))
      (λ t a b q. both-tried t (λ c. trees k (p ++ ((t * 2 + digit c) ∷ [])) (remove t u) (state-next n p u t c (omega arith) s)) (omega arith) (not-true _ q))
      ∙ sym (lowest-upwards (λ t. or_else (tries k (decode p) (place t false)) (tries k (decode p) (place t true))) n)
    where
      none_tried : (t : ℕ) → placed t (decode p) ≡ true → or_else (tries k (decode p) (place t false)) (tries k (decode p) (place t true)) ≡ none
      none_tried t q = rw (fresh (decode p) (place t false) q, fresh (decode p) (place t true) q)

      one-tried : (t : ℕ) (c : Bool) → t < n → placed t (decode p) ≡ false
          → decoded (placing_all D k (p ++ ((t * 2 + digit c) ∷ [])) (remove t u) (remove t u)) ≡ continued ok n k (decode (p ++ ((t * 2 + digit c) ∷ [])))
          → decoded (try_one D (λ p' u'. placing_all D k p' u' u') p u t (digit c)) ≡ tries k (decode p) (place t c)
      one-tried t c l q ih =
          let d : decode (p ++ ((t * 2 + digit c) ∷ [])) ≡ decode p ++ (place t c ∷ []) =
          decode-snoc p (t * 2 + digit c) ∙ ap (λ (x : Place). decode p ++ (x ∷ [])) (place-code t c) in
          decoded-cond (fits_at D p u t (digit c)) _
          ∙ ap₂ (λ (b : Bool) (o : Option (List Place)). cond b o none) (agree p u s t l q c) (ih ∙ ap (continued ok n k) d)

      both-tried : (t : ℕ) → ((c : Bool) → decoded (placing_all D k (p ++ ((t * 2 + digit c) ∷ [])) (remove t u) (remove t u)) ≡ continued ok n k (decode (p ++ ((t * 2 + digit c) ∷ []))))
          → t < n → placed t (decode p) ≡ false
          → decoded (try_both D (λ p' u'. placing_all D k p' u' u') p u t) ≡ or_else (tries k (decode p) (place t false)) (tries k (decode p) (place t true))
      both-tried t ih l q =
          decoded-else (try_one D (λ p' u'. placing_all D k p' u' u') p u t 0) (try_one D (λ p' u'. placing_all D k p' u' u') p u t 1)
          ∙ ap₂ or_else (one-tried t false l q (ih false)) (one-tried t true l q (ih true))
