-- Where all transactions must come before the end, an order ends exactly where none is left: the first completion places all of them.
-- Assumes nothing.
use Rattle.std.specs.Prelude.{Option as Answer, Some, None}
use mathlib.Core.Path.{◌≡◌, refl, sym, ap, ◌∙◌}
use mathlib.Core.Logic.{⊎_elim}
use mathlib.Core.List.Memᴰ
use mathlib.Core.List.{List, [], ◌∷◌, ◌++◌, Memᴰ}
use mathlib.Core.Bool.{Bool, true, false, cond}
use mathlib.Core.Option.{none, some}
use Prim.Native.Nat.{ℕ, zero, suc, ◌+◌, ◌*◌, ◌<◌}
use native.Mathlib.Omega.{arith}
use lib.Bits.{and_zero_l}
use lib.Dec.{eqb}
use lib.ListN.{length, length-append}
use borrow.Author.Tests.{eqb-false}
use Rattle.lists.specs.Lists.{or_else}
use Rattle.lists.specs.Bits.{bit_at}
use Rattle.places.specs.Facts.{end_row, after_of, reads_of, reads_asked}
use Rattle.places.specs.Places.{codes_of}
use Rattle.places.specs.Tree.{Constraints, Completion, remove, up_from, none_in, legal_reads, fits_at, ends_at, first_of, try_one, try_both, from_candidates, first_completion}
use Rattle.places.specs.Tree.{EndAsks, placing_all, first_whole, read_answer, Answers, Answered}
use Rattle.places.proofs.SetLaws.{none_left}
use Rattle.places.proofs.StateLaws.{length-codes}

-- ---- lists of transactions

in-removed : (t y : ℕ) (u : List ℕ) → Memᴰ y (remove t u) → Memᴰ y u
unfolding remove
in-removed t y [] m = m
in-removed t y (x ∷ u) m = go (eqb x t) m (in-removed t y u)
  where
    go : (b : Bool) → Memᴰ y (cond b u (x ∷ remove t u)) → (Memᴰ y (remove t u) → Memᴰ y u) → Memᴰ y (x ∷ u)
    go true k ih = Memᴰ.tail k
    go false k ih = ⊎_elim (λ e. Memᴰ.head e) (λ j. Memᴰ.tail (ih j)) (Memᴰ.cases_cons k)

one_less : (t : ℕ) (u : List ℕ) → Memᴰ t u → suc (length (remove t u)) ≡ length u
unfolding remove
one_less t [] m = absurd (Memᴰ.not-nil m)
one_less t (x ∷ u) m = go (eqb x t) refl (one_less t u)
  where
    go : (b : Bool) → eqb x t ≡ b → (Memᴰ t u → suc (length (remove t u)) ≡ length u) → suc (length (cond b u (x ∷ remove t u))) ≡ suc (length u)
    go true e ih = refl
    go false e ih = ⊎_elim (λ q. absurd (eqb-false x t e (sym q))) (λ j. ap suc (ih j)) (Memᴰ.cases_cons m)

up-length : (n i : ℕ) → length (up_from i n) ≡ n
unfolding up_from
up-length zero i = refl
up-length (suc n) i = ap suc (up-length n (suc i))

up-low : (n i t : ℕ) → Memᴰ t (up_from i n) → t < i + n
unfolding up_from
up-low zero i t m = absurd (Memᴰ.not-nil m)
up-low (suc n) i t m = ⊎_elim (λ e. omega arith) (λ j. omega (arith, up-low n (suc i) t j)) (Memᴰ.cases_cons m)

-- ---- the first of several

same_first : (f g : ℕ → Completion) (c : List ℕ) → ((t : ℕ) → Memᴰ t c → f t ≡ g t) → first_of f c ≡ first_of g c
unfolding first_of
same_first f g [] e = refl
same_first f g (t ∷ c) e =
    let here : f t ≡ g t = e t (Memᴰ.head refl) in
    rw (here, same_first f g c (λ y m. e y (Memᴰ.tail m)))

first-has : (P : List ℕ → Type 0) (f : ℕ → Completion) → ((t : ℕ) (q : List ℕ) → f t ≡ some q → P q) → (c q : List ℕ) → first_of f c ≡ some q → P q
unfolding first_of
first-has P f h [] q e = let z : ◌≡◌ {A = ℕ} 0 1 = cc in absurd (omega arith)
first-has P f h (t ∷ c) q e = go (f t) refl e (first-has P f h c q)
  where
    go : (x : Completion) → f t ≡ x → or_else x (first_of f c) ≡ some q → (first_of f c ≡ some q → P q) → P q
    go none d g ih = ih g
    go (some y) d g ih = h t q (d ∙ g)

-- ---- the trees

-- one that reads nothing from the store, as the end mostly does, is legal anywhere
pub reads_none : (D : Constraints) (t : ℕ) → reads_of D.facts t ≡ 0 → (p : List ℕ) → legal_reads D p t ≡ true
unfolding legal_reads
reads_none D t e p = none_left _ (reads_asked D.facts D.asked t) (rw e (and_zero_l D.asked))

module _ (D : Constraints) (n : ℕ) (asks : EndAsks D.facts n) where
  -- the end may come where none is left, if its store reads are legal
  pub ends_last : (p : List ℕ) → ends_at D p [] ≡ legal_reads D p end_row
  unfolding ends_at none_in
  ends_last p = refl

  -- and not before
  pub ends-not : (p : List ℕ) (x : ℕ) (u : List ℕ) → x < n → ends_at D p (x ∷ u) ≡ false
  unfolding ends_at none_in
  ends-not p x u l = let one : bit_at x (after_of D.facts end_row) ≡ 1 = asks x l in rw one

  trees-alike : (k : ℕ) (p u : List ℕ) → length u ≡ k → ((t : ℕ) → Memᴰ t u → t < n) → (c : List ℕ) → ((t : ℕ) → Memᴰ t c → Memᴰ t u)
      → from_candidates D k p u c ≡ placing_all D k p u c
  unfolding from_candidates placing_all try_both try_one
  trees-alike zero p [] e low c w = rw (ends_last p)
  trees-alike zero p (x ∷ u) e low c w = absurd (omega arith)
  trees-alike (suc k) p [] e low c w = absurd (omega arith)
  trees-alike (suc k) p (x ∷ u) e low c w =
      rw (ends-not p x u (low x (Memᴰ.head refl)))
      (same_first _ _ c (λ t m. rw (next t m 0 (trees-alike k), next t m 1 (trees-alike k))))
    where
      next : (t : ℕ) → Memᴰ t c → (o : ℕ)
          → ((q v : List ℕ) → length v ≡ k → ((y : ℕ) → Memᴰ y v → y < n) → (d : List ℕ) → ((y : ℕ) → Memᴰ y d → Memᴰ y v) → from_candidates D k q v d ≡ placing_all D k q v d)
          → from_candidates D k (p ++ ((t * 2 + o) ∷ [])) (remove t (x ∷ u)) (remove t (x ∷ u)) ≡ placing_all D k (p ++ ((t * 2 + o) ∷ [])) (remove t (x ∷ u)) (remove t (x ∷ u))
      next t m o ih =
          ih (p ++ ((t * 2 + o) ∷ [])) (remove t (x ∷ u)) (omega (arith, one_less t (x ∷ u) (w t m))) (λ y j. low y (in-removed t y (x ∷ u) j)) (remove t (x ∷ u)) (λ y j. j)

  -- the first completion is the first that places all
  pub first-whole : first_completion D n ≡ first_whole D n
  unfolding first_completion first_whole
  first-whole = trees-alike n [] (up_from 0 n) (up-length n 0) (λ t m. omega (arith, up-low n 0 t m)) (up_from 0 n) (λ t m. m)

-- so many places more
long-by : (D : Constraints) (k : ℕ) (p u c q : List ℕ) → placing_all D k p u c ≡ some q → length q ≡ length p + k
unfolding placing_all try_both try_one
long-by D zero p u c q e = go (legal_reads D p end_row) e
  where
    go : (b : Bool) → cond b (some p) none ≡ some q → length q ≡ length p + 0
    go true d = let s : p ≡ q = cc in omega (arith, ap length s)
    go false d = let z : ◌≡◌ {A = ℕ} 0 1 = cc in absurd (omega arith)
long-by D (suc k) p u c q e = first-has (λ (l : List ℕ). length l ≡ length p + suc k) _ (λ t l d. both t l (long-by D k) d) c q e
  where
    one : (t o : ℕ) (l : List ℕ) (b : Bool) → ((p' u' c' q' : List ℕ) → placing_all D k p' u' c' ≡ some q' → length q' ≡ length p' + k)
        → cond b (placing_all D k (p ++ ((t * 2 + o) ∷ [])) (remove t u) (remove t u)) none ≡ some l → length l ≡ length p + suc k
    one t o l true ih d = omega (arith, ih (p ++ ((t * 2 + o) ∷ [])) (remove t u) (remove t u) l d, length-append p ((t * 2 + o) ∷ []))
    one t o l false ih d = let z : ◌≡◌ {A = ℕ} 0 1 = cc in absurd (omega arith)

    both : (t : ℕ) (l : List ℕ) → ((p' u' c' q' : List ℕ) → placing_all D k p' u' c' ≡ some q' → length q' ≡ length p' + k)
        → or_else (cond (fits_at D p u t 0) (placing_all D k (p ++ ((t * 2 + 0) ∷ [])) (remove t u) (remove t u)) none)
        (cond (fits_at D p u t 1) (placing_all D k (p ++ ((t * 2 + 1) ∷ [])) (remove t u) (remove t u)) none) ≡ some l
        → length l ≡ length p + suc k
    both t l ih d = go (cond (fits_at D p u t 0) (placing_all D k (p ++ ((t * 2 + 0) ∷ [])) (remove t u) (remove t u)) none) refl d
      where
        go : (x : Completion) → cond (fits_at D p u t 0) (placing_all D k (p ++ ((t * 2 + 0) ∷ [])) (remove t u) (remove t u)) none ≡ x
            → or_else x (cond (fits_at D p u t 1) (placing_all D k (p ++ ((t * 2 + 1) ∷ [])) (remove t u) (remove t u)) none) ≡ some l → length l ≡ length p + suc k
        go none f g = one t 1 l (fits_at D p u t 1) ih g
        go (some y) f g = one t 0 l (fits_at D p u t 0) ih (f ∙ g)

-- and the answer of the search has n places
pub answers-whole : (D : Constraints) (n : ℕ) (a : Answer ℕ) → EndAsks D.facts n → Answered n a (first_completion D n) → Answers n a (first_whole D n)
unfolding first_whole
answers-whole D n None asks h = record { completion = h.answers.completion ∙ first-whole D n asks; room = tt }
answers-whole D n (Some a) asks h =
    let read : read_answer h.places (Some a) ≡ first_whole D n = h.answers.completion ∙ first-whole D n asks in
    let long = long-by D n [] (up_from 0 n) (up_from 0 n) (codes_of h.places a) (sym read) in
    let all : h.places ≡ n = omega (arith, length-codes h.places a) in
    record { completion = ap (λ (k : ℕ). read_answer k (Some a)) (sym all) ∙ read; room = rw all at h.answers.room }
