-- How many of the numbers below n pass a test: what one number more adds, and what changes if the test changes at one of them.
-- Assumes nothing.
use Prim.Native.Nat.{ℕ, zero, suc, ◌+◌, ◌≤◌, ◌<◌}
use native.Mathlib.Nat.{not-suc-le-zero}
use native.Mathlib.Numerals.{add-one}
use native.Mathlib.Omega.{arith}
use mathlib.Core.Path.{◌≡◌, refl, sym, ap, ◌∙◌}
use mathlib.Core.Logic.{⊎_elim}
use mathlib.Core.Bool.{Bool, true, false}
use mathlib.Core.List.{List, [], ◌∷◌, ◌++◌}
use lib.ListN.{length, length-append}
use Rattle.lists.specs.Lists.{push, keep, range}
use Rattle.lists.proofs.ListLaws.{keep_append, keep-length, range_length, keep_same, keep-none, below-cases}
use Rattle.opacity.specs.Counts.{one}

-- of a list: one element more
pub kept-snoc : {A : Type 0} (p : A → Bool) (xs : List A) (x : A) → length (keep p (xs ++ (x ∷ []))) ≡ length (keep p xs) + one (p x)
unfolding keep
kept-snoc p xs x =
    ap length (keep_append p xs (x ∷ []))
    ∙ (length-append (keep p xs) (push (p x) x []) ∙ ap (λ (k : ℕ). length (keep p xs) + k) (go (p x)))
  where
    go : (b : Bool) → length (push b x []) ≡ one b
    go true = refl
    go false = refl

abbrev pub how_many : (ℕ → Bool) → ℕ → ℕ
how_many p n = length (keep p (range n))

module _ (p : ℕ → Bool) where
  pub how-many-suc : (n : ℕ) → how_many p (suc n) ≡ how_many p n + one (p n)
  unfolding range
  how-many-suc n = kept-snoc p (range n) n

  -- as the code counts
  pub how-many-more : (n : ℕ) → how_many p (n + 1) ≡ how_many p n + one (p n)
  how-many-more n = ap (how_many p) (add-one n) ∙ how-many-suc n

  pub how-many-low : (n : ℕ) → how_many p n ≤ n
  how-many-low n = omega (arith, keep-length p (range n), range_length n)

  pub how-many-none : (n : ℕ) → ((t : ℕ) → t < n → p t ≡ false) → how_many p n ≡ 0
  how-many-none n e = ap length (keep-none p n e)

  pub how-many-there : (t n : ℕ) → t < n → p t ≡ true → 1 ≤ how_many p n
  how-many-there t zero l q = absurd (not-suc-le-zero l)
  how-many-there t (suc n) l q =
      ⊎_elim
      (λ e. let here : one (p n) ≡ 1 = ap (λ (u : ℕ). one (p u)) (sym e) ∙ ap one q in omega (arith, how-many-suc n))
      (λ m. omega (arith, how-many-suc n, how-many-there t n m q))
      (below-cases l)

module _ (p q : ℕ → Bool) where
  pub how-many-same : (n : ℕ) → ((t : ℕ) → t < n → p t ≡ q t) → how_many p n ≡ how_many q n
  how-many-same n e = ap length (keep_same p q n e)

  -- another test that differs at t alone
  pub how-many-moved : (t : ℕ) → ((u : ℕ) → (t ≡ u → ⊥) → p u ≡ q u) → (n : ℕ) → t < n → how_many q n + one (p t) ≡ how_many p n + one (q t)
  how-many-moved t same zero l = absurd (not-suc-le-zero l)
  how-many-moved t same (suc n) l =
      ⊎_elim
      (λ e.
      let others = how-many-same n (λ u m. same u (λ z. omega arith)) in
      let x : one (p n) ≡ one (p t) = ap (λ (u : ℕ). one (p u)) (sym e) in
      let y : one (q n) ≡ one (q t) = ap (λ (u : ℕ). one (q u)) (sym e) in
      omega (arith, how-many-suc p n, how-many-suc q n))
      (λ m.
      let here : one (p n) ≡ one (q n) = ap one (same n (λ z. omega arith)) in
      omega (arith, how-many-suc p n, how-many-suc q n, how-many-moved t same n m))
      (below-cases l)
