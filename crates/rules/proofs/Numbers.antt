-- The first number that fails a test, as a program finds it by going upwards; tests that agree.
-- Assumes nothing.
use Prim.Native.Nat.{ℕ, zero, suc, ◌+◌, ◌≤◌, ◌<◌}
use native.Mathlib.Nat.{not-suc-le-zero, le_step, lt-suc_self}
use native.Mathlib.Numerals.{add-one}
use native.Mathlib.Omega.{arith}
use mathlib.Core.Path.{◌≡◌, refl, sym, ap, ◌∙◌}
use mathlib.Core.Logic.{⊎_elim}
use mathlib.Core.Bool.{Bool, true, false, not, cond}
use mathlib.Core.Option.{Option as Found, none, some}
use Rattle.std.specs.Prelude.{Option, Some, None, is_some}
use Rattle.lists.specs.Lists.{◌and◌, or_else, first, lowest, every}
use Rattle.lists.proofs.ListLaws.{clash, not-true, not-false, first-none, every-e, every-i, first_some, none_first, lowest-here, below-cases}
use Rattle.links.specs.Writes.{given}
use Rattle.rules.specs.Orders.{broken}

module _ (p : ℕ → Bool) (n : ℕ) where
  pub broken-at : (i : ℕ) → i < n → ((k : ℕ) → k < i → p k ≡ true) → p i ≡ false → broken p n ≡ Some i
  unfolding broken first
  broken-at i l f q =
      ap given (lowest-here (λ k. cond (not (p k)) (some k) none) n i l
      (ap (λ (b : Bool). cond (not b) (some i) none) q)
      (λ j m. ap (λ (b : Bool). cond (not b) (some j) none) (f j m)))

  pub broken-none : ((k : ℕ) → k < n → p k ≡ true) → broken p n ≡ None
  unfolding broken
  broken-none f = ap given (none_first (λ k. not (p k)) n (λ k l. ap not (f k l)))

  -- what the search said, of the first that fails
  pub none_of : None ≡ broken p n → first (λ k. not (p k)) n ≡ none
  unfolding broken
  none_of e = go (first (λ k. not (p k)) n) e
    where
      go : (o : Found ℕ) → None ≡ given o → o ≡ none
      go none d = refl
      go (some k) d = absurd (cc)

  pub some_of : {c : ℕ} → Some c ≡ broken p n → first (λ k. not (p k)) n ≡ some c
  unfolding broken
  some_of {c} e = go (first (λ k. not (p k)) n) e
    where
      go : (o : Found ℕ) → Some c ≡ given o → o ≡ some c
      go none d = absurd (cc)
      go (some k) d = let z : k ≡ c = cc in ap some z

  pub some-inside : {c : ℕ} → Some c ≡ broken p n → c < n
  some-inside e = (first_some (λ k. not (p k)) n (some_of e)).inside

every-fails : (p : ℕ → Bool) (n k : ℕ) → k < n → p k ≡ false → every p n ≡ false
every-fails p n k l f = go (every p n) refl
  where
    go : (b : Bool) → every p n ≡ b → b ≡ false
    go true e = absurd (clash (every-e p n e k l) f)
    go false e = refl

-- every one passes exactly if none fails
pub every-unbroken : (p : ℕ → Bool) (n : ℕ) {o : Option ℕ} → o ≡ broken p n → {b : Bool} → is_some o ≡ not b → b ≡ every p n
every-unbroken p n {o} e {b} t = go o e b t
  where
    go : (o : Option ℕ) → o ≡ broken p n → (b : Bool) → is_some o ≡ not b → b ≡ every p n
    go None e true t = sym (every-i p n (λ k l. not-false (p k) (first-none (λ j. not (p j)) n (none_of p n e) k l)))
    go None e false t = absurd (cc)
    go (Some c) e true t = absurd (cc)
    go (Some c) e false t = let r = first_some (λ j. not (p j)) n (some_of p n e) in sym (every-fails p n c r.inside (not-true (p c) r.passes))

-- ---- going upwards

-- the numbers below i pass the test, of those below n
pub record Passing (p : ℕ → Bool) (n i : ℕ) : Type 0 where
  pub within : i ≤ n
  pub before : (k : ℕ) → k < i → p k ≡ true

pub passing-first : (p : ℕ → Bool) (n : ℕ) → Passing p n 0
passing-first p n = record { within = omega arith; before = λ k l. absurd (not-suc-le-zero l) }

module _ (p : ℕ → Bool) {n i : ℕ} (w : Passing p n i) where
  -- one more, with what the test said of i
  module _ (l : i < n) {b : Bool} (e : b ≡ p i) where
    pub passing-more : b ≡ true → Passing p n (i + 1)
    passing-more q = record { within = omega arith; before = λ k m. ⊎_elim (λ z. rw z (sym e ∙ q)) (w.before k) (below-cases (rw (add-one i) at m)) }

    pub fails-here : b ≡ false → Some i ≡ broken p n
    fails-here q = sym (broken-at p n i l w.before (sym e ∙ q))

    pub not-every : b ≡ false → false ≡ every p n
    not-every q = sym (every-fails p n i l (sym e ∙ q))

  -- all of them
  module _ (l : n ≤ i) where
    all_pass : (k : ℕ) → k < n → p k ≡ true
    all_pass k m = w.before k (omega arith)

    pub none-fails : None ≡ broken p n
    none-fails = sym (broken-none p n all_pass)

    pub every_one : true ≡ every p n
    every_one = sym (every-i p n all_pass)

-- ---- tests that agree

pub every-ext : (p q : ℕ → Bool) (n : ℕ) → ((k : ℕ) → k < n → p k ≡ q k) → every p n ≡ every q n
unfolding every
every-ext p q zero f = refl
every-ext p q (suc n) f = ap (λ (b : Bool). b and p n) (every-ext p q n (λ k l. f k (le_step l))) ∙ ap (λ (b : Bool). every q n and b) (f n (lt-suc_self n))

lowest-ext : (f g : ℕ → Found ℕ) (n : ℕ) → ((k : ℕ) → k < n → f k ≡ g k) → lowest f n ≡ lowest g n
unfolding lowest
lowest-ext f g zero e = refl
lowest-ext f g (suc n) e = ap (λ (o : Found ℕ). or_else o (f n)) (lowest-ext f g n (λ k l. e k (le_step l))) ∙ ap (λ (o : Found ℕ). or_else (lowest g n) o) (e n (lt-suc_self n))

pub first-ext : (p q : ℕ → Bool) (n : ℕ) → ((k : ℕ) → k < n → p k ≡ q k) → first (λ k. not (p k)) n ≡ first (λ k. not (q k)) n
unfolding first
first-ext p q n f = lowest-ext (λ k. cond (not (p k)) (some k) none) (λ k. cond (not (q k)) (some k) none) n (λ k l. ap (λ (b : Bool). cond (not b) (some k) none) (f k l))
