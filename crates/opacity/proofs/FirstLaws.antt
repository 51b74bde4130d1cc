-- Laws of `first` and `every`: none where nothing fails, the lowest number where one passes, and a number that fails where not every one
-- passes.
-- Assumes nothing.
use Prim.Native.Nat.{ℕ, zero, suc, ◌<◌}
use mathlib.Core.Path.{◌≡◌, refl, ap}
use mathlib.Core.Bool.{Bool, true, false, not, cond, true≢false}
use mathlib.Core.Option.{none, some}
use Rattle.lists.specs.Lists.{◌and◌, ◌implies◌, every, first}
use Rattle.lists.proofs.ListLaws.{not-false, First, first-none, none_first, lowest-here}

-- each thing passes where no first one fails, and the other way
pub passes : (p : ℕ → Bool) (n : ℕ) → first (λ k. not (p k)) n ≡ none → (k : ℕ) → k < n → p k ≡ true
passes p n e k l = not-false _ (first-none (λ k. not (p k)) n e k l)

pub none-fails : (p : ℕ → Bool) (n : ℕ) → ((k : ℕ) → k < n → p k ≡ true) → first (λ k. not (p k)) n ≡ none
none-fails p n f = none_first (λ k. not (p k)) n (λ k l. ap not (f k l))

-- the first number that passes is what `first` answers
pub first_found : (p : ℕ → Bool) (n k : ℕ) → First p n k → first p n ≡ some k
unfolding first
first_found p n k f = lowest-here (λ j. cond (p j) (some j) none) n k f.inside (rw f.passes) (λ j l. rw (f.least j l))

-- where not every number passes, one fails
pub every-fails : (p : ℕ → Bool) (n : ℕ) → every p n ≡ false → (k : ℕ) × (p k ≡ false)
unfolding every ◌and◌
every-fails p zero e = absurd (true≢false e)
every-fails p (suc n) e = go (every p n) refl e (every-fails p n)
  where
    go : (b : Bool) → every p n ≡ b → (b and p n) ≡ false → (every p n ≡ false → (k : ℕ) × (p k ≡ false)) → (k : ℕ) × (p k ≡ false)
    go true q f ih = (n, f)
    go false q f ih = ih q

pub implies-false : (a b : Bool) → (a implies b) ≡ false → (a ≡ true) × (b ≡ false)
unfolding ◌implies◌
implies-false true b e = (refl, e)
implies-false false b e = absurd (true≢false e)
