-- `pruning::effects::effect` meets its contract: if nothing is noted no read of the registers passed is touched, and if a register is one is spoilt.
-- Assumes nothing.
use mathlib.Core.Path.{◌≡◌}
use mathlib.Core.List.{List, [], ◌∷◌, ◌++◌}
use mathlib.Core.Bool.{true}
use Prim.Native.Nat.{ℕ, ◌+◌, ◌*◌, ◌%◌, ◌<◌}
use lib.Bits.{bit_and}
use Rattle.lists.specs.Bits.{bit_at}
use Rattle.places.specs.Facts.{reads_asked}
use Rattle.places.specs.Tree.{legal_at}
use Rattle.places.proofs.SetLaws.{Walked}
use Rattle.pruning.proofs.effects.effect.Given as goal

-- the read of k was legal before, if it is
abbrev pub Same : List (List ℕ) → ℕ → ℕ → ℕ → Type 0
Same facts x t k =
    (o p : List ℕ) → legal_at o facts (p ++ ((x * 2 + 1) ∷ [])) t k ≡ true → legal_at o facts p t k ≡ true

-- nor is it after the commit of x
abbrev pub Never : List (List ℕ) → ℕ → ℕ → ℕ → Type 0
Never facts x t k = (o p : List ℕ) → legal_at o facts (p ++ ((x * 2 + 1) ∷ [])) t k ≡ true → ⊥

-- one of the set is not
pub record Spoilt (facts : List (List ℕ)) (x t set : ℕ) : Type 0 where
  pub register : ℕ
  pub low : register < 32
  pub is_in : bit_at register set ≡ 1
  pub never : Never facts x t register

abbrev pub invariant-loop-r : goal.invariant-loop-r
invariant-loop-r l =
    let f = l.constraints.facts.now in
    let set = bit_and (reads_asked f l.constraints.asked l.t) l.writes in
    record {
      walk : Walked (λ (k : ℕ). l.done ≡ 0 → Same f l.x l.t k) set l.r-iterator.left;
      spoilt : (l.done % 4294967296 ≡ 0 → ⊥) → Spoilt f l.x l.t set;
    }
