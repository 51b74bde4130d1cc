-- `pruning::effects::effects_of` meets its contract.
-- Assumes nothing.
use mathlib.Core.Path.{◌≡◌}
use mathlib.Core.List.{List}
use Prim.Native.Nat.{ℕ, ◌<◌}
use lib.ListN.{length, get_or}
use Rattle.places.specs.Tree.{asking, legal_reads}
use Rattle.pruning.specs.Runs.{Effect}
use Rattle.pruning.proofs.effects.effects_of.Given as goal

-- e is what the commit of x does to the reads of t
abbrev pub Entry : List (List ℕ) → ℕ → ℕ → ℕ → ℕ → Type 0
Entry facts asked x t e = Effect (λ (o p : List ℕ). legal_reads (asking o facts asked) p t) x e

abbrev pub invariant-loop-t : goal.invariant-loop-t
invariant-loop-t l = record {
  long : length l.effects ≡ 10;
  at : (k : ℕ) → k < l.t → Entry l.constraints.facts.now l.constraints.asked l.x k (get_or l.effects k 0);
}
