-- `pruning::effects::sourced` meets its contract: those passed are no sources.
-- Assumes nothing.
use Prim.Native.Nat.{ℕ}
use Rattle.places.proofs.SetLaws.{Walked}
use Rattle.pruning.specs.Runs.{NoSource}
use Rattle.pruning.proofs.effects.sourced.Given as goal

abbrev pub invariant-loop-w : goal.invariant-loop-w
invariant-loop-w l = Walked (λ (k : ℕ). NoSource l.facts l.t l.register l.value k) l.set l.w-iterator.left
