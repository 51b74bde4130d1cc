-- `pruning::effects::effects_among` meets its contract.
-- Assumes nothing.
use mathlib.Core.Path.{◌≡◌}
use mathlib.Core.List.{[]}
use Prim.Native.Nat.{ℕ, ◌<◌}
use lib.ListN.{length, get_or}
use Rattle.pruning.specs.Runs.{RowEffects}
use Rattle.pruning.proofs.effects.effects_among.Given as goal

abbrev pub invariant-loop-x : goal.invariant-loop-x
invariant-loop-x l = record {
  long : length l.effects ≡ 10;
  at : (k : ℕ) → k < l.x → RowEffects l.constraints.facts.now l.constraints.asked k (get_or l.effects k []);
}
