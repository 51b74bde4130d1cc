-- `pruning::effects::registers_written` meets its contract.
-- Assumes nothing.
use mathlib.Core.Path.{◌≡◌}
use Prim.Native.Nat.{ℕ, ◌<◌}
use lib.ListN.{length, get_or}
use Rattle.pruning.specs.Runs.{Writes}
use Rattle.pruning.proofs.effects.registers_written.Given as goal

abbrev pub invariant-loop-t : goal.invariant-loop-t
invariant-loop-t l = record {
  long : length l.registers ≡ 10;
  at : (k : ℕ) → k < l.t → Writes l.facts k (get_or l.registers k 0);
}
