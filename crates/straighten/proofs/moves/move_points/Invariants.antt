-- `move_points` meets its contract: the points of the first i events are moved, and the others are where they were.
-- Assumes nothing.
use Prim.Native.Nat.{ℕ, ◌≤◌}
use mathlib.Core.Path.{◌≡◌}
use lib.ListN.{get_or}
use Rattle.lists.specs.Filled.{Front}
use Rattle.straighten.specs.Tables.{gap_by}
use Rattle.straighten.proofs.moves.move_points.Given as goal

abbrev pub invariant-loop-i : goal.invariant-loop-i
invariant-loop-i l =
    record {
      moved : Front 0 (gap_by l.log l.place l.moves l.initial.gaps) l.i l.gaps;
      rest : (k : ℕ) → l.i ≤ k → get_or l.gaps k 0 ≡ get_or l.initial.gaps k 0;
    }
