-- `moves_of` meets its contract: the first i events are told.
-- Assumes nothing.
use Rattle.lists.specs.Filled.{Front}
use mathlib.Core.Bool.{false}
use Rattle.rules.specs.Points.{rule_by}
use Rattle.straighten.specs.Tables.{breaks_by}
use Rattle.straighten.proofs.moves.moves_of.Given as goal

abbrev pub invariant-loop-i : goal.invariant-loop-i
invariant-loop-i l = Front false (breaks_by (rule_by l.points)) l.i l.moves
