-- `last_event` meets its contract: the last one of the first i events.
-- Assumes nothing.
use mathlib.Core.Path.{◌≡◌}
use Rattle.rules.proofs.EventLaws.{last_of}
use Rattle.rules.proofs.judge.last_event.Given as goal

abbrev pub invariant-loop-i : goal.invariant-loop-i
invariant-loop-i l = l.last ≡ last_of l.log l.t l.i
