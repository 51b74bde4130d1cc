-- `begin_of` meets its contract: none of the first i events begins the transaction.
-- Assumes nothing.
use Rattle.std.proofs.Common.{◌≡◌, ℕ, ◌<◌, false}
use Rattle.events.specs.Events.{event_at, is_begin, by}
use Rattle.rules.proofs.judge.begin_of.Given as goal

abbrev pub invariant-loop-i : goal.invariant-loop-i
invariant-loop-i l = (k : ℕ) → k < l.i → by is_begin l.t (event_at l.log k) ≡ false
