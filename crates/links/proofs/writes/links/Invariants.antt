-- `links` meets its contract: after i events their links are written, and the slots hold the last write of each transaction.
-- Assumes nothing.
use Rattle.std.specs.Prelude.{None}
use Rattle.links.specs.Tables.{write_noted, Slots}
use Rattle.links.specs.Writes.{Links}
use Rattle.links.proofs.writes.links.Given as goal

abbrev pub invariant-loop-i : goal.invariant-loop-i
invariant-loop-i l = record { last : Slots None write_noted l.log l.i l.last; linked : Links l.log l.i l.link }
