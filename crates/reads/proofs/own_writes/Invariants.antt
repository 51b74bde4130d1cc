-- `own_writes` meets its contract: one pass, which keeps the last write of each transaction to each register. Assumes nothing.
use Rattle.events.specs.Events.{begins}
use Rattle.reads.proofs.OwnLaws.{Lasts, Owned}
use Rattle.reads.proofs.own_writes.Given as goal

abbrev pub invariant-loop-i : goal.invariant-loop-i
invariant-loop-i l = record {
  table : Lasts l.log (begins l.log) l.last.rows l.i;
  owned : Owned l.log l.own l.i;
}
