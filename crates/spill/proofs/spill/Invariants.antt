-- `spill` meets its contract: the first i events of the log stand in the columns. Assumes nothing.
use Rattle.event_log.specs.Columns.{columns}
use Rattle.spill.proofs.SpillLaws.{Spilling}
use Rattle.spill.proofs.spill.Given as goal

abbrev pub invariant-loop-i : goal.invariant-loop-i
invariant-loop-i l = Spilling l.log (columns l.initial.kinds l.initial.transactions l.initial.registers l.initial.values l.initial.threads)
    (columns l.kinds l.transactions l.registers l.values l.threads) l.i
