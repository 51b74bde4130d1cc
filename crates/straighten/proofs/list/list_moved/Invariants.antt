-- `list_moved` meets its contract: the moved events below i are listed.
-- Assumes nothing.
use Rattle.marking_writer.proofs.RunLaws.{Put}
use Rattle.straighten.specs.Tables.{listed}
use Rattle.straighten.proofs.list.list_moved.Given as goal

abbrev pub invariant-loop-i : goal.invariant-loop-i
invariant-loop-i l = Put (listed l.moves) l.initial.list 0 l.i l.list l.number
