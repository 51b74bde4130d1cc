-- `marking_writer::put_points` meets its contract.
-- Assumes nothing.
use Rattle.marking_writer.proofs.RunLaws.{Put}
use Rattle.marking_writer.specs.Whole.{points_in}
use Rattle.marking_writer.proofs.put_points.Given as goal

abbrev pub invariant-loop-i : goal.invariant-loop-i
invariant-loop-i l = Put (points_in l.gaps) l.initial.out l.from l.i l.out l.at
