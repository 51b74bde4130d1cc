-- `put_gaps` meets its contract: an event's gap goes by what stands at its slot before it. Assumes nothing.
use Rattle.lists.specs.Filled.{Front}
use Rattle.events.specs.Events.{begins}
use Rattle.reads.specs.Own.{placed_at}
use Rattle.reads.proofs.OwnLaws.{Lasts}
use Rattle.reads.proofs.put_gaps.Given as goal

abbrev pub invariant-loop-i : goal.invariant-loop-i
invariant-loop-i g l = record {
  table : Lasts l.log (begins l.log) l.last.rows l.i;
  placed : Front 0 (placed_at l.log l.place) l.i l.gaps;
}
