-- `count_by` meets its contract: a read counts by what stands at its slot before it. Assumes nothing.
use mathlib.Core.Path.{◌≡◌}
use lib.ListN.{length}
use Rattle.lists.specs.Lists.{keep, range}
use Rattle.events.specs.Events.{begins}
use Rattle.opacity.specs.Transactions.{is_store_read}
use Rattle.reads.proofs.OwnLaws.{Lasts}
use Rattle.reads.proofs.count_by.Given as goal

abbrev pub invariant-loop-i : goal.invariant-loop-i
invariant-loop-i g l = record {
  table : Lasts l.log (begins l.log) l.last.rows l.i;
  counted : l.reads ≡ length (keep (is_store_read l.log) (range l.i));
}
