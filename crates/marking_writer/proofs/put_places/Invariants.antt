-- `marking_writer::put_places` meets its contract: the iterators have the places that are left.
-- Assumes nothing.
use Prim.Native.Nat.{◌+◌, ◌*◌}
use mathlib.Core.Path.{◌≡◌}
use lib.ListN.{drop}
use Rattle.marking_writer.proofs.RunLaws.{Put}
use Rattle.marking_writer.proofs.WholeLaws.{places_to}
use Rattle.marking_writer.proofs.put_places.Given as goal

abbrev pub invariant-loop-k : goal.invariant-loop-k
invariant-loop-k l = record {
  left : l.k-iterator.count + l.k-iterator.iter.n ≡ l.begun;
  transactions : l.k-iterator.iter.iter.a.rest.now ≡ drop l.k-iterator.count l.order;
  outcomes : l.k-iterator.iter.iter.b.rest.now ≡ drop l.k-iterator.count l.outcomes;
  put : Put (places_to l.order l.outcomes) l.initial.out 6 l.k-iterator.count l.out (6 + 8 * l.k-iterator.count);
}
