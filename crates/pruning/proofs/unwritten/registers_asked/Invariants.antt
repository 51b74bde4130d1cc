-- `pruning::unwritten::registers_asked` meets its contract: of those passed, reads of registers that nobody writes are right before any writer.
-- Assumes nothing.
use Prim.Native.Nat.{ℕ, ◌<◌}
use Rattle.pruning.proofs.UnwrittenLaws.{SameReads}
use Rattle.pruning.proofs.unwritten.registers_asked.Given as goal

abbrev pub invariant-loop-t : goal.invariant-loop-t
invariant-loop-t l = (k : ℕ) → k < l.t → SameReads l.starts l.facts l.any k
