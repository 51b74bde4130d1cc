-- `read_marking` meets its contract: what has been read stands in the arrays, and what is left gives the answer.
-- Assumes nothing.
use Prim.Native.Nat.{◌-◌}
use mathlib.Core.Path.{◌≡◌}
use lib.ListN.{length}
use Rattle.marking_reader.specs.File.{known}
use Rattle.marking_reader.specs.State.{so_far, Sound}
use Rattle.marking_reader.proofs.WalkLaws.{Reached}
use Rattle.marking_reader.proofs.read.read_marking.Given as goal

abbrev pub invariant-loop-transaction : goal.invariant-loop-transaction
invariant-loop-transaction l = record {
  reached : Reached (known l.marked.log.now) l.file l.progress.at (so_far l.order l.outcomes l.progress.filled l.gaps l.progress.next);
  sound : Sound l.marked.log.now l.order l.outcomes l.progress.used l.progress.filled l.gaps l.progress.next;
  gaps_size : length l.gaps ≡ length l.initial.gaps;
}

abbrev pub decreases-loop-transaction : goal.decreases-loop-transaction
decreases-loop-transaction l = length l.file - l.progress.at
