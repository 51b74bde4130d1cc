-- The proof of the cycle of calls {still_needed}. The measure is the set of what is needed: each call has one member less.
-- Assumes nothing.
use mathlib.Core.Path.{◌≡◌}
use mathlib.Core.Bool.{false}
use Prim.Native.Nat.{ℕ}
use lib.Bits.{bit_and}
use Rattle.places.proofs.SetLaws.{Walked}
use Rattle.pruning.specs.Runs.{other_than}
use Rattle.pruning.proofs.hope.+still_needed.Given as goal

-- those passed may not be passed over
abbrev pub invariant-loop-t : goal.invariant-loop-t
invariant-loop-t l = Walked (λ (k : ℕ). other_than l.facts l.need k 1 ≡ false) (bit_and l.need l.ready) l.t-iterator.left

-- the set of what is needed: each call has one member less
abbrev pub decreases-still_needed : goal.decreases-still_needed
decreases-still_needed l = l.need
