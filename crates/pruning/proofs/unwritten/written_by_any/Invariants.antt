-- `pruning::unwritten::written_by_any` meets its contract.
-- Assumes nothing.
use mathlib.Core.Path.{◌≡◌}
use Prim.Native.Nat.{ℕ, ◌<◌}
use mathlib.Core.List.{List}
use lib.ListN.{get_or}
use Rattle.lists.specs.Bits.{bit_at}
use Rattle.pruning.proofs.unwritten.written_by_any.Given as goal

-- any has what those below t write
abbrev pub Has : List ℕ → ℕ → ℕ → Type 0
Has writes any t = (k r : ℕ) → k < t → bit_at r (get_or writes k 0) ≡ 1 → bit_at r any ≡ 1

abbrev pub invariant-loop-registers : goal.invariant-loop-registers
invariant-loop-registers l = Has l.writes l.any l.registers-index
