-- `pruning::unwritten::written_by_any` meets its contract.
-- Assumes nothing.
use borrow.Author.Tests.{eqb-true, eqb-false}
use mathlib.Core.Path.{◌≡◌, refl}
use mathlib.Core.Bool.{Bool, true, false}
use Prim.Native.Nat.{ℕ, ◌+◌}
use native.Mathlib.Omega.{arith}
use mathlib.Core.List.{List}
use lib.ListN.{get_or}
use lib.Bits.{bit_or}
use lib.Dec.{eqb}
use Rattle.lists.specs.Bits.{bit_at}
use Rattle.lists.proofs.BitLaws.{member-or-l, member-or-r}
use Rattle.pruning.proofs.unwritten.written_by_any.Goals as goal
use Rattle.pruning.proofs.unwritten.written_by_any.Invariants.{Has}

one_more : (writes : List ℕ) (any t : ℕ) → Has writes any t → Has writes (bit_or any (get_or writes t 0)) (t + 1)
one_more writes any t has k r l h = go (eqb k t) refl
  where
    go : (b : Bool) → eqb k t ≡ b → bit_at r (bit_or any (get_or writes t 0)) ≡ 1
    go true e = let q : k ≡ t = eqb-true _ _ e in member-or-r r any (get_or writes t 0) (rw q at h)
    go false e = let n : k ≡ t → ⊥ = eqb-false _ _ e in member-or-l r any (get_or writes t 0) (has k r (omega arith) h)

pub loop-registers-preserved : goal.loop-registers-preserved
loop-registers-preserved c = one_more c.args.writes.now c.loop-registers.any c.loop-registers.registers-index c.loop-registers.invariant

pub returns : goal.returns
returns c = record { has = λ t r l h. c.loop-registers.invariant t r (omega arith) h }
