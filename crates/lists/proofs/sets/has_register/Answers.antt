-- `lists::sets::has_register` meets its contract: the digit is what is left of the shifted set.
-- Assumes nothing.
use mathlib.Core.Path.{sym, ap}
use Prim.Native.Nat.{ℕ}
use lib.Dec.{eqb}
use Rattle.lists.proofs.BitLaws.{bit-digit}
use Rattle.lists.proofs.sets.has_register.Goals as goal

pub returns : goal.returns
returns c = ap (λ (d : ℕ). eqb d 1) (sym (bit-digit c.args.r c.args.set))
