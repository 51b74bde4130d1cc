-- `places::sets::has` meets its contract.
-- Assumes nothing.
use mathlib.Core.Path.{sym, ap}
use Prim.Native.Nat.{ℕ}
use lib.Dec.{eqb}
use Rattle.lists.proofs.BitLaws.{bit-digit}
use Rattle.places.proofs.sets.has.Goals as goal

pub returns : goal.returns
returns c = ap (λ (d : ℕ). eqb d 1) (sym (bit-digit c.args.t c.args.set))
