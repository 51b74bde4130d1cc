-- `codes::join` meets its contract.
-- Assumes nothing.
use mathlib.Core.Path.{refl}
use native.Mathlib.Omega.{arith}
use Rattle.codes.specs.Codes.{halves}
use Rattle.codes.proofs.join.Goals as goal

pub returns : goal.returns
unfolding halves
returns c = (refl, omega arith)
