-- `codes::pack` meets its contract.
-- Assumes nothing.
use mathlib.Core.Path.{ap}
use Rattle.codes.specs.Codes.{packed}
use Prim.Native.Nat.{ℕ, ◌+◌, ◌*◌}
use Rattle.codes.proofs.pack.Goals as goal

pub returns : goal.returns
unfolding packed
returns c = ap (λ (n : ℕ). n * 4294967296 + c.args.place) c.from.ensures
