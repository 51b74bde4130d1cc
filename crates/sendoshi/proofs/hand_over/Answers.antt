-- `sendoshi::hand_over` meets its contract.
use Rattle.sendoshi.specs.Calls.{starts_after}
use Rattle.std.proofs.Common.{arith}
use Rattle.std.proofs.lemmas.Grind.{common_steps}
use Rattle.sendoshi.proofs.hand_over.Goals as goal

pub returns-in-Ok : goal.returns-in-Ok
unfolding starts_after
returns-in-Ok c = grind (arith, common_steps)

pub returns-in_default : goal.returns-in_default
unfolding starts_after
returns-in_default c = grind (arith, common_steps)
