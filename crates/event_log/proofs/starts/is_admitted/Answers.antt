-- `is_admitted` meets its contract. Assumes nothing.
use Rattle.std.proofs.Common.{arith}
use Rattle.std.proofs.lemmas.Grind.{common_steps}
use Rattle.lists.specs.Lists.{◌and◌, ◌or◌}
use Rattle.event_log.specs.Starts.{admits}
use Rattle.event_log.proofs.starts.is_admitted.Goals as goal

pub returns-in-2 : goal.returns-in-2
unfolding admits ◌and◌ ◌or◌
returns-in-2 c = grind (arith, common_steps)

pub returns-in-1 : goal.returns-in-1
unfolding admits ◌and◌ ◌or◌
returns-in-1 c = grind (arith, common_steps)

pub returns-in_default : goal.returns-in_default
unfolding admits ◌and◌ ◌or◌
returns-in_default c = grind (arith, common_steps)
