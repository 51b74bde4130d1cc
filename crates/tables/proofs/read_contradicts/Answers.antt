-- `tables::read_contradicts` meets its contract. Assumes nothing.
use Rattle.std.proofs.Common.{arith}
use Rattle.std.proofs.lemmas.Grind.{common_steps}
use Rattle.lists.specs.Lists.{◌and◌}
use Rattle.tables.specs.Tables.{contradicts}
use Rattle.tables.proofs.read_contradicts.Goals as goal

pub returns-then-is_read : goal.returns-then-is_read
unfolding contradicts ◌and◌
returns-then-is_read c = grind (arith, common_steps)

pub returns-else-is_read : goal.returns-else-is_read
unfolding contradicts ◌and◌
returns-else-is_read c = grind (arith, common_steps)
