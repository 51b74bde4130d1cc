-- `tables::differs` meets its contract. Assumes nothing.
use Rattle.std.proofs.Common.{arith}
use Rattle.std.proofs.lemmas.Grind.{common_steps}
use Rattle.lists.specs.Lists.{◌and◌}
use Rattle.tables.specs.Tables.{clashes}
use Rattle.tables.proofs.differs.Goals as goal

pub returns-then-old-ne0 : goal.returns-then-old-ne0
unfolding clashes ◌and◌
returns-then-old-ne0 c = grind (arith, common_steps)

pub returns-else-old-ne0 : goal.returns-else-old-ne0
unfolding clashes ◌and◌
returns-else-old-ne0 c = grind (arith, common_steps)
