-- `tables::reads_store` meets its contract. Assumes nothing.
use Rattle.std.proofs.Common.{arith}
use Rattle.std.proofs.lemmas.Grind.{common_steps}
use Rattle.lists.specs.Lists.{◌and◌}
use Rattle.tables.specs.Tables.{reads_store}
use Rattle.tables.proofs.reads_store.Goals as goal

pub returns-then-is_read : goal.returns-then-is_read
unfolding reads_store ◌and◌
returns-then-is_read c = grind (arith, common_steps)

pub returns-else-is_read : goal.returns-else-is_read
unfolding reads_store ◌and◌
returns-else-is_read c = grind (arith, common_steps)
