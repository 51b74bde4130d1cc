-- `witness::justifies` meets its contract: by the tests. Assumes nothing.
use Rattle.std.proofs.Common.{arith}
use Rattle.std.proofs.lemmas.Grind.{common_steps}
use Rattle.lists.specs.Lists.{◌implies◌, ◌or◌}
use Rattle.events.specs.Events.{is_end}
use Rattle.opacity.specs.Carry.{carries}
use Rattle.places.proofs.PlaceLaws.{ordered-coded}
use Rattle.witness.proofs.justifies.Goals as goal

pub content-requires-clause-coded : goal.content-requires-clause-coded
content-requires-clause-coded c = ordered-coded c.args.count c.args.order c.requires.ordered

pub returns-then-not-is_read : goal.returns-then-not-is_read
unfolding carries ◌implies◌
returns-then-not-is_read c = grind (arith, common_steps)

pub returns-else-not-is_read : goal.returns-else-not-is_read
unfolding carries ◌implies◌
returns-else-not-is_read c = grind (arith, common_steps)

pub returns-then-is_read : goal.returns-then-is_read
unfolding carries
returns-then-is_read c = grind (arith, common_steps)

pub returns-then-not-is_end : goal.returns-then-not-is_end
unfolding carries is_end ◌or◌
returns-then-not-is_end c = grind (arith, common_steps)

pub returns-else-not-is_end : goal.returns-else-not-is_end
unfolding carries is_end ◌or◌
returns-else-not-is_end c = grind (arith, common_steps)
