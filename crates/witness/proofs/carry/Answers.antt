-- `witness::carry` meets its contract: there is room for one place more. Assumes nothing.
use Rattle.std.proofs.Common.{arith}
use Rattle.std.proofs.lemmas.Grind.{common_steps}
use Rattle.witness.specs.Witness.{kept}
use Rattle.witness.proofs.WitnessLaws.{room-more}
use Rattle.witness.proofs.carry.Goals as goal

pub carried-requires-clause-room : goal.carried-requires-clause-room
carried-requires-clause-room c = λ b. room-more c.args.count c.args.order (c.requires.another b) c.requires.room

pub returns : goal.returns
unfolding kept
returns c = grind (arith, common_steps)
