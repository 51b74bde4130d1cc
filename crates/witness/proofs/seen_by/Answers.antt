-- `witness::seen_by` meets its contract: an own write, or the contents before the place. Assumes nothing.
use Rattle.std.proofs.Common.{arith}
use Rattle.std.proofs.lemmas.Grind.{common_steps}
use Rattle.witness.proofs.WitnessLaws.{seen-own, seen-store}
use Rattle.witness.proofs.seen_by.Goals as goal

pub returns-then-own-ne0 : goal.returns-then-own-ne0
returns-then-own-ne0 c = grind (arith, common_steps, seen-own)

pub returns : goal.returns
returns c = grind (arith, common_steps, seen-store)
