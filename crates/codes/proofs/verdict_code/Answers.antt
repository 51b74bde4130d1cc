-- `codes::verdict_code` meets its contract.
-- Assumes nothing.
use Rattle.marking.specs.Answer.{verdict_said}
use Rattle.codes.specs.Codes.{coded, place}
use Rattle.codes.proofs.CodeLaws.{coded-as}
use Rattle.codes.proofs.verdict_code.Goals as goal

pub returns-in-Accepted : goal.returns-in-Accepted
unfolding coded place
returns-in-Accepted c = coded-as verdict_said c.in-Accepted.is c.pack.ensures
