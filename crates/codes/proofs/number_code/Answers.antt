-- `codes::number_code` meets its contract.
-- Assumes nothing.
use Rattle.counts.specs.Answer.{count_said}
use Rattle.codes.specs.Codes.{coded, place}
use Rattle.codes.proofs.CodeLaws.{known_as, coded-as}
use Rattle.codes.proofs.number_code.Goals as goal

pub pack-requires : goal.pack-requires
unfolding count_said
pack-requires c = known_as count_said c.in-Ok.is c.requires

pub returns-in-Ok : goal.returns-in-Ok
unfolding count_said coded place
returns-in-Ok c = coded-as count_said c.in-Ok.is c.pack.ensures

pub refusal_code-requires : goal.refusal_code-requires
unfolding count_said
refusal_code-requires c = (known_as count_said c.in-Err.is c.requires).1

pub returns-in-Err : goal.returns-in-Err
unfolding count_said coded
returns-in-Err c = coded-as count_said c.in-Err.is c.refusal_code.ensures
