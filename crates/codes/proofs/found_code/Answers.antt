-- `codes::found_code` meets its contract.
-- Assumes nothing.
use Rattle.finder.specs.Answer.{said}
use Rattle.codes.specs.Codes.{coded}
use Rattle.codes.proofs.CodeLaws.{known_as, coded-as}
use Rattle.codes.proofs.found_code.Goals as goal

pub lowest_code-requires : goal.lowest_code-requires
lowest_code-requires c = known_as said c.in-Ok.is c.requires

pub returns-in-Ok : goal.returns-in-Ok
returns-in-Ok c = coded-as said c.in-Ok.is c.lowest_code.ensures

pub refusal_code-requires : goal.refusal_code-requires
unfolding said
refusal_code-requires c = (known_as said c.in-Err.is c.requires).1

pub returns-in-Err : goal.returns-in-Err
unfolding said coded
returns-in-Err c = coded-as said c.in-Err.is c.refusal_code.ensures
