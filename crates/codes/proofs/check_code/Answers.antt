-- `codes::check_code` meets its contract.
-- Assumes nothing.
use Rattle.marking.specs.Answer.{said}
use Rattle.codes.proofs.CodeLaws.{known_as, coded-as}
use Rattle.codes.proofs.check_code.Goals as goal

pub verdict_code-requires : goal.verdict_code-requires
unfolding said
verdict_code-requires c = known_as said c.in-Ok.is c.requires

pub unchecked_code-requires : goal.unchecked_code-requires
unchecked_code-requires c = known_as said c.in-Err.is c.requires

pub returns-in-Ok : goal.returns-in-Ok
unfolding said
returns-in-Ok c = coded-as said c.in-Ok.is c.verdict_code.ensures

pub returns-in-Err : goal.returns-in-Err
returns-in-Err c = coded-as said c.in-Err.is c.unchecked_code.ensures
