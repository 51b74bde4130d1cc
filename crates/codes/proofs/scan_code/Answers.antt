-- `codes::scan_code` meets its contract.
-- Assumes nothing.
use Rattle.scan.specs.Answer.{said}
use Rattle.codes.specs.Codes.{coded}
use Rattle.codes.proofs.CodeLaws.{known_as, coded-as}
use Rattle.codes.proofs.scan_code.Goals as goal

pub scanned_code-requires : goal.scanned_code-requires
unfolding said
scanned_code-requires c = known_as said c.in-Ok.is c.requires

pub returns-in-Ok : goal.returns-in-Ok
unfolding said
returns-in-Ok c = coded-as said c.in-Ok.is c.scanned_code.ensures

pub refusal_code-requires : goal.refusal_code-requires
unfolding said
refusal_code-requires c = (known_as said c.in-Err.is c.requires).1

pub returns-in-Err : goal.returns-in-Err
unfolding said coded
returns-in-Err c = coded-as said c.in-Err.is c.refusal_code.ensures
