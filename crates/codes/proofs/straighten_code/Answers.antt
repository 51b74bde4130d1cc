-- `codes::straighten_code` meets its contract.
-- Assumes nothing.
use mathlib.Core.Path.{ap, ◌∙◌}
use Rattle.straighten.specs.Answer.{said}
use Rattle.codes.specs.Codes.{packed, coded, place}
use Rattle.codes.proofs.CodeLaws.{known_as, coded-as}
use Rattle.codes.proofs.straighten_code.Goals as goal

pub join-requires : goal.join-requires
unfolding said
join-requires c = known_as said c.in-Ok.is c.requires

pub unstraightened_code-requires : goal.unstraightened_code-requires
unstraightened_code-requires c = known_as said c.in-Err.is c.requires

pub returns-in-Ok : goal.returns-in-Ok
unfolding said coded place
returns-in-Ok c = coded-as said c.in-Ok.is (c.pack.ensures ∙ ap (packed 0) c.join.ensures.0)

pub returns-in-Err : goal.returns-in-Err
returns-in-Err c = coded-as said c.in-Err.is c.unstraightened_code.ensures
