-- `codes::tally_code` meets its contract.
-- Assumes nothing.
use mathlib.Core.Path.{ap, ◌∙◌}
use Rattle.counts.specs.Answer.{tally_said}
use Rattle.codes.specs.Codes.{packed, coded, place}
use Rattle.codes.proofs.CodeLaws.{known_as, coded-as}
use Rattle.codes.proofs.tally_code.Goals as goal

pub tally_place-requires : goal.tally_place-requires
unfolding tally_said
tally_place-requires c = known_as tally_said c.in-Ok.is c.requires

pub returns-in-Ok : goal.returns-in-Ok
unfolding tally_said coded place
returns-in-Ok c = coded-as tally_said c.in-Ok.is (c.pack.ensures ∙ ap (packed 0) c.tally_place.ensures.0)

pub refusal_code-requires : goal.refusal_code-requires
unfolding tally_said
refusal_code-requires c = (known_as tally_said c.in-Err.is c.requires).1

pub returns-in-Err : goal.returns-in-Err
unfolding tally_said coded
returns-in-Err c = coded-as tally_said c.in-Err.is c.refusal_code.ensures
