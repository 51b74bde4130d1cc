-- `codes::lowest_code` meets its contract.
-- Assumes nothing.
use Rattle.finder.specs.Answer.{said}
use Rattle.codes.specs.Codes.{coded, place}
use Rattle.codes.proofs.CodeLaws.{known_as, coded-as}
use Rattle.std.proofs.Common.{Ok}
use Rattle.codes.proofs.lowest_code.Goals as goal

pub pack-requires : goal.pack-requires
unfolding said
pack-requires c = known_as (λ x. said (Ok x)) c.in-Some.is c.requires

pub returns-in-Some : goal.returns-in-Some
unfolding said coded place
returns-in-Some c = coded-as (λ x. said (Ok x)) c.in-Some.is c.pack.ensures

pub returns-in-None : goal.returns-in-None
unfolding said coded
returns-in-None c = coded-as (λ x. said (Ok x)) c.in-None.is c.pack-in-None.ensures
