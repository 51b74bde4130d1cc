-- `codes::unstraightened_code` meets its contract.
-- Assumes nothing.
use Rattle.std.proofs.Common.{Err}
use Rattle.straighten.specs.Answer.{said}
use Rattle.codes.specs.Codes.{coded}
use Rattle.codes.proofs.CodeLaws.{known_as, coded-as}
use Rattle.codes.proofs.unstraightened_code.Goals as goal

pub broken_code-requires : goal.broken_code-requires
unfolding said
broken_code-requires c = (known_as (λ x. said (Err x)) c.in-Broken.is c.requires).1

pub refusal_code-requires : goal.refusal_code-requires
unfolding said
refusal_code-requires c = (known_as (λ x. said (Err x)) c.in-Refused.is c.requires).1

pub refusal_code-requires-in-MarkingRefused : goal.refusal_code-requires-in-MarkingRefused
unfolding said
refusal_code-requires-in-MarkingRefused c = (known_as (λ x. said (Err x)) c.in-MarkingRefused.is c.requires).1

pub returns-in-Broken : goal.returns-in-Broken
unfolding said
returns-in-Broken c = coded-as (λ x. said (Err x)) c.in-Broken.is c.broken_code.ensures

pub returns-in-Refused : goal.returns-in-Refused
unfolding said coded
returns-in-Refused c = coded-as (λ x. said (Err x)) c.in-Refused.is c.refusal_code.ensures

pub returns-in-MarkingRefused : goal.returns-in-MarkingRefused
unfolding said coded
returns-in-MarkingRefused c = coded-as (λ x. said (Err x)) c.in-MarkingRefused.is c.refusal_code-in-MarkingRefused.ensures
