-- `codes::unchecked_code` meets its contract.
-- Assumes nothing.
use Rattle.marking.specs.Answer.{said}
use Rattle.codes.specs.Codes.{coded}
use Rattle.codes.proofs.CodeLaws.{known_as, coded-as}
use Rattle.std.proofs.Common.{Err}
use Rattle.codes.proofs.unchecked_code.Goals as goal

pub refusal_code-requires : goal.refusal_code-requires
unfolding said
refusal_code-requires c = (known_as (λ x. said (Err x)) c.in-HistoryRefused.is c.requires).1

pub refusal_code-requires-in-MarkingRefused : goal.refusal_code-requires-in-MarkingRefused
unfolding said
refusal_code-requires-in-MarkingRefused c = (known_as (λ x. said (Err x)) c.in-MarkingRefused.is c.requires).1

pub returns-in-HistoryRefused : goal.returns-in-HistoryRefused
unfolding said coded
returns-in-HistoryRefused c = coded-as (λ x. said (Err x)) c.in-HistoryRefused.is c.refusal_code.ensures

pub returns-in-MarkingRefused : goal.returns-in-MarkingRefused
unfolding said coded
returns-in-MarkingRefused c = coded-as (λ x. said (Err x)) c.in-MarkingRefused.is c.refusal_code-in-MarkingRefused.ensures
