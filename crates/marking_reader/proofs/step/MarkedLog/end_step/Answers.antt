-- `end_step` meets its contract: 28, and then 29.
-- Assumes nothing.
use mathlib.Core.Path.{◌≡◌, refl, ◌∙◌}
use Rattle.std.proofs.Common.{rules, Err}
use Rattle.marking_reader.specs.File.{end_questions, end_step}
use Rattle.marking_reader.proofs.StepLaws.{asked-on, asked-first, asked-last, gives, refuses}
use Rattle.marking_reader.proofs.step.MarkedLog.end_step.Goals as goal

pub returns-in_err-ask : goal.returns-in_err-ask
unfolding end_step end_questions
returns-in_err-ask c =
    let e : c.from_residual.result ≡ Err c.in_err-ask.field-0.0 = search rules in
    e ∙ refuses _ _ _ (asked-first _ _ _ refl c.in_err-ask.ensures)

pub returns-in_err-ask-2 : goal.returns-in_err-ask-2
unfolding end_step end_questions
returns-in_err-ask-2 c =
    let e : c.from_residual-in_err-ask-2.result ≡ Err c.in_err-ask-2.field-0.0 = search rules in
    e ∙ refuses _ _ _ (asked-first _ _ _ c.every_pointed.ensures c.in_err-ask-2.ensures ∙ asked-on _ _ _ refl c.in_ok-ask.ensures)

pub returns : goal.returns
unfolding end_step end_questions
returns c =
    gives _ _ _
    (c.in_ok-ask-2.ensures {u = tt} ∙ (asked-last _ _ c.every_pointed.ensures ∙ asked-on _ _ _ refl c.in_ok-ask.ensures))
