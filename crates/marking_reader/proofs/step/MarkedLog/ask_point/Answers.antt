-- `ask_point` meets its contract: the first of three questions that says no.
-- Assumes nothing.
use native.Mathlib.Omega.{arith}
use mathlib.Core.Path.{◌≡◌, ap, ◌∙◌}
use lib.Dec.{eqb, leb}
use Rattle.std.proofs.Common.{rules, Err}
use Rattle.std.proofs.lemmas.Grind.{common_steps}
use Rattle.lists.specs.Lists.{◌and◌, ◌implies◌}
use Rattle.opacity.specs.Transactions.{is_store_read}
use Rattle.marking_reader.specs.State.{point_questions}
use Rattle.marking_reader.proofs.AskingLaws.{none-past}
use Rattle.marking_reader.proofs.StepLaws.{asked-on, asked-first, asked-last}
use Rattle.marking_reader.proofs.step.MarkedLog.ask_point.Goals as goal
use Rattle.marking_reader.proofs.step.MarkedLog.ask_point.Goals.{After-ask, After-ask-2}

due : (c : After-ask) → c.if-progress-ne0.is_due
    ≡ (eqb c.args.progress.now.next 0 implies eqb c.args.progress.now.filled c.args.self.now.begun)
unfolding ◌implies◌
due c = grind (arith, common_steps)

-- past the end of the log nothing is a store read
next : (c : After-ask-2) → c.if-event-self.is_next
    ≡ (leb c.args.progress.now.next c.args.event and is_store_read c.args.self.now.log.now c.args.event)
unfolding ◌and◌
next c = let none = none-past c.args.self.now.asking c.args.event in grind (arith, common_steps)

pub returns-in_err-ask : goal.returns-in_err-ask
unfolding point_questions
returns-in_err-ask c =
    let e : c.from_residual.result ≡ Err c.in_err-ask.field-0.0 = search rules in
    e ∙ asked-first _ _ _ (due (goal.at.returns-in_err-ask c).After-ask) c.in_err-ask.ensures

pub returns-in_err-ask-2 : goal.returns-in_err-ask-2
unfolding point_questions
returns-in_err-ask-2 c =
    let e : c.from_residual-in_err-ask-2.result ≡ Err c.in_err-ask-2.field-0.0 = search rules in
    e ∙ (asked-first _ _ _ (next (goal.at.returns-in_err-ask-2 c).After-ask-2) c.in_err-ask-2.ensures
    ∙ asked-on _ _ _ (due (goal.at.returns-in_err-ask-2 c).After-ask) c.in_ok-ask.ensures)

pub returns : goal.returns
unfolding point_questions
returns c =
    c.ask-3.ensures
    ∙ (asked-last _ _ (ap (λ (g : _). leb g c.args.self.now.begun) c.from.ensures)
    ∙ (asked-on _ _ _ (next (goal.at.returns c).After-ask-2) c.in_ok-ask-2.ensures
    ∙ asked-on _ _ _ (due (goal.at.returns c).After-ask) c.in_ok-ask.ensures))
