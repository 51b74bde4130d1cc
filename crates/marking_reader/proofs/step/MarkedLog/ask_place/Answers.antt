-- `ask_place` meets its contract: the first of two questions that says no.
-- Assumes nothing.
use native.Mathlib.Omega.{arith}
use mathlib.Core.Path.{◌≡◌, refl, ◌∙◌}
use mathlib.Core.Bool.{false, not}
use lib.Dec.{eqb, ltb}
use lib.ListN.{get_or}
use Rattle.std.proofs.Common.{rules, Err}
use Rattle.std.proofs.lemmas.Grind.{common_steps}
use Rattle.lists.specs.Lists.{◌and◌}
use Rattle.marking_reader.specs.State.{place_questions}
use Rattle.marking_reader.proofs.AskingLaws.{few-begun}
use Rattle.marking_reader.proofs.StepLaws.{asked-on, asked-first, asked-last}
use Rattle.marking_reader.proofs.step.MarkedLog.ask_place.Goals as goal
use Rattle.marking_reader.proofs.step.MarkedLog.ask_place.Goals.{After-ask}

free : (c : After-ask) → c.if-t-self.is_free
    ≡ (eqb c.args.progress.now.next 0 and ltb c.args.transaction c.args.self.now.begun and not (get_or c.args.progress.now.used c.args.transaction false))
unfolding ◌and◌
free c = grind (arith, common_steps)

pub bounds-progress-t : goal.bounds-progress-t
bounds-progress-t c = let few = few-begun c.args.self.now.asking in grind (arith, common_steps)

pub returns-in_err-ask : goal.returns-in_err-ask
unfolding place_questions
returns-in_err-ask c =
    let e : c.from_residual.result ≡ Err c.in_err-ask.field-0.0 = search rules in
    e ∙ asked-first _ _ _ (free (goal.at.returns-in_err-ask c).After-ask) c.in_err-ask.ensures

pub returns : goal.returns
unfolding place_questions
returns c = c.ask-2.ensures ∙ (asked-last _ _ refl ∙ asked-on _ _ _ (free (goal.at.returns c).After-ask) c.in_ok-ask.ensures)
