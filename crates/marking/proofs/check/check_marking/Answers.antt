-- `check_marking` meets its contract: behind the door it is what the check of the log answers.
-- Assumes nothing.
use mathlib.Core.Path.{◌≡◌, sym, ◌∙◌}
use Rattle.std.proofs.Common.{rules, Err}
use Rattle.event_log.specs.Checked.{answered}
use Rattle.event_log.specs.Lent.{lent_answer, history_of}
use Rattle.event_log.specs.Starts.{start_of}
use Rattle.event_log.proofs.DoorLaws.{judged-answer}
use Rattle.marking_reader.specs.File.{known, file_read}
use Rattle.marking.specs.declared.check.Unchecked.TheVariants.{HistoryRefused, MarkingRefused}
use Rattle.marking.specs.Answer.{ruling, verdict_answer}
use Rattle.marking.proofs.CheckLaws.{mapped, refused-as, refused-behind, ruled-behind}
use Rattle.marking.proofs.check.check_marking.Goals as goal
use Rattle.marking.proofs.check.check_marking.Goals.{After-judged-ruling, After-map_err}

door : (c : After-judged-ruling) → c.judged-ruling.result ≡ answered (lent_answer c.args.history.now)
    (ruling (start_of c.args.history.now.starts.now) (history_of c.args.history.now) (file_read (known (history_of c.args.history.now)) c.args.file.now))
door c = judged-answer _ _ _ _ _ (λ y p. search rules) c.judged-ruling.ensures

told : (c : After-map_err) → c.map_err.result ≡ refused-as HistoryRefused c.judged-ruling.result
told c = mapped HistoryRefused _ (λ e r p. search rules) c.judged-ruling.result c.map_err.ensures.cases

pub returns-in_err-map_err : goal.returns-in_err-map_err
unfolding verdict_answer
returns-in_err-map_err c =
    let e : c.from_residual.result ≡ Err c.in_err-map_err.field-0.0 = search rules in
    let a = c.args in
    e ∙ refused-behind (start_of a.history.now.starts.now) (history_of a.history.now) a.file.now (lent_answer a.history.now)
    (door (goal.at.returns-in_err-map_err c).After-judged-ruling)
    (sym (told (goal.at.returns-in_err-map_err c).After-map_err) ∙ c.in_err-map_err.was)

pub returns : goal.returns
unfolding verdict_answer
returns c =
    let a = c.args in
    mapped MarkingRefused _ (λ e r p. search rules) c.in_ok-map_err.field-0 c.map_err-2.ensures.cases
    ∙ ruled-behind (start_of a.history.now.starts.now) (history_of a.history.now) a.file.now (lent_answer a.history.now)
    (door (goal.at.returns c).After-judged-ruling)
    (sym (told (goal.at.returns c).After-map_err) ∙ c.in_ok-map_err.was)
