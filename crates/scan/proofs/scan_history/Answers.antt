-- `scan::scan_history` meets its contract: behind the door it is what its closure answers. Assumes nothing.
use mathlib.Core.Path.{◌≡◌, ◌∙◌}
use Rattle.std.proofs.Common.{rules, Err}
use Rattle.event_log.specs.Checked.{answered}
use Rattle.event_log.specs.Lent.{lent_answer, history_of}
use Rattle.event_log.proofs.DoorLaws.{judged-answer}
use Rattle.scan.specs.Logs.{scan_of}
use Rattle.scan.proofs.AnswerLaws.{door-refused, door-passed}
use Rattle.scan.proofs.scan_history.Goals as goal
use Rattle.scan.proofs.scan_history.Goals.{After-judged}

judged : (c : After-judged) → let h = c.args.history.now in c.judged.result ≡ answered (lent_answer h) (scan_of h.starts.now (history_of h))
judged c = judged-answer _ _ _ _ _ (λ y p. search rules) c.judged.ensures

pub returns-in_err-judged : goal.returns-in_err-judged
returns-in_err-judged c =
    let e : c.from_residual.result ≡ Err c.in_err-judged.field-0.0 = search rules in
    e ∙ door-refused _ _ _ _ (judged (goal.at.returns-in_err-judged c).After-judged) c.in_err-judged.was

pub returns : goal.returns
returns c = door-passed _ _ _ _ (judged (goal.at.returns c).After-judged) c.in_ok-judged.was
